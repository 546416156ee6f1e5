-- Why each thing stands exactly where the rule says: the definition makes three tests, and each answer is that of one of them.
-- Assumes nothing.
use Prim.Native.Nat.{ℕ, ◌+◌, ◌-◌, ◌<◌, ◌≤◌}
use mathlib.Core.Path.{◌≡◌, refl}
use mathlib.Core.Bool.{Bool, true, false}
use mathlib.Core.Logic.{⊎_elim}
use native.Mathlib.Omega.{arith}
use borrow.Author.Tests.{leb-true, leb-false, ltb-true, le-leb, lt-leb, lt-ltb, eqb-true, eqb-false, ne_eqb}
use lib.Dec.{eqb, ltb, leb}
use lib.ListN.{length}
use Rattle.common.specs.Choice.{when◌then◌else◌}
use Rattle.board_call.specs.declared.AnyCall.{AnyCall}
use Rattle.schedule_kinds.specs.Kinds.{body_of}
use Rattle.schedule_kinds.proofs.EachKind.{none_or_known, no_body, some_body}
use Rattle.schedule_bytes.specs.Schedule.{byte_at, call_at, next_of}
use Rattle.schedule_bytes.specs.Promises.{EndStandsExactly, UnknownStandsExactly, CutStandsExactly}
use Rattle.schedule_bytes.specs.declared.Next.{Next}
use Rattle.schedule_bytes.specs.declared.Next.TheVariants.{Record, End, Unknown, Cut}

-- the answer by the three tests
abbrev by : Bool → Bool → Bool → Next → Next
by x y z r = when x then End else when y then Unknown else when z then Cut else r

differ : {A : Type 0} → ◌≡◌ {A = ℕ} 0 1 → A
differ e = absurd (omega arith)

module _ (c : AnyCall) (n : ℕ) where
  is_end_law : (x y z : Bool) → by x y z (Record c n) ≡ End → x ≡ true
  is_end_law true y z e = refl
  is_end_law false true z e = differ cc
  is_end_law false false true e = differ cc
  is_end_law false false false e = differ cc

  is_unknown_law : (x y z : Bool) → by x y z (Record c n) ≡ Unknown → (x ≡ false) × (y ≡ true)
  is_unknown_law true y z e = differ cc
  is_unknown_law false true z e = (refl, refl)
  is_unknown_law false false true e = differ cc
  is_unknown_law false false false e = differ cc

  is_cut_law : (x y z : Bool) → by x y z (Record c n) ≡ Cut → (x ≡ false) × (y ≡ false) × (z ≡ true)
  is_cut_law true y z e = differ cc
  is_cut_law false true z e = differ cc
  is_cut_law false false true e = (refl, refl, refl)
  is_cut_law false false false e = differ cc

pub end_stands_exactly : EndStandsExactly
unfolding next_of
end_stands_exactly s at =
    let k = byte_at s at in (
      λ e. leb-true (length s) at (is_end_law (call_at k s (at + 1)) (at + 1 + body_of k) (leb (length s) at) (eqb (body_of k) 0) (ltb (length s - (at + 1)) (body_of k)) e),
      λ h. rw (le-leb (length s) at h) refl,
    )

pub unknown_stands_exactly : UnknownStandsExactly
unfolding next_of
unknown_stands_exactly s at = (
  λ e.
      let t = is_unknown_law (call_at (byte_at s at) s (at + 1)) (at + 1 + body_of (byte_at s at)) (leb (length s) at) (eqb (body_of (byte_at s at)) 0) (ltb (length s - (at + 1)) (body_of (byte_at s at))) e in
      let zero-body = eqb-true (body_of (byte_at s at)) 0 t.1 in
      (leb-false (length s) at t.0, ⊎_elim (λ n. n.0) (λ k. absurd (omega (arith, k.2))) (none_or_known (byte_at s at))),
  λ h. rw (lt-leb (length s) at h.0, no_body (byte_at s at) h.1) refl,
)

pub cut_stands_exactly : CutStandsExactly
unfolding next_of
cut_stands_exactly s at = (
  λ e.
      let t = is_cut_law (call_at (byte_at s at) s (at + 1)) (at + 1 + body_of (byte_at s at)) (leb (length s) at) (eqb (body_of (byte_at s at)) 0) (ltb (length s - (at + 1)) (body_of (byte_at s at))) e in
      let inside = leb-false (length s) at t.0 in
      let short = ltb-true (length s - (at + 1)) (body_of (byte_at s at)) t.2 in
      let some = eqb-false (body_of (byte_at s at)) 0 t.1 in
      let k : (0 < byte_at s at) × (byte_at s at ≤ 7) = ⊎_elim (λ n. absurd (some n.1)) (λ k. (k.0, k.1)) (none_or_known (byte_at s at)) in
      (inside, k.0, k.1, omega arith),
  λ h.
      let b = some_body (byte_at s at) h.1 h.2 in
      let a : leb (length s) at ≡ false = lt-leb (length s) at h.0 in
      let z : eqb (body_of (byte_at s at)) 0 ≡ false = ne_eqb (body_of (byte_at s at)) 0 (λ e. omega arith) in
      let y : ltb (length s - (at + 1)) (body_of (byte_at s at)) ≡ true = lt-ltb (length s - (at + 1)) (body_of (byte_at s at)) (omega (arith, h.3, h.0)) in
      rw (a, z, y) refl,
)
