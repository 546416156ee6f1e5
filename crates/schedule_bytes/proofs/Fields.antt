-- A body's fields as the code reads them: one byte, or two low first. Both are the number that so many bytes make (`one`, `two`).
-- Assumes nothing.
use Prim.Native.Nat.{ℕ, zero, suc, ◌+◌, ◌*◌, ◌-◌, ◌<◌, ◌≤◌}
use mathlib.Core.Path.{◌≡◌, refl, ap, ◌∙◌}
use mathlib.Core.Logic.{◌≢◌, ⊎_elim}
use mathlib.Core.List.{List, [], ◌∷◌}
use native.Mathlib.Omega.{arith}
use native.Mathlib.Nat.{add_assoc, add-zero}
use borrow.Author.Tests.{ne_eqb, lt-leb, le-ltb}
use lib.ListN.{length, take, drop, length-drop}
use Rattle.std.proofs.lemmas.List.{get_or-drop, take_rest}
use Rattle.std.specs.Prelude.{Some}
use Rattle.common.specs.Choice.{but}
use Rattle.common.proofs.But.{some_but}
use Rattle.board_call.specs.declared.AnyCall.{AnyCall}
use Rattle.board_call.specs.declared.AnyCall.TheVariants.{OpenAs}
use Rattle.schedule_kinds.specs.Kinds.{widths_of, body_of, call_of}
use Rattle.schedule_kinds.proofs.EachKind.{none_or_known}
use Rattle.schedule_bytes.specs.Schedule.{byte_at, number_at, numbers_at, call_at, next_of}
use Rattle.schedule_bytes.specs.declared.Next.TheVariants.{Record}

pub one : (s : List ℕ) (i : ℕ) → number_at 1 s i ≡ byte_at s i
unfolding number_at
one s i = omega arith

pub two : (s : List ℕ) (i : ℕ) → number_at 2 s i ≡ byte_at s i + byte_at s (i + 1) * 256
unfolding number_at
two s i = omega arith

-- the last byte of an open by a node stands three behind the first
pub open_as : (s : List ℕ) (i : ℕ) → call_at 5 s i ≡ OpenAs (byte_at s i + byte_at s (i + 1) * 256) (byte_at s (i + 2)) (byte_at s (i + 3))
unfolding call_at call_of numbers_at widths_of
open_as s i = simp (one, two, add_assoc)

-- a kind that has a body and is none of 1 to 6 is 7
pub seventh : (k : ℕ) → (body_of k ≡ 0 → ⊥) → k ≢ 1 → k ≢ 2 → k ≢ 3 → k ≢ 4 → k ≢ 5 → k ≢ 6 → k ≡ 7
seventh k h a b c d e f = ⊎_elim (λ n. absurd (h n.1)) (λ y. omega (arith, y.0, y.1)) (none_or_known k)

-- what is read in a slice that begins at a place is what is read from that place on
module _ (at : ℕ) (s : List ℕ) where
  number_behind : (w i : ℕ) → number_at w (drop at s) i ≡ number_at w s (at + i)
  unfolding number_at
  number_behind zero i = refl
  number_behind (suc w) i = rw (get_or-drop at s i 0, number_behind w (i + 1), add_assoc at i 1) refl

  numbers_behind : (ws : List ℕ) (i : ℕ) → numbers_at ws (drop at s) i ≡ numbers_at ws s (at + i)
  unfolding numbers_at
  numbers_behind [] i = refl
  numbers_behind (w ∷ ws) i = rw (number_behind w i, numbers_behind ws (i + w), add_assoc at i w) refl

  pub call_behind : (k : ℕ) → call_at k (drop at s) 0 ≡ call_at k s at
  unfolding call_at
  call_behind k = rw (numbers_behind (widths_of k) 0, add-zero at) refl

-- what is read of a whole record is what stands there
pub record_at :
    (s : List ℕ) (at k : ℕ) →
    at < length s →
    k ≡ byte_at s at →
    (n : ℕ) →
    Some n ≡ but 0 (body_of k) →
    n ≤ length (take (length s - (at + 1)) (drop (at + 1) s)) →
    (c : AnyCall) →
    c ≡ call_at k (take (length s - (at + 1)) (drop (at + 1) s)) 0 →
    Record c (at + 1 + n) ≡ next_of s at
unfolding next_of
record_at s at k inside kind n body whole c is =
    let all : take (length s - (at + 1)) (drop (at + 1) s) ≡ drop (at + 1) s = take_rest s (at + 1) in
    let long = ap length all ∙ length-drop (at + 1) s in
    let known = some_but 0 (body_of k) n body in
    let a = lt-leb (length s) at inside in
    let z = ne_eqb (body_of k) 0 known.0 in
    let y = le-ltb (length s - (at + 1)) (body_of k) (omega arith) in
    rw (← kind, a, z, y, is, all, call_behind (at + 1) s k, known.1) refl
