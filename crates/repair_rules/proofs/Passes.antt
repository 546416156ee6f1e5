-- Passes one by one: a pass that brings something on is followed by the others, one that does not is the last. So passes that were cut off go on where
-- they stopped, and more passes than are needed add nothing.
-- Assumes nothing.
use Prim.Native.Nat.{ℕ, zero, suc, ◌+◌, ◌*◌, ◌≤◌}
use mathlib.Core.Path.{◌≡◌, refl, ap, sym, ◌∙◌}
use mathlib.Core.Bool.{Bool, true, false}
use mathlib.Core.List.{List, append_assoc}
use native.Mathlib.Omega.{arith}
use native.Mathlib.Nat.{zero-add}
use lib.ListN.{length, length-append}
use Rattle.common.specs.Choice.{when◌then◌else◌}
use Rattle.common.proofs.Choices.{either}
use Rattle.board_slots.specs.Slots.{SLOTS}
use Rattle.board_call.specs.declared.AnyCall.TheVariants.{Care}
use Rattle.board_rules.proofs.Told.{apart}
use Rattle.board_nodes.specs.Site.{Site, site_of, played_at}
use Rattle.repair_rules.specs.Repair.{Cared, Tended, and_then, is_lost, pass_from, pass_of, some_bring_on, passes_of}
use Rattle.repair_rules.specs.Log.{done_in}
use Rattle.repair_rules.specs.Promises.{DoneIsAll, PassesTakenUpAgain}

-- a pass has at most one care for each slot
pub pass_short : (k i : ℕ) (t : Site) → length (pass_from k i t).cares ≤ k
unfolding pass_from
pass_short zero i t = omega arith
pass_short (suc k) i t =
    let a = pass_short k (suc i) t in
    let b = pass_short k (suc i) (site_of (played_at (Care i) t)) in
    either (λ (w : Tended). length w.cares ≤ suc k) (is_lost t i) (omega arith) (omega arith)

module _ (n : ℕ) (t : Site) where
  pub passes_go : some_bring_on (pass_of t).cares ≡ true → passes_of (suc n) t ≡ and_then (pass_of t).cares (passes_of n (pass_of t).site)
  unfolding passes_of
  passes_go e = rw e refl

  pub passes_end : some_bring_on (pass_of t).cares ≡ false → passes_of (suc n) t ≡ pass_of t
  unfolding passes_of
  passes_end e = rw e refl

  pub done_go : some_bring_on (pass_of t).cares ≡ true → done_in (suc n) t ≡ done_in n (pass_of t).site
  unfolding done_in
  done_go e = rw e refl

  pub done_end : some_bring_on (pass_of t).cares ≡ false → done_in (suc n) t ≡ true
  unfolding done_in
  done_end e = rw e refl

-- so many passes have at most so many cares
pub passes_short : (n : ℕ) (t : Site) → length (passes_of n t).cares ≤ n * 256
unfolding passes_of
passes_short zero t = omega arith
passes_short (suc n) t =
    let a = passes_short n (pass_of t).site in
    let b = pass_short SLOTS 0 t in
    let e = length-append (pass_of t).cares (passes_of n (pass_of t).site).cares in
    either (λ (w : Tended). length w.cares ≤ suc n * 256) (some_bring_on (pass_of t).cares) (omega arith) (omega arith)

-- one pass first, the others behind it
abbrev TakenUp : ℕ → ℕ → Site → Type 0
TakenUp m n t =
    (passes_of (m + n) t ≡ and_then (passes_of m t).cares (passes_of n (passes_of m t).site)) × (done_in (m + n) t ≡ done_in n (passes_of m t).site)

pub passes_taken_up_again : PassesTakenUpAgain
unfolding passes_of done_in
passes_taken_up_again zero n t e = let z : 0 + n ≡ n = zero-add n in rw z (refl, refl)
passes_taken_up_again (suc m) n t e =
    let z : suc m + n ≡ suc (m + n) = omega arith in
    let again = passes_taken_up_again m n (pass_of t).site in
    rw z (by (some_bring_on (pass_of t).cares) again e)
  where
    cs : List Cared
    cs = (pass_of t).cares

    u : Site
    u = (pass_of t).site

    by :
        (x : Bool) →
        (done_in m u ≡ false → TakenUp m n u) →
        (when x then done_in m u else true) ≡ false →
        ((when x then and_then cs (passes_of (m + n) u) else pass_of t) ≡
        and_then (when x then and_then cs (passes_of m u) else pass_of t).cares (passes_of n (when x then and_then cs (passes_of m u) else pass_of t).site)) ×
        ((when x then done_in (m + n) u else true) ≡ done_in n (when x then and_then cs (passes_of m u) else pass_of t).site)
    by true again f =
        let p = again f in (
          ap (and_then cs) p.0 ∙
              ap (λ (l : List Cared). record { site = (passes_of n (passes_of m u).site).site; cares = l })
              (sym (append_assoc cs (passes_of m u).cares (passes_of n (passes_of m u).site).cares)),
          p.1,
        )
    by false again f = absurd (apart f)

pub done_is_all : DoneIsAll
unfolding passes_of done_in
done_is_all zero n t h e = absurd (apart (sym e))
done_is_all (suc m) zero t h e = absurd (omega arith)
done_is_all (suc m) (suc n) t h e =
    let again = done_is_all m n (pass_of t).site (omega arith) in
    by (some_bring_on (pass_of t).cares) again e
  where
    u : Site
    u = (pass_of t).site

    by :
        (x : Bool) →
        (done_in m u ≡ true → passes_of n u ≡ passes_of m u) →
        (when x then done_in m u else true) ≡ true →
        (when x then and_then (pass_of t).cares (passes_of n u) else pass_of t) ≡ (when x then and_then (pass_of t).cares (passes_of m u) else pass_of t)
    by true again f = ap (and_then (pass_of t).cares) (again f)
    by false again f = refl
