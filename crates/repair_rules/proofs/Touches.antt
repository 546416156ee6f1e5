-- Why passes leave every slot that is not lost: a care touches its own slot alone, and that one is lost; no care touches a fence. So what is not lost
-- stays so.
-- Assumes nothing.
use Prim.Native.Nat.{ℕ, zero, suc, ◌+◌, ◌<◌, ◌≤◌}
use mathlib.Core.Path.{◌≡◌, refl, ap, sym, ◌∙◌, subst}
use mathlib.Core.Bool.{Bool, true, false, ◌&&◌}
use mathlib.Core.Logic.{⊎_elim}
use mathlib.Core.List.{List}
use native.Mathlib.Omega.{arith}
use lib.ListN.{length, get_or, length-set}
use lib.Seq.{get_or-set_other}
use Rattle.std.proofs.lemmas.Bool.{cases_Bool}
use Rattle.agent_request.specs.Request.{in_use, free_request}
use Rattle.agent_request.specs.declared.Request.{Request}
use Rattle.board_slots.specs.Slots.{SLOTS}
use Rattle.board_call.specs.declared.AnyCall.TheVariants.{Care}
use Rattle.board_rules.specs.Board.{slot_at}
use Rattle.board_rules.proofs.Told.{apart}
use Rattle.board_nodes.specs.Site.{Site, site_of, inner, node_at, fenced_at, played_at}
use Rattle.repair_rules.specs.Repair.{Tended, is_lost, pass_from, pass_of, some_bring_on, passes_of, PASSES}
use Rattle.repair_rules.specs.Promises.{LeavesSlot, PassTouchesLostOnly, RepairTouchesLostOnly}
use Rattle.repair_rules.proofs.Cares.{care_of, left_at, care_leaves, pass_skips, pass_cares}
use Rattle.repair_rules.proofs.Passes.{passes_go, passes_end}

-- one site after another: as many slots, the same fences, and what was not lost left
pub record Spares (t u : Site) : Type 0 where
  pub long : length u.slots ≡ length t.slots
  pub fences : u.fenced ≡ t.fenced
  pub slots : (i : ℕ) → is_lost t i ≡ false → LeavesSlot t u i

spares_itself : (t : Site) → Spares t t
spares_itself t = record { long = refl; fences = refl; slots = λ i e. (refl, refl) }

-- a slot that is left is lost or not as before
same_lost : (t u : Site) (i : ℕ) → u.fenced ≡ t.fenced → LeavesSlot t u i → is_lost u i ≡ is_lost t i
same_lost t u i f l =
    ap (λ (q : Request). in_use q && fenced_at u (node_at u i)) l.0 ∙
    ap (λ (n : ℕ). in_use (slot_at (inner t) i) && fenced_at u n) l.1 ∙
    ap (λ (fs : List Bool). in_use (slot_at (inner t) i) && get_or fs (node_at t i) false) f

spares_on : (t u v : Site) → Spares t u → Spares u v → Spares t v
spares_on t u v a b =
    record {
      long = b.long ∙ a.long;
      fences = b.fences ∙ a.fences;
      slots =
          λ i e.
          let l = a.slots i e in
          let m = b.slots i (same_lost t u i a.fences l ∙ e) in
          (m.0 ∙ l.0, m.1 ∙ l.1);
    }

module _ (t : Site) (i : ℕ) (long : length t.slots ≡ SLOTS) (small : i < SLOTS) (lost : is_lost t i ≡ true) where
  left_spares : Spares t (left_at t i (care_of t i))
  left_spares =
      record {
        long = length-set t.slots i (care_of t i).request;
        fences = refl;
        slots =
            λ j e.
            let other : j ≡ i → ⊥ = λ z. apart (sym lost ∙ ap (is_lost t) (sym z) ∙ e) in
            (get_or-set_other t.slots i j (care_of t i).request free_request other, get_or-set_other t.nodes i j _ 0 other);
      }

  care_spares : Spares t (site_of (played_at (Care i) t))
  care_spares = subst (Spares t) (sym (care_leaves t i long small lost)) left_spares

pass_spares : (k i : ℕ) (t : Site) → length t.slots ≡ SLOTS → i + k ≤ SLOTS → Spares t (pass_from k i t).site
unfolding pass_from
pass_spares zero i t long fit = spares_itself t
pass_spares (suc k) i t long fit =
    let small : i < SLOTS = omega arith in
    let fit' : suc i + k ≤ SLOTS = omega arith in
    let again : (u : Site) → length u.slots ≡ SLOTS → Spares u (pass_from k (suc i) u).site = λ u l. pass_spares k (suc i) u l fit' in
    ⊎_elim
    (λ (yes : is_lost t i ≡ true).
    let u = site_of (played_at (Care i) t) in
    let s = care_spares t i long small yes in
    subst (λ (w : Tended). Spares t w.site) (sym (pass_cares k i t yes))
    (spares_on t u (pass_from k (suc i) u).site s (again u (s.long ∙ long))))
    (λ (no : is_lost t i ≡ false). subst (λ (w : Tended). Spares t w.site) (sym (pass_skips k i t no)) (again t long))
    (cases_Bool (is_lost t i))

all_spares : (t : Site) → length t.slots ≡ SLOTS → Spares t (pass_of t).site
all_spares t long = pass_spares SLOTS 0 t long (omega arith)

pub pass_touches_lost_only : PassTouchesLostOnly
pass_touches_lost_only t long = let s = all_spares t long in (s.fences, s.slots)

passes_spare : (n : ℕ) (t : Site) → length t.slots ≡ SLOTS → Spares t (passes_of n t).site
unfolding passes_of
passes_spare zero t long = spares_itself t
passes_spare (suc n) t long =
    let s = all_spares t long in
    let again : Spares (pass_of t).site (passes_of n (pass_of t).site).site = passes_spare n (pass_of t).site (s.long ∙ long) in
    ⊎_elim
    (λ (yes : some_bring_on (pass_of t).cares ≡ true).
    subst (λ (w : Tended). Spares t w.site) (sym (passes_go n t yes))
    (spares_on t (pass_of t).site (passes_of n (pass_of t).site).site s again))
    (λ (no : some_bring_on (pass_of t).cares ≡ false). subst (λ (w : Tended). Spares t w.site) (sym (passes_end n t no)) s)
    (cases_Bool (some_bring_on (pass_of t).cares))

pub repair_touches_lost_only : RepairTouchesLostOnly
repair_touches_lost_only t long = let s = passes_spare PASSES t long in (s.fences, s.slots)
