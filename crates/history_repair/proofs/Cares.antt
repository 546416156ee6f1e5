-- Why a repair is a history: each pass makes the cares that it tells of, one after the other. And why it leaves every slot in use of a fenced node if
-- there were no others: a care puts nobody into a slot, and a slot that stays in use keeps its node.
-- Assumes nothing.
use Prim.Native.Nat.{ℕ, zero, suc}
use mathlib.Core.Path.{◌≡◌, refl, ap, sym, subst, ◌∙◌}
use mathlib.Core.Bool.{Bool, true, false, not}
use mathlib.Core.Logic.{⊎_elim}
use mathlib.Core.List.{List, [], ◌∷◌, ◌++◌, map}
use lib.Dec.{leb}
use lib.ListN.{get_or}
use lib.Seq.{get_or-set_other}
use Rattle.common.proofs.Choices.{either, either_by, same_or_not}
use Rattle.agent_request.specs.Request.{in_use, free_request}
use Rattle.agent_request.specs.declared.Request.{Request}
use Rattle.board_slots.specs.Slots.{SLOTS}
use Rattle.board_call.specs.declared.AnyCall.TheVariants.{Care}
use Rattle.board_rules.specs.Records.{is_record}
use Rattle.board_rules.specs.Board.{Done, slot_at}
use Rattle.board_rules.specs.Care.{cared}
use Rattle.board_nodes.specs.Site.{Site, SiteDone, site_of, inner, node_at, fenced_at, shut_at, used_shut, cared_at, played_at}
use Rattle.repair_rules.specs.Repair.{Cared, Tended, is_lost, pass_from, pass_of, some_bring_on, passes_of, PASSES, repair_of}
use Rattle.history_nodes.specs.History.{AnyMove, fresh_site, after_at, site_at}
use Rattle.history_nodes.specs.History.AnyMove.{Do}
use Rattle.history_nodes.proofs.Nodes.{fences_kept, slot_keeps_its_node}
use Rattle.history_nodes.proofs.Demand.{after_at_both}
use Rattle.history_repair.specs.Promises.{cares_made, RepairIsAHistory, AllLost}

abbrev moves_of : List Cared → List AnyMove
moves_of cs = map (λ (c : Cared). Do (Care c.slot)) cs

moves_both : (cs ds : List Cared) → moves_of (cs ++ ds) ≡ moves_of cs ++ moves_of ds
moves_both [] ds = refl
moves_both (c ∷ cs) ds = ap (λ (ms : List AnyMove). Do (Care c.slot) ∷ ms) (moves_both cs ds)

-- the cares of what was tended lead to its site
abbrev Made : Site → Tended → Type 0
Made t p = after_at t (moves_of p.cares) ≡ p.site

pass_made : (k i : ℕ) (t : Site) → Made t (pass_from k i t)
unfolding pass_from after_at
pass_made zero i t = refl
pass_made (suc k) i t = either (Made t) (is_lost t i) (pass_made k (suc i) (site_of (played_at (Care i) t))) (pass_made k (suc i) t)

passes_made : (n : ℕ) (t : Site) → Made t (passes_of n t)
unfolding passes_of after_at
passes_made zero t = refl
passes_made (suc n) t =
    let p = pass_of t in
    let q = passes_of n p.site in
    let first : after_at t (moves_of p.cares) ≡ p.site = pass_made SLOTS 0 t in
    either (Made t) (some_bring_on p.cares)
    (ap (after_at t) (moves_both p.cares q.cares) ∙
    after_at_both (moves_of p.cares) (moves_of q.cares) t ∙
    ap (λ (u : Site). after_at u (moves_of q.cares)) first ∙
    passes_made n p.site)
    first

pub repair_is_a_history : RepairIsAHistory
repair_is_a_history n ms = after_at_both ms (cares_made (site_at n ms)) (fresh_site n) ∙ passes_made PASSES (site_at n ms)

-- a care puts nobody into a slot
module _ (t : Site) (i j : ℕ) where
  abbrev WasUsed : List Request → Type 0
  WasUsed l = in_use (get_or l j free_request) ≡ true → in_use (slot_at (inner t) j) ≡ true

  cared_used : WasUsed (cared i (inner t)).slots
  unfolding cared
  cared_used =
      either_by P (leb SLOTS i) (λ e h. h)
      (λ e. either_by P (not (in_use (slot_at (inner t) i))) (λ f h. h)
      (λ f. either_by P (not (is_record (slot_at (inner t) i).«record» t.words)) (λ g h. h)
      (λ g h. ⊎_elim
      (λ q. subst (λ (x : ℕ). in_use (slot_at (inner t) x) ≡ true) (sym q) (turned (in_use (slot_at (inner t) i)) f))
      (λ ne. ap in_use (sym (get_or-set_other t.slots i j _ free_request ne)) ∙ h)
      (same_or_not j i))))
    where
      P : Done → Type 0
      P d = WasUsed d.slots

      turned : (x : Bool) → not x ≡ false → x ≡ true
      turned true e = refl
      turned false e = sym e

  care_used : WasUsed (played_at (Care i) t).slots
  unfolding cared_at
  care_used =
      either (λ (d : SiteDone). WasUsed d.slots) (used_shut i (slot_at (inner t) i) (not (shut_at t i))) (λ h. h) cared_used

-- so where every slot in use was of a fenced node, it still is
lost_cared : (t : Site) (i : ℕ) → AllLost t → AllLost (site_of (played_at (Care i) t))
lost_cared t i all j h =
    let before = care_used t i j h in
    ap (λ (fs : List Bool). get_or fs (node_at (site_of (played_at (Care i) t)) j) false) (fences_kept (Care i) t refl) ∙
    ap (fenced_at t) (slot_keeps_its_node (Care i) t j before h) ∙ all j before

-- and so a pass, and all of them
pass_lost : (k i : ℕ) (t : Site) → AllLost t → AllLost (pass_from k i t).site
unfolding pass_from
pass_lost zero i t all = all
pass_lost (suc k) i t all =
    either (λ (p : Tended). AllLost p.site) (is_lost t i)
    (pass_lost k (suc i) (site_of (played_at (Care i) t)) (lost_cared t i all)) (pass_lost k (suc i) t all)

passes_lost : (n : ℕ) (t : Site) → AllLost t → AllLost (passes_of n t).site
unfolding passes_of
passes_lost zero t all = all
passes_lost (suc n) t all =
    let first = pass_lost SLOTS 0 t all in
    either (λ (p : Tended). AllLost p.site) (some_bring_on (pass_of t).cares) (passes_lost n (pass_of t).site first) first

pub repair_lost : (t : Site) → AllLost t → AllLost (repair_of t).site
repair_lost t all = passes_lost PASSES t all
