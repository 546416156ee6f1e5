-- A care of a lost slot as a visit of it: its gate stands open, so the site is what the visit leaves. And a pass, one slot at a time.
-- Assumes nothing.
use Prim.Native.Nat.{ℕ, suc, ◌<◌}
use mathlib.Core.Path.{◌≡◌, refl, ap, ◌∙◌}
use mathlib.Core.Bool.{Bool, true, false}
use mathlib.Core.List.{List, [], ◌∷◌}
use borrow.Author.Tests.{lt-leb, lt-ltb}
use lib.Dec.{leb}
use lib.ListN.{length, set}
use lib.Seq.{set-get_or}
use Rattle.std.proofs.lemmas.Bool.{and_parts}
use Rattle.agent_request.specs.Request.{in_use}
use Rattle.board_slots.specs.Slots.{SLOTS}
use Rattle.board_call.specs.declared.AnyCall.TheVariants.{Care}
use Rattle.board_rules.specs.Sent.{Visited}
use Rattle.board_rules.specs.Visit.{aim_of, named_visit}
use Rattle.board_rules.specs.Board.{slot_at}
use Rattle.board_nodes.specs.Site.{Site, SiteDone, site_of, inner, node_at, shut_at, kept_node, played_at}
use Rattle.board_nodes.specs.Visit.{care_visit, any_visit, stored_at}
use Rattle.board_nodes.proofs.Visits.{any_visit_is_played}
use Rattle.repair_rules.specs.Repair.{and_then, is_lost, told_of, pass_from}

-- the visit of a slot by a care, and what is left of a site by a visit
abbrev pub care_of : Site → ℕ → Visited
care_of t i = care_visit (slot_at (inner t) i) t.words

abbrev pub left_at : Site → ℕ → Visited → Site
left_at t i v =
    record {
      slots = set t.slots i v.request;
      nodes = set t.nodes i (kept_node 0 (slot_at (inner t) i) v.request (node_at t i));
      fenced = t.fenced;
      words = v.words;
    }

module _ (t : Site) (i : ℕ) (long : length t.slots ≡ SLOTS) (small : i < SLOTS) (lost : is_lost t i ≡ true) where
  lost_visit : played_at (Care i) t ≡ stored_at t (Care i) i (care_of t i)
  unfolding aim_of any_visit named_visit
  lost_visit =
      let used : in_use (slot_at (inner t) i) ≡ true = (and_parts (in_use (slot_at (inner t) i)) (shut_at t i) lost).0 in
      let shut : shut_at t i ≡ true = (and_parts (in_use (slot_at (inner t) i)) (shut_at t i) lost).1 in
      let far : leb SLOTS i ≡ false = lt-leb SLOTS i small in
      any_visit_is_played (Care i) t long ∙ (rw (far, used, shut, lt-ltb i SLOTS small) refl)

  pub care_leaves : site_of (played_at (Care i) t) ≡ left_at t i (care_of t i)
  care_leaves =
      ap site_of lost_visit ∙
      ap
      (λ (fs : List Bool).
      record {
        slots = (left_at t i (care_of t i)).slots;
        nodes = (left_at t i (care_of t i)).nodes;
        fenced = fs;
        words = (care_of t i).words;
      })
      (set-get_or t.fenced (node_at t i) false)

  pub care_tells : (played_at (Care i) t).answer ≡ (care_of t i).answer
  care_tells = ap (λ (d : SiteDone). d.answer) lost_visit

-- a pass goes by a slot that is not lost, and cares for one that is
pub pass_skips : (k i : ℕ) (t : Site) → is_lost t i ≡ false → pass_from (suc k) i t ≡ pass_from k (suc i) t
unfolding pass_from
pass_skips k i t e = rw e refl

pub pass_cares :
    (k i : ℕ) (t : Site) →
    is_lost t i ≡ true →
    pass_from (suc k) i t ≡ and_then (told_of i t ∷ []) (pass_from k (suc i) (site_of (played_at (Care i) t)))
unfolding pass_from
pass_cares k i t e = rw e refl
