-- A refused call leaves the whole: where the gate refuses by its definition, and behind it since the base leaves slots and words, so the node stays too.
-- And the node of a slot that was opened or freed, by the visit.
-- Assumes nothing.
use Prim.Native.Nat.{ℕ, ◌<◌, ◌%◌}
use mathlib.Core.Path.{◌≡◌, refl, ap, sym, ◌∙◌}
use mathlib.Core.Bool.{Bool, true, false, not, ◌||◌}
use mathlib.Core.Logic.{⊎_elim}
use mathlib.Core.List.{List}
use native.Mathlib.Omega.{arith}
use lib.Dec.{eqb, ltb}
use lib.ListN.{length, get_or, set}
use lib.Seq.{get_or-set_same, get_or-set_other}
use Rattle.common.specs.Choice.{when◌then◌else◌}
use Rattle.common.proofs.Choices.{either, same_or_not}
use Rattle.agent_request.specs.Request.{in_use, free_request, opened_request}
use Rattle.agent_request.specs.declared.Request.{Request}
use Rattle.board_slots.specs.Slots.{lowest_free}
use Rattle.board_slots.specs.Map.{map_of}
use Rattle.board_call.specs.declared.Call.TheVariants.{Open, Step, Release, Show}
use Rattle.board_call.specs.declared.AnyCall.{AnyCall}
use Rattle.board_call.specs.declared.AnyCall.TheVariants.{Base, OpenAs, Fence, Care}
use Rattle.board_rules.specs.Records.{RECORDS, is_record}
use Rattle.board_rules.specs.Sent.{Visited, visited}
use Rattle.board_rules.specs.Visit.{open_visit}
use Rattle.board_rules.specs.Board.{State, Done, state_of, slot_at, opened, stepped, released}
use Rattle.board_rules.specs.Care.{cared}
use Rattle.board_rules.specs.declared.Answer.TheVariants.{Refused, Begun, Fenced, Opened}
use Rattle.board_rules.proofs.Promises.{refused_keeps, refused_care_keeps}
use Rattle.board_rules.proofs.Visits.{aim_small}
use Rattle.board_nodes.specs.Answers.{reported_as}
use Rattle.board_nodes.specs.Site.{Site, SiteDone, site_of, inner, node_at, fenced_at, shut_at, refused_at, kept_node, around, opens_shut, used_shut}
use Rattle.board_nodes.specs.Site.{opened_by, stepped_at, released_at, cared_at, fenced_by, shown_at, played_at, begun_at}
use Rattle.board_nodes.specs.Visit.{watched_node, opening_node, gate_of, any_visit, visited_at}
use Rattle.board_nodes.specs.Promises.{AnyRefusedKeeps, AnyRefusedBeginKeeps, PlainOpenIsByNode0, FenceLeavesTheRest, OpenedIsOfItsNode, FreedIsOfNode0, aim_at}
use Rattle.board_nodes.proofs.Visits.{same_node, any_visit_is_played}

-- if a call is refused it leaves the site t
record Keeps (t : Site) (d : SiteDone) : Type 0 where
  kept : (n : ℕ) → d.answer ≡ Refused n → site_of d ≡ t

by_refusal : {t : Site} {k : ℕ} → Keeps t (refused_at k t)
by_refusal = record { kept = λ n e. refl }

-- slots and words stay, so the node does
around_keeps : (t : Site) (i k : ℕ) (d : Done) → ((n : ℕ) → d.answer ≡ Refused n → state_of d ≡ inner t) → Keeps t (around t i k d)
around_keeps t i k d h =
    record {
      kept =
          λ n e.
          ap
          (λ (s : State).
          record {
            slots = s.slots;
            nodes = set t.nodes i (kept_node k (slot_at (inner t) i) (slot_at s i) (node_at t i));
            fenced = t.fenced;
            words = s.words;
          })
          (h n e) ∙
          ap (λ (ns : List ℕ). record { slots = t.slots; nodes = ns; fenced = t.fenced; words = t.words }) (same_node t k i (slot_at (inner t) i) refl);
    }

no_fence : (n : ℕ) → Fenced ≡ Refused n → ⊥
no_fence n e = let z : ◌≡◌ {A = ℕ} 0 1 = cc in omega arith

no_begun : (n : ℕ) → Begun ≡ Refused n → ⊥
no_begun n e = let z : ◌≡◌ {A = ℕ} 0 1 = cc in omega arith

open_keeps : (t : Site) (r m k : ℕ) → Keeps t (opened_by r m k t)
unfolding opened_by
open_keeps t r m k =
    either (Keeps t) (opens_shut r m (fenced_at t k) t.words) by_refusal (around_keeps t (lowest_free t.slots) k (opened r m (inner t)) (refused_keeps (Open r m) (inner t)))

all_keep : (t : Site) (o : AnyCall) → Keeps t (played_at o t)
unfolding stepped_at released_at cared_at fenced_by shown_at
all_keep t (Base (Open r m)) = open_keeps t r m 0
all_keep t (Base (Step i)) =
    either (Keeps t) (used_shut i (slot_at (inner t) i) (shut_at t i)) by_refusal (around_keeps t i 0 (stepped i (inner t)) (refused_keeps (Step i) (inner t)))
all_keep t (Base (Release i)) =
    either (Keeps t) (used_shut i (slot_at (inner t) i) (shut_at t i)) by_refusal (around_keeps t i 0 (released i (inner t)) (refused_keeps (Release i) (inner t)))
all_keep t (Base (Show r)) = record { kept = λ n e. refl }
all_keep t (OpenAs r m k) = open_keeps t r m k
all_keep t (Fence k) = record { kept = λ n e. absurd (no_fence n e) }
all_keep t (Care i) =
    either (Keeps t) (used_shut i (slot_at (inner t) i) (not (shut_at t i))) by_refusal (around_keeps t i 0 (cared i (inner t)) (refused_care_keeps i (inner t)))

pub any_refused_keeps : AnyRefusedKeeps
any_refused_keeps o t n e = (all_keep t o).kept n e

begin_keeps : (t : Site) → Keeps t (begun_at t)
unfolding begun_at
begin_keeps t = either (Keeps t) (eqb (length t.words) 0 || ltb RECORDS (length t.words)) by_refusal (record { kept = λ n e. absurd (no_begun n e) })

pub any_refused_begin_keeps : AnyRefusedBeginKeeps
any_refused_begin_keeps t n e = (begin_keeps t).kept n e

pub plain_open_is_by_node_0 : PlainOpenIsByNode0
plain_open_is_by_node_0 r m t = refl

pub fence_leaves_the_rest : FenceLeavesTheRest
unfolding fenced_by
fence_leaves_the_rest k t = (refl, refl, refl)

abbrev one : Bool → ℕ
one true = 1
one false = 0

apart : {A : Type 0} → true ≡ false → A
apart e = let z : ◌≡◌ {A = ℕ} 1 0 = ap one e in absurd (omega arith)

-- the node of a slot that a visit freed, and of one that it opened
freed_node :
    (t : Site) (o : AnyCall) (i j : ℕ) →
    i < length t.slots →
    i < length t.nodes →
    in_use (slot_at (inner t) j) ≡ true →
    in_use (slot_at (inner (site_of (visited_at o t i))) j) ≡ false →
    node_at (site_of (visited_at o t i)) j ≡ 0
freed_node t o i j ls ln was is = ⊎_elim here there (same_or_not i j)
  where
    v : Visited
    v = any_visit o i (fenced_at t (watched_node o (node_at t i))) (slot_at (inner t) i) t.words

    here : i ≡ j → node_at (site_of (visited_at o t i)) j ≡ 0
    here e =
        let used : in_use (slot_at (inner t) i) ≡ true = ap (λ (x : ℕ). in_use (slot_at (inner t) x)) e ∙ was in
        let free : in_use v.request ≡ false =
        ap in_use (sym (get_or-set_same t.slots i v.request free_request ls)) ∙
        ap (λ (x : ℕ). in_use (get_or (set t.slots i v.request) x free_request)) e ∙ is in
        let node : kept_node (opening_node o) (slot_at (inner t) i) v.request (node_at t i) ≡ 0 = rw (free, used) refl in
        ap (λ (x : ℕ). get_or (set t.nodes i (kept_node (opening_node o) (slot_at (inner t) i) v.request (node_at t i))) x 0) (sym e) ∙
        get_or-set_same t.nodes i (kept_node (opening_node o) (slot_at (inner t) i) v.request (node_at t i)) 0 ln ∙ node

    there : (i ≡ j → ⊥) → node_at (site_of (visited_at o t i)) j ≡ 0
    there ne = apart (sym was ∙ ap in_use (sym (get_or-set_other t.slots i j v.request free_request (λ e. ne (sym e)))) ∙ is)

pub freed_is_of_node_0 : FreedIsOfNode0
freed_is_of_node_0 o t i ls ln was is =
    let e = any_visit_is_played o t ls in
    let small = aim_small (reported_as o) (map_of t.slots) in
    ap (λ (d : SiteDone). node_at (site_of d) i) e ∙
    freed_node t o (aim_at o t) i (omega arith) (omega arith) was (ap (λ (d : SiteDone). in_use (slot_at (inner (site_of d)) i)) (sym e) ∙ is)

-- an open that is answered opened
record Opens (r m i j : ℕ) (q : Request) (v : Visited) : Type 0 where
  free : in_use q ≡ false
  slot : j ≡ i % 256
  request : v.request ≡ opened_request r m

no_opening : {A : Type 0} (n j : ℕ) → Refused n ≡ Opened j → A
no_opening n j e = let z : ◌≡◌ {A = ℕ} 0 1 = cc in absurd (omega arith)

same_slot : (a j : ℕ) → Opened a ≡ Opened j → j ≡ a
same_slot a j e = cc

opened_is :
    (x y f : Bool) (r m i j : ℕ) (q : Request) (ws : List ℕ) →
    in_use q ≡ f →
    (when x then visited q ws (Refused 2) else when y then visited q ws (Refused 3) else when f then visited q ws (Refused 6) else visited (opened_request r m) ws (Opened (i % 256))).answer ≡ Opened j →
    Opens r m i j q
    (when x then visited q ws (Refused 2) else when y then visited q ws (Refused 3) else when f then visited q ws (Refused 6) else visited (opened_request r m) ws (Opened (i % 256)))
opened_is true y f r m i j q ws u e = no_opening 2 j e
opened_is false true f r m i j q ws u e = no_opening 3 j e
opened_is false false true r m i j q ws u e = no_opening 6 j e
opened_is false false false r m i j q ws u e = record { free = u; slot = same_slot (i % 256) j e; request = refl }

opens :
    (r m k i j : ℕ) (shut : Bool) (q : Request) (ws : List ℕ) →
    (any_visit (OpenAs r m k) i shut q ws).answer ≡ Opened j →
    Opens r m i j q (any_visit (OpenAs r m k) i shut q ws)
unfolding any_visit open_visit
opens r m k i j shut q ws = by (eqb (gate_of (OpenAs r m k) shut q ws) 0)
  where
    n : ℕ
    n = gate_of (OpenAs r m k) shut q ws

    by : (x : Bool) → (when x then open_visit r m i q ws else visited q ws (Refused n)).answer ≡ Opened j → Opens r m i j q (when x then open_visit r m i q ws else visited q ws (Refused n))
    by true e = opened_is (not (is_record r ws)) (ltb 1 m) (in_use q) r m i j q ws refl e
    by false e = no_opening n j e

pub opened_is_of_its_node : OpenedIsOfItsNode
opened_is_of_its_node r m k t j ls ln told =
    let o = OpenAs r m k in
    let i = aim_at o t in
    let q = slot_at (inner t) i in
    let e = any_visit_is_played o t ls in
    let small = aim_small (Open r m) (map_of t.slots) in
    let w = opens r m k i j (fenced_at t k) q t.words (ap (λ (d : SiteDone). d.answer) (sym e) ∙ told) in
    let v = any_visit o i (fenced_at t k) q t.words in
    let at : j ≡ i = w.slot ∙ (omega arith) in
    let used : in_use v.request ≡ true = ap in_use w.request in
    let node : kept_node k q v.request (node_at t i) ≡ k = rw (used, w.free) refl in
    ap (λ (d : SiteDone). node_at (site_of d) j) e ∙ ap (λ (x : ℕ). node_at (site_of (visited_at o t i)) x) at ∙
    get_or-set_same t.nodes i (kept_node k q v.request (node_at t i)) 0 (omega arith) ∙ node
