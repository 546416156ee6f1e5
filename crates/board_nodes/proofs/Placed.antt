-- What a visit of the aimed slot leaves of a board by value is what the call leaves.
-- Assumes nothing.
use Prim.Native.Nat.{ℕ}
use mathlib.Core.Path.{◌≡◌, ap, sym, subst, ◌∙◌}
use mathlib.Core.Bool.{Bool, false}
use mathlib.Core.List.{List}
use lib.ListN.{length, get_or, set}
use Rattle.agent_request.specs.Request.{free_request}
use Rattle.agent_request.specs.declared.Request.{Request}
use Rattle.board_slots.specs.Slots.{SLOTS}
use Rattle.board_slots.specs.declared.Board.{Board}
use Rattle.board_call.specs.declared.AnyCall.{AnyCall}
use Rattle.board_rules.specs.Sent.{handed}
use Rattle.board_rules.specs.declared.Played.{Played}
use Rattle.board_rules.specs.declared.Seen.{Seen}
use Rattle.board_nodes.specs.Site.{SiteDone, kept_node, played_at}
use Rattle.board_nodes.specs.Visit.{watched_node, opening_node, fence_after, any_visit, visited_at}
use Rattle.board_nodes.specs.Leaves.{Leaves, lent_to}
use Rattle.board_nodes.specs.Promises.{aim_at}
use Rattle.board_nodes.proofs.Visits.{any_visit_is_played}

pub by_visit :
    (o : AnyCall) (b : Board) (ws ws' : List ℕ) (i : ℕ) (r : Played) →
    length b.slots ≡ SLOTS →
    i ≡ aim_at o (lent_to b ws) →
    Leaves (visited_at o (lent_to b ws) i) r ws' →
    Leaves (played_at o (lent_to b ws)) r ws'
by_visit o b ws ws' i r long aim l =
    subst (λ (d : SiteDone). Leaves d r ws') (sym (any_visit_is_played o (lent_to b ws) long ∙ ap (visited_at o (lent_to b ws)) (sym aim))) l

-- what the visit was handed, the node and the fence that were found for it, stored one by one; docs/RATTLE.md names it, and nothing here needs it today
pub stored_leaves :
    (o : AnyCall) (b : Board) (ws ws' : List ℕ) (i g : ℕ) (d : Seen) (k : ℕ) (f : Bool) →
    g ≡ watched_node o (get_or b.nodes i 0) →
    d ≡ handed (any_visit o i (get_or b.fenced g false) (get_or b.slots i free_request) ws) →
    ws' ≡ (any_visit o i (get_or b.fenced g false) (get_or b.slots i free_request) ws).words →
    k ≡ kept_node (opening_node o) (get_or b.slots i free_request) d.request (get_or b.nodes i 0) →
    f ≡ fence_after o (get_or b.fenced g false) →
    Leaves (visited_at o (lent_to b ws) i)
    (record { board = record { slots = set b.slots i d.request; nodes = set b.nodes i k; fenced = set b.fenced g f }; answer = d.answer }) ws'
stored_leaves o b ws ws' i g d k f eg ed ew ek ef =
    let q = get_or b.slots i free_request in
    let e = ed ∙ ap (λ (x : ℕ). handed (any_visit o i (get_or b.fenced x false) q ws)) eg in
    let request = ap (λ (s : Seen). s.request) e in
    record {
      slots = ap (set b.slots i) request;
      nodes = ap (set b.nodes i) (ek ∙ ap (λ (x : Request). kept_node (opening_node o) q x (get_or b.nodes i 0)) request);
      fenced = ap (set b.fenced g) ef ∙ ap (λ (x : ℕ). set b.fenced x (fence_after o (get_or b.fenced x false))) eg;
      answer = ap (λ (s : Seen). s.answer) e;
      words = ew ∙ ap (λ (x : ℕ). (any_visit o i (get_or b.fenced x false) q ws).words) eg;
    }
