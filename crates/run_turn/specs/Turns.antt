-- A mirror of one record of `Run`: what a visit leaves, told in the report and counted. Nothing here needs belief: `TurnIsPlayed`, at the end, says
-- that it is the call played.
use Rattle.std.specs.Prelude.{ℕ, ◌≡◌, List, length, set}
use Rattle.board_slots.specs.Slots.{SLOTS}
use Rattle.board_call.specs.declared.AnyCall.{AnyCall}
use Rattle.board_rules.specs.Board.{slot_at}
use Rattle.board_rules.specs.Sent.{Visited}
use Rattle.board_nodes.specs.Site.{Site, inner, node_at, fenced_at, played_at}
use Rattle.board_nodes.specs.Answers.{said_of_any, verbs_of_any}
use Rattle.board_nodes.specs.Visit.{watched_node, any_visit, visited_at}
use Rattle.board_nodes.specs.Promises.{aim_at}
use Rattle.run_entry.specs.Entry.{put_of}
use Rattle.run_turn.specs.declared.Turned.{Turned}

-- The request that the slot gets, and how many verbs the call counts.
abbrev pub turn_leaves : AnyCall → Visited → Turned
turn_leaves o v = record { request = v.request; verbs = verbs_of_any o v.answer }

-- The report with the call's entry at a place.
abbrev pub reported : List ℕ → ℕ → AnyCall → Visited → List ℕ
reported report at o v = put_of report at (said_of_any o v.answer)

-- The visit of the slot that a call aims at.
abbrev pub visit_at : AnyCall → Site → Visited
visit_at o t = any_visit o (aim_at o t) (fenced_at t (watched_node o (node_at t (aim_at o t)))) (slot_at (inner t) (aim_at o t)) t.words

-- A turn at that slot leaves the slots, the nodes, the fences, the words, the report and the verbs that playing the call leaves.
pub record Turns (o : AnyCall) (t : Site) (report : List ℕ) (at : ℕ) : Type 0 where
  pub slots : set t.slots (aim_at o t) (turn_leaves o (visit_at o t)).request ≡ (played_at o t).slots
  pub nodes : (visited_at o t (aim_at o t)).nodes ≡ (played_at o t).nodes
  pub fenced : (visited_at o t (aim_at o t)).fenced ≡ (played_at o t).fenced
  pub words : (visit_at o t).words ≡ (played_at o t).words
  pub verbs : (turn_leaves o (visit_at o t)).verbs ≡ verbs_of_any o (played_at o t).answer
  pub told : reported report at o (visit_at o t) ≡ put_of report at (said_of_any o (played_at o t).answer)

abbrev pub TurnIsPlayed : Type 0
TurnIsPlayed = (o : AnyCall) (t : Site) → length t.slots ≡ SLOTS → (report : List ℕ) (at : ℕ) → Turns o t report at
