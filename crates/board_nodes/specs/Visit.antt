-- A mirror of `Site`: any call as a visit of one slot, with the one bit of its gate: whether the node that it looks at is fenced. Nothing here needs
-- belief: `AnyVisitIsPlayed` (Promises) says that it is the same as playing the call.
use Rattle.std.specs.Prelude.{ℕ, Bool, true, not, List, eqb, get_or, set}
use Rattle.common.specs.Choice.{when◌then◌else◌}
use Rattle.agent_request.specs.Request.{in_use, free_request}
use Rattle.agent_request.specs.declared.Request.{Request}
use Rattle.agent_rules.specs.Life.{left_by}
use Rattle.agent_rules.specs.Care.{care_sends, care_takes}
use Rattle.agent_rules.specs.declared.Answer.TheVariants.{FreedUnasked}
use Rattle.board_call.specs.declared.Call.TheVariants.{Open, Step, Release, Show}
use Rattle.board_call.specs.declared.AnyCall.{AnyCall}
use Rattle.board_call.specs.declared.AnyCall.TheVariants.{Base, OpenAs, Fence, Care}
use Rattle.board_rules.specs.Records.{is_record}
use Rattle.board_rules.specs.Sent.{Visited, visited}
use Rattle.board_rules.specs.Visit.{open_visit, named_visit, visit_of}
use Rattle.board_rules.specs.Board.{slot_at}
use Rattle.board_rules.specs.declared.Answer.TheVariants.{Refused, Told, Fenced}
use Rattle.board_nodes.specs.Site.{Site, SiteDone, inner, node_at, fenced_at, kept_node, opens_shut, used_shut}

-- The node whose fence a call looks at or sets, n being the node of the slot that it visits.
abbrev pub watched_node : AnyCall → ℕ → ℕ
watched_node (Base (Open r m)) n = 0
watched_node (Base (Step i)) n = n
watched_node (Base (Release i)) n = n
watched_node (Base (Show r)) n = n
watched_node (OpenAs r m k) n = k
watched_node (Fence k) n = k
watched_node (Care i) n = n

-- The node for which a call opens.
abbrev pub opening_node : AnyCall → ℕ
opening_node (Base c) = 0
opening_node (OpenAs r m k) = k
opening_node (Fence k) = 0
opening_node (Care i) = 0

-- Whether that fence is there afterwards.
abbrev pub fence_after : AnyCall → Bool → Bool
fence_after (Base c) shut = shut
fence_after (OpenAs r m k) shut = shut
fence_after (Fence k) shut = true
fence_after (Care i) shut = shut

-- The number with which the gate refuses, 0 where it lets through.
abbrev pub gate_of : AnyCall → Bool → Request → List ℕ → ℕ
gate_of (Base (Open r m)) shut q ws = when opens_shut r m shut ws then 14 else 0
gate_of (Base (Step i)) shut q ws = when used_shut i q shut then 15 else 0
gate_of (Base (Release i)) shut q ws = when used_shut i q shut then 15 else 0
gate_of (Base (Show r)) shut q ws = 0
gate_of (OpenAs r m k) shut q ws = when opens_shut r m shut ws then 14 else 0
gate_of (Fence k) shut q ws = 0
gate_of (Care i) shut q ws = when used_shut i q (not shut) then 16 else 0

-- A care as a visit.
unfoldable pub care_visit : Request → List ℕ → Visited
care_visit q ws =
    when not (in_use q) then visited q ws (Refused 4) else
    when not (is_record q.«record» ws) then visited q ws (Refused 2) else
    visited
    (care_takes q (get_or ws q.«record» 0)).request
    (set ws q.«record» (left_by (care_sends q) (get_or ws q.«record» 0)))
    (Told (care_takes q (get_or ws q.«record» 0)).answer)

-- The care of a request that asks.
unfoldable pub unasked_visit : Request → List ℕ → Visited
unasked_visit q ws = when not (is_record q.«record» ws) then visited q ws (Refused 2) else visited free_request ws (Told FreedUnasked)

-- The visit behind the gate.
abbrev pub behind_gate : AnyCall → ℕ → Request → List ℕ → Visited
behind_gate (Base c) i q ws = visit_of c i q ws
behind_gate (OpenAs r m k) i q ws = open_visit r m i q ws
behind_gate (Fence k) i q ws = visited q ws Fenced
behind_gate (Care n) i q ws = named_visit n q ws (care_visit q ws)

-- The visit of the slot i, whose request is q.
unfoldable pub any_visit : AnyCall → ℕ → Bool → Request → List ℕ → Visited
any_visit o i shut q ws =
    when eqb (gate_of o shut q ws) 0
    then behind_gate o i q ws
    else visited q ws (Refused (gate_of o shut q ws))

-- What a visit of the slot i leaves of a site.
abbrev pub stored_at : Site → AnyCall → ℕ → Visited → SiteDone
stored_at t o i v =
    record {
      slots = set t.slots i v.request;
      nodes = set t.nodes i (kept_node (opening_node o) (slot_at (inner t) i) v.request (node_at t i));
      fenced = set t.fenced (watched_node o (node_at t i)) (fence_after o (fenced_at t (watched_node o (node_at t i))));
      words = v.words;
      answer = v.answer;
    }

-- The visit of the slot i by a call, with the bit of the node that it looks at.
abbrev pub visited_at : AnyCall → Site → ℕ → SiteDone
visited_at o t i = stored_at t o i (any_visit o i (fenced_at t (watched_node o (node_at t i))) (slot_at (inner t) i) t.words)
