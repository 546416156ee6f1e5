-- What is promised of the calls on a board with nodes and fences. Statements only: proofs/ has why each holds.
use Rattle.std.specs.Prelude.{ℕ, ◌≡◌, true, false, length}
use Rattle.agent_request.specs.Request.{in_use}
use Rattle.board_slots.specs.Slots.{SLOTS}
use Rattle.board_slots.specs.Map.{map_of}
use Rattle.board_call.specs.declared.AnyCall.{AnyCall}
use Rattle.board_call.specs.declared.Call.TheVariants.{Open}
use Rattle.board_call.specs.declared.AnyCall.TheVariants.{Base, OpenAs, Fence}
use Rattle.board_rules.specs.Board.{slot_at}
use Rattle.board_rules.specs.Visit.{aim_of}
use Rattle.board_rules.specs.declared.Answer.TheVariants.{Refused, Opened}
use Rattle.board_nodes.specs.Site.{Site, site_of, inner, node_at, played_at, begun_at}
use Rattle.board_nodes.specs.Answers.{reported_as}
use Rattle.board_nodes.specs.Visit.{visited_at}

-- Demand D1.3: a refused call changes nothing: no word, no slot, no node, no fence; a refused begin neither.
abbrev pub AnyRefusedKeeps : Type 0
AnyRefusedKeeps = (o : AnyCall) (t : Site) (n : ℕ) → (played_at o t).answer ≡ Refused n → site_of (played_at o t) ≡ t

abbrev pub AnyRefusedBeginKeeps : Type 0
AnyRefusedBeginKeeps = (t : Site) (n : ℕ) → (begun_at t).answer ≡ Refused n → site_of (begun_at t) ≡ t

-- Rule 4.10: a plain open is an open by node 0, in all that it answers and leaves;
abbrev pub PlainOpenIsByNode0 : Type 0
PlainOpenIsByNode0 = (r m : ℕ) (t : Site) → played_at (Base (Open r m)) t ≡ played_at (OpenAs r m 0) t

-- Rule 4.12: and a fence changes no slot, no node and no word.
abbrev pub FenceLeavesTheRest : Type 0
FenceLeavesTheRest =
    (k : ℕ) (t : Site) →
    ((played_at (Fence k) t).slots ≡ t.slots) × ((played_at (Fence k) t).nodes ≡ t.nodes) × ((played_at (Fence k) t).words ≡ t.words)

-- Rule 4.10: a slot that a node opened is of that node,
abbrev pub OpenedIsOfItsNode : Type 0
OpenedIsOfItsNode =
    (r m k : ℕ) (t : Site) (j : ℕ) →
    length t.slots ≡ SLOTS →
    length t.nodes ≡ SLOTS →
    (played_at (OpenAs r m k) t).answer ≡ Opened j →
    node_at (site_of (played_at (OpenAs r m k) t)) j ≡ k

-- and one that a call has freed is of node 0.
abbrev pub FreedIsOfNode0 : Type 0
FreedIsOfNode0 =
    (o : AnyCall) (t : Site) (i : ℕ) →
    length t.slots ≡ SLOTS →
    length t.nodes ≡ SLOTS →
    in_use (slot_at (inner t) i) ≡ true →
    in_use (slot_at (inner (site_of (played_at o t))) i) ≡ false →
    node_at (site_of (played_at o t)) i ≡ 0

-- The slot that a call visits, on a site of 256 slots.
abbrev pub aim_at : AnyCall → Site → ℕ
aim_at o t = aim_of (reported_as o) (map_of t.slots)

-- Any call is the visit of the slot that it aims at.
abbrev pub AnyVisitIsPlayed : Type 0
AnyVisitIsPlayed =
    (o : AnyCall) (t : Site) →
    length t.slots ≡ SLOTS →
    played_at o t ≡ visited_at o t (aim_at o t)
