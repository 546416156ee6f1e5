-- What is promised of the calls on a board. Statements only: proofs/ has why each holds.
use Rattle.std.specs.Prelude.{ℕ, ◌<◌, ◌≡◌, true, false, length}
use Rattle.agent_rules.specs.Answers.{numbers_of}
use Rattle.agent_rules.specs.declared.Answer as agent
use Rattle.agent_request.specs.Request.{in_use}
use Rattle.board_slots.specs.Slots.{SLOTS}
use Rattle.board_slots.specs.Map.{map_of}
use Rattle.board_call.specs.declared.Call.{Call}
use Rattle.board_call.specs.declared.Call.TheVariants.{Open}
use Rattle.board_rules.specs.Visit.{aim_of, visit_of}
use Rattle.board_rules.specs.declared.Answer.TheVariants.{Refused, Opened, Told}
use Rattle.board_rules.specs.Board.{State, state_of, slot_at, begun, played}
use Rattle.board_rules.specs.Visit.{stored}

-- A refused call leaves the whole state, a refused begin too.
abbrev pub RefusedKeeps : Type 0
RefusedKeeps = (c : Call) (s : State) (n : ℕ) → (played c s).answer ≡ Refused n → state_of (played c s) ≡ s

abbrev pub RefusedBeginKeeps : Type 0
RefusedBeginKeeps = (s : State) (n : ℕ) → (begun s).answer ≡ Refused n → state_of (begun s) ≡ s

-- The slot opened was free, and every lower one in use.
abbrev pub OpenedIsLowest : Type 0
OpenedIsLowest =
    (r m : ℕ) (s : State) (k : ℕ) →
    length s.slots ≡ SLOTS →
    (played (Open r m) s).answer ≡ Opened k →
    (in_use (slot_at s k) ≡ false) × ((j : ℕ) → j < k → in_use (slot_at s j) ≡ true)

-- A call is the visit of the slot that it aims at, on a board whose map is that of its 256 slots.
abbrev pub VisitIsPlayed : Type 0
VisitIsPlayed =
    (c : Call) (s : State) →
    length s.slots ≡ SLOTS →
    played c s ≡
    stored s (aim_of c (map_of s.slots)) (visit_of c (aim_of c (map_of s.slots)) (slot_at s (aim_of c (map_of s.slots))) s.words)

-- What the agent tells through the board is accepted: its number is 0, never 5.
abbrev pub ToldIsAccepted : Type 0
ToldIsAccepted = (c : Call) (s : State) (a : agent.Answer) → (played c s).answer ≡ Told a → (numbers_of a).number ≡ 0
