-- A history: calls, cares among them, one after the other on one board, each on the slots and words that the one before it left, and what is
-- read off it.
use Rattle.std.specs.Prelude.{ℕ, List, [], ◌∷◌, replicate}
use Rattle.board_slots.specs.Slots.{fresh_slots}
use Rattle.board_call.specs.declared.Call.{Call}
use Rattle.board_rules.specs.declared.Answer.{Answer}
use Rattle.board_rules.specs.Board.{State, Done, state_of, begun, played}
use Rattle.board_rules.specs.Care.{cared}
use Rattle.history_promises.specs.Ledger.{Ledger, blank, noted_call, noted_care, begun_with}

-- Begin; an open, a step, a release or a show; or the care of a slot. Who may care for it is said in `board_nodes`.
pub data Move : Type 0 where
  Begin : Move
  Do : Call → Move
  Care : ℕ → Move

-- Rule 9.1: A fresh board of n words, as an accepted begin leaves it.
abbrev pub fresh : ℕ → State
fresh n = record { slots = fresh_slots; words = replicate n 0 }

abbrev pub made : Move → State → Done
made Begin s = begun s
made (Do c) s = played c s
made (Care i) s = cared i s

-- Rule 9.1: The board after some calls.
unfoldable pub after : State → List Move → State
after s [] = s
after s (m ∷ ms) = after (state_of (made m s)) ms

-- A call and its answer.
pub record Event : Type 0 where
  pub move : Move
  pub answer : Answer

-- The calls with their answers.
unfoldable pub events : State → List Move → List Event
events s [] = []
events s (m ∷ ms) = record { move = m; answer = (made m s).answer } ∷ events (state_of (made m s)) ms

abbrev pub noted : Move → Answer → Ledger → Ledger
noted Begin a L = begun_with a L
noted (Do c) a L = noted_call c a L
noted (Care i) a L = noted_care i a L

-- Section 9 of the rules: the ledger is read off calls and answers alone.
unfoldable pub read_off : Ledger → List Event → Ledger
read_off L [] = L
read_off L (e ∷ es) = read_off (noted e.move e.answer L) es

-- The ledger, and the board, after some calls on a fresh board of n words.
abbrev pub ledger_after : ℕ → List Move → Ledger
ledger_after n ms = read_off blank (events (fresh n) ms)

abbrev pub board_after : ℕ → List Move → State
board_after n ms = after (fresh n) ms

-- What a call would then be answered.
abbrev pub answer_after : ℕ → List Move → Call → Answer
answer_after n ms c = (played c (board_after n ms)).answer
