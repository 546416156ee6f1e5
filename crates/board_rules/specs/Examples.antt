-- One row for each number that a call on the board gives back, and one claim over all of them.
use Rattle.std.specs.Prelude.{ℕ, ◌≡◌, List, [], ◌∷◌, map, replicate}
use Rattle.agent_request.specs.Request.{phase_number, free_request, opened_request}
use Rattle.agent_request.specs.declared.Request.{Request}
use Rattle.agent_request.specs.declared.Phase.{Phase}
use Rattle.agent_request.specs.declared.Phase.TheVariants.{Free, Asking, Waiting, Held, Owing, Clearing}
use Rattle.board_slots.specs.Slots.{fresh_slots}
use Rattle.board_call.specs.declared.Call.{Call}
use Rattle.board_call.specs.declared.Call.TheVariants.{Open, Step, Release, Show}
use Rattle.board_rules.specs.Answers.{said_of, said_with}
use Rattle.board_rules.specs.declared.Said.{Said}
use Rattle.board_rules.specs.Board.{State, begun, played}

-- A state, a call, and what is said: number, outcome, slot, value.
pub record Row : Type 0 where
  pub state : State
  pub call : Call
  pub said : Said

abbrev said : ℕ → ℕ → ℕ → ℕ → Said
said n o s v = record { number = n; outcome = o; slot = s; value = v }

abbrev row : State → Call → Said → Row
row s c d = record { state = s; call = c; said = d }

-- A board with some requests in its first slots, and words.
abbrev board : List Request → List ℕ → State
board qs ws = record { slots = qs; words = ws }

abbrev fresh : List ℕ → State
fresh ws = board fresh_slots ws

abbrev in_phase : Phase → ℕ → Request
in_phase p r = record { «record» = r; mode = 0; phase = phase_number p; ticket = record { 0 = record { 0 = 0 }; 1 = record { 0 = 0 } }; clearing = 0 }

-- a Held request with a clearing word
abbrev last_held : Request
last_held = record { «record» = 0; mode = 0; phase = phase_number Held; ticket = record { 0 = record { 0 = 0 }; 1 = record { 0 = 32767 } }; clearing = 140737488388096 }

-- a word with one reader's ticket drawn and not released
abbrev asked : ℕ
asked = 1

abbrev pub rows : List Row
rows =
    -- 1: a slot above 255
    row (fresh (0 ∷ [])) (Step 256) (said 1 0 0 0) ∷
    row (fresh (0 ∷ [])) (Release 300) (said 1 0 44 0) ∷
    -- 2: a record that is not lent, or above 4,095, however many words are lent; it comes before 3
    row (fresh (0 ∷ 0 ∷ [])) (Open 2 0) (said 2 0 0 0) ∷
    row (fresh (0 ∷ 0 ∷ [])) (Open 2 9) (said 2 0 0 0) ∷
    row (fresh (0 ∷ 0 ∷ [])) (Show 2) (said 2 0 0 0) ∷
    row (fresh (replicate 5000 0)) (Show 4096) (said 2 0 0 0) ∷
    row (fresh []) (Open 0 0) (said 2 0 0 0) ∷
    row (board (in_phase Asking 7 ∷ []) (0 ∷ [])) (Step 0) (said 2 0 0 0) ∷
    row (board (in_phase Held 7 ∷ []) (0 ∷ [])) (Release 0) (said 2 0 0 0) ∷
    -- 3: a mode that is neither 0 nor 1; it comes before 6
    row (fresh (0 ∷ [])) (Open 0 2) (said 3 0 0 0) ∷
    row (board (replicate 256 (opened_request 0 0)) (0 ∷ [])) (Open 0 2) (said 3 0 0 0) ∷
    -- 4: a free slot, whatever its record; it comes before 5 and 2
    row (fresh (0 ∷ [])) (Step 3) (said 4 0 3 0) ∷
    row (board (in_phase Free 7 ∷ []) (0 ∷ [])) (Release 0) (said 4 0 0 0) ∷
    -- 5: a step on Held, a release on another; it comes before 2
    row (board (in_phase Held 7 ∷ []) (0 ∷ [])) (Step 0) (said 5 0 0 0) ∷
    row (board (in_phase Asking 7 ∷ []) (0 ∷ [])) (Release 0) (said 5 0 0 0) ∷
    row (board (in_phase Clearing 0 ∷ []) (0 ∷ [])) (Release 0) (said 5 0 0 0) ∷
    -- 6: all 256 slots in use
    row (board (replicate 256 (opened_request 0 0)) (0 ∷ [])) (Open 0 1) (said 6 0 0 0) ∷
    -- 0, with each outcome that a call can have here
    row (fresh (0 ∷ [])) (Open 0 1) (said 0 1 0 0) ∷
    row (board (in_phase Held 0 ∷ free_request ∷ fresh_slots) (0 ∷ [])) (Open 0 1) (said 0 1 1 0) ∷
    row (board (in_phase Asking 0 ∷ []) (0 ∷ [])) (Step 0) (said 0 2 0 0) ∷
    row (board (free_request ∷ in_phase Asking 0 ∷ []) (65536 ∷ [])) (Step 1) (said 0 3 1 1) ∷
    row (board (in_phase Asking 0 ∷ []) (32768 ∷ [])) (Step 0) (said 0 4 0 0) ∷
    row (board (in_phase Owing 0 ∷ []) (32769 ∷ [])) (Step 0) (said 0 5 0 0) ∷
    row (board (in_phase Held 0 ∷ []) (asked ∷ [])) (Release 0) (said 0 6 0 0) ∷
    row (board (last_held ∷ []) (0 ∷ [])) (Release 0) (said 0 7 0 0) ∷
    row (board (in_phase Clearing 0 ∷ []) (0 ∷ [])) (Step 0) (said 0 8 0 0) ∷
    row (board (in_phase Clearing 0 ∷ []) (asked ∷ [])) (Step 0) (said 0 9 0 0) ∷
    row (fresh (0 ∷ 281474976776192 ∷ [])) (Show 1) (said 0 10 0 281474976776192) ∷
    row (board (in_phase Waiting 0 ∷ []) (281474976776192 ∷ [])) (Step 0) (said 0 11 0 0) ∷
    []

-- What is said to begin with so many words: 9 for none or more than 4,096, else 0.
abbrev pub begin_number : ℕ → ℕ
begin_number n = (said_with 0 (begun (fresh (replicate n 7))).answer).number

-- The claim.
abbrev pub RowsHold : Type 0
RowsHold =
    (map (λ (r : Row). said_of r.call (played r.call r.state).answer) rows ≡ map (λ (r : Row). r.said) rows) ×
    (map begin_number (0 ∷ 1 ∷ 4096 ∷ 4097 ∷ []) ≡ 9 ∷ 0 ∷ 0 ∷ 9 ∷ [])
