-- Which number a call is answered with, as a table: rule 5.1 for what each number means, rule 5.2 for the order. And what the numbers of an answer say.
use Rattle.std.specs.Prelude.{ℕ, ◌<◌, ◌≤◌, ◌≡◌, Bool, true, not, ◌&&◌, ◌||◌, ◌↔◌, List, [], ◌∷◌, eqb, ltb, length, get_or}
use Rattle.common.specs.Choice.{when◌then◌else◌}
use Rattle.common.specs.Table.{Line, line, Gives, NoneApplies}
use Rattle.agent_rules.specs.Table.{is_free, is_held}
use Rattle.agent_rules.specs.declared.Answer.TheVariants as tells
use Rattle.board_slots.specs.Slots.{SLOTS, used_slots}
use Rattle.board_call.specs.declared.Call.{Call}
use Rattle.board_call.specs.declared.Call.TheVariants.{Open, Step, Release, Show}
use Rattle.board_rules.specs.Answers.{said_of, said_with, verbs_of}
use Rattle.board_rules.specs.declared.Said.{Said}
use Rattle.board_rules.specs.declared.Answer.{Answer}
use Rattle.board_rules.specs.declared.Answer.TheVariants.{Refused, Begun, Opened, Told, Shown, Fenced}
use Rattle.board_rules.specs.Board.{State, slot_at, begun, played}

-- Rule 4.2: a number that is no record.
abbrev pub no_record : ℕ → State → Bool
no_record r s = not (ltb r (length s.words)) || ltb 4095 r

-- Rules 5.1 and 5.2: the lines of each call, in their order.
abbrev pub lines_of : Call → State → List Line
lines_of (Open r m) s =
    -- the number is no record; the mode is neither 0 nor 1; all 256 slots are in use
    line 2 (no_record r s) ∷
    line 3 (ltb 1 m) ∷
    line 6 (eqb (used_slots s.slots) 256) ∷ []
lines_of (Step i) s =
    -- the slot is above 255; it is free; it is Held; its own record is none
    line 1 (ltb 255 i) ∷
    line 4 (is_free (slot_at s i)) ∷
    line 5 (is_held (slot_at s i)) ∷
    line 2 (no_record (slot_at s i).«record» s) ∷ []
lines_of (Release i) s =
    -- the slot is above 255; it is free; it is not Held; its own record is none
    line 1 (ltb 255 i) ∷
    line 4 (is_free (slot_at s i)) ∷
    line 5 (not (is_held (slot_at s i))) ∷
    line 2 (no_record (slot_at s i).«record» s) ∷ []
lines_of (Show r) s =
    line 2 (no_record r s) ∷ []

-- No words are lent, or more than 4,096.
abbrev pub lines_of_begin : State → List Line
lines_of_begin s = line 9 (eqb (length s.words) 0 || ltb 4096 (length s.words)) ∷ []

-- What is said to a call.
abbrev pub said_to : Call → State → Said
said_to c s = said_of c (played c s).answer

-- Demand D1.2: a call is refused with the number n exactly when the table gives n,
abbrev pub RefusedExactly : Type 0
RefusedExactly =
    (c : Call) (s : State) → length s.slots ≡ SLOTS →
    (n : ℕ) → 0 < n → ((said_to c s).number ≡ n) ↔ Gives n (lines_of c s)

-- is accepted exactly when none of its lines applies,
abbrev pub AcceptedExactly : Type 0
AcceptedExactly = (c : Call) (s : State) → length s.slots ≡ SLOTS → ((said_to c s).number ≡ 0) ↔ NoneApplies (lines_of c s)

-- and so is begin.
abbrev pub BeginRefusedExactly : Type 0
BeginRefusedExactly = (s : State) (n : ℕ) → 0 < n → ((said_with 0 (begun s).answer).number ≡ n) ↔ Gives n (lines_of_begin s)

abbrev pub BeginAcceptedExactly : Type 0
BeginAcceptedExactly = (s : State) → ((said_with 0 (begun s).answer).number ≡ 0) ↔ NoneApplies (lines_of_begin s)

-- An accepted begin is answered so, and leaves a fresh board (`BegunIsFresh` in history_promises).
abbrev pub BegunExactly : Type 0
BegunExactly = (s : State) → NoneApplies (lines_of_begin s) → (begun s).answer ≡ Begun

-- Rule 5.3: the outcomes that each call has where it is accepted: an open 1; a step 2 to 5, 8, 9 and 11; a release 6 and 7; a show 10.
abbrev pub outcome_of : Call → ℕ → Bool
outcome_of (Open r m) o = eqb o 1
outcome_of (Step i) o = (ltb 1 o && ltb o 6) || (eqb o 8 || (eqb o 9 || eqb o 11))
outcome_of (Release i) o = eqb o 6 || eqb o 7
outcome_of (Show r) o = eqb o 10

-- No answer has a number or an outcome that the tables lack: a call has a number from 0 to 6; accepted, an outcome of its own, and refused,
-- outcome 0.
abbrev pub NothingElseIsSaid : Type 0
NothingElseIsSaid =
    (c : Call) (s : State) →
    ((said_to c s).number ≤ 6) × ((said_to c s).number ≡ 0 → outcome_of c (said_to c s).outcome ≡ true) × (0 < (said_to c s).number → (said_to c s).outcome ≡ 0)

-- Rule 7.6: the slot beside them is the one that a step or a release names, the one that an accepted open got, and else 0;
abbrev pub slot_said : Call → Answer → ℕ
slot_said (Open r m) (Opened k) = k
slot_said (Open r m) (Refused n) = 0
slot_said (Open r m) Begun = 0
slot_said (Open r m) (Told a) = 0
slot_said (Open r m) (Shown w) = 0
slot_said (Open r m) Fenced = 0
slot_said (Step i) a = i
slot_said (Release i) a = i
slot_said (Show r) a = 0

abbrev pub in_range : Call → Type 0
in_range (Open r m) = Unit {0}
in_range (Step i) = i < 256
in_range (Release i) = i < 256
in_range (Show r) = Unit {0}

abbrev pub NamesItsSlot : Type 0
NamesItsSlot = (c : Call) (s : State) → in_range c → (said_to c s).slot ≡ slot_said c (played c s).answer

-- the value is 0 but with waiting, 3, and shown, 10.
abbrev pub ValueIsSaid : Type 0
ValueIsSaid = (c : Call) (s : State) → ((said_to c s).outcome ≡ 3 → ⊥) → ((said_to c s).outcome ≡ 10 → ⊥) → (said_to c s).value ≡ 0

-- Rule 7.4: a verb is counted for an accepted step or release, which is every accepted call but opened, 1, and shown, 10; and for nothing else.
abbrev pub VerbsAreCounted : Type 0
VerbsAreCounted =
    (c : Call) (s : State) →
    verbs_of c (played c s).answer ≡ (when eqb (said_to c s).number 0 && not (eqb (said_to c s).outcome 1 || eqb (said_to c s).outcome 10) then 1 else 0)

-- Rule 4.7: an accepted show says the word, and changes nothing.
abbrev pub ShowSaysTheWord : Type 0
ShowSaysTheWord =
    (r : ℕ) (s : State) →
    NoneApplies (lines_of (Show r) s) →
    played (Show r) s ≡ record { slots = s.slots; words = s.words; answer = Shown (get_or s.words r 0) }

-- The answer that an outcome names, with the slot and the value beside it.
abbrev pub outcome_named : ℕ → ℕ → ℕ → Answer
outcome_named o k v =
    when eqb o 1 then Opened k else
    when eqb o 2 then Told tells.Granted else
    when eqb o 3 then Told (tells.Waiting v) else
    when eqb o 4 then Told tells.Full else
    when eqb o 5 then Told tells.Withdrawn else
    when eqb o 6 then Told tells.Released else
    when eqb o 7 then Told tells.ClearingDue else
    when eqb o 8 then Told tells.Cleared else
    when eqb o 9 then Told tells.NotYetClear else
    when eqb o 10 then Shown v else
    when eqb o 11 then Told tells.Passed else
    when eqb o 12 then Told tells.FreedUnasked else
    when eqb o 13 then Fenced else Begun

-- The answer that number, outcome, slot and value name.
abbrev pub answer_named : Said → Answer
answer_named d = when eqb d.number 0 then outcome_named d.outcome d.slot d.value else Refused d.number

-- What a call is answered is exactly what its numbers name. So whatever is promised of an answer is promised of its numbers, and the other way
-- round.
abbrev pub AnswerIsItsNumbers : Type 0
AnswerIsItsNumbers = (c : Call) (s : State) → answer_named (said_to c s) ≡ (played c s).answer
