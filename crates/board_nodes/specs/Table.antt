-- Which number any call is answered with, as a table: rule 5.1 for what each number means, rule 5.2 for the order. And what the numbers of an answer say.
use Rattle.std.specs.Prelude.{ℕ, ◌<◌, ◌≤◌, ◌≡◌, Bool, true, not, ◌&&◌, ◌||◌, ◌↔◌, ◌⊎◌, List, [], ◌∷◌, eqb, ltb, length}
use Rattle.common.specs.Choice.{when◌then◌else◌}
use Rattle.common.specs.Table.{Line, line, Gives, NoneApplies}
use Rattle.agent_rules.specs.Table.{is_free, is_held}
use Rattle.board_slots.specs.Slots.{SLOTS, used_slots}
use Rattle.board_call.specs.declared.Call.TheVariants.{Open, Step, Release, Show}
use Rattle.board_call.specs.declared.AnyCall.{AnyCall}
use Rattle.board_call.specs.declared.AnyCall.TheVariants.{Base, OpenAs, Fence, Care}
use Rattle.board_rules.specs.Answers.{said_with}
use Rattle.board_rules.specs.Board.{slot_at}
use Rattle.board_rules.specs.Table.{no_record, lines_of, lines_of_begin, outcome_of, slot_said, in_range, answer_named}
use Rattle.board_rules.specs.declared.Said.{Said}
use Rattle.board_rules.specs.declared.Answer.{Answer}
use Rattle.board_rules.specs.declared.Answer.TheVariants.{Begun}
use Rattle.board_nodes.specs.Site.{Site, inner, fenced_at, shut_at, played_at, begun_at}
use Rattle.board_nodes.specs.Answers.{said_of_any, verbs_of_any}

-- Rules 5.1 and 5.2: the lines of each call, in their order. Of an open by the node k:
abbrev pub lines_of_open : ℕ → ℕ → ℕ → Site → List Line
lines_of_open r m k t =
    -- the number is no record; the mode is neither 0 nor 1; the node is fenced; all 256 slots are in use
    line 2 (no_record r (inner t)) ∷
    line 3 (ltb 1 m) ∷
    line 14 (fenced_at t k) ∷
    line 6 (eqb (used_slots t.slots) 256) ∷ []

-- of any call. A plain open is by node 0; a show has its line of the base; a fence has none, and is always accepted.
abbrev pub lines_of_any : AnyCall → Site → List Line
lines_of_any (Base (Open r m)) t = lines_of_open r m 0 t
lines_of_any (Base (Step i)) t =
    -- the slot is above 255; it is free; its node is fenced; it is Held; its own record is none
    line 1 (ltb 255 i) ∷
    line 4 (is_free (slot_at (inner t) i)) ∷
    line 15 (shut_at t i) ∷
    line 5 (is_held (slot_at (inner t) i)) ∷
    line 2 (no_record (slot_at (inner t) i).«record» (inner t)) ∷ []
lines_of_any (Base (Release i)) t =
    -- the slot is above 255; it is free; its node is fenced; it is not Held; its own record is none
    line 1 (ltb 255 i) ∷
    line 4 (is_free (slot_at (inner t) i)) ∷
    line 15 (shut_at t i) ∷
    line 5 (not (is_held (slot_at (inner t) i))) ∷
    line 2 (no_record (slot_at (inner t) i).«record» (inner t)) ∷ []
lines_of_any (Base (Show r)) t = lines_of (Show r) (inner t)
lines_of_any (OpenAs r m k) t = lines_of_open r m k t
lines_of_any (Fence n) t = []
lines_of_any (Care i) t =
    -- the slot is above 255; it is free; its node is not fenced; its own record is none
    line 1 (ltb 255 i) ∷
    line 4 (is_free (slot_at (inner t) i)) ∷
    line 16 (not (shut_at t i)) ∷
    line 2 (no_record (slot_at (inner t) i).«record» (inner t)) ∷ []

-- What is said to any call.
abbrev pub said_to_any : AnyCall → Site → Said
said_to_any o t = said_of_any o (played_at o t).answer

-- Demand D1.2: a call is refused with the number n exactly when the table gives n,
abbrev pub AnyRefusedExactly : Type 0
AnyRefusedExactly =
    (o : AnyCall) (t : Site) → length t.slots ≡ SLOTS →
    (n : ℕ) → 0 < n → ((said_to_any o t).number ≡ n) ↔ Gives n (lines_of_any o t)

-- is accepted exactly when none of its lines applies,
abbrev pub AnyAcceptedExactly : Type 0
AnyAcceptedExactly =
    (o : AnyCall) (t : Site) → length t.slots ≡ SLOTS → ((said_to_any o t).number ≡ 0) ↔ NoneApplies (lines_of_any o t)

-- and so is begin, by the line that it has without nodes.
abbrev pub AnyBeginRefusedExactly : Type 0
AnyBeginRefusedExactly =
    (t : Site) (n : ℕ) → 0 < n → ((said_with 0 (begun_at t).answer).number ≡ n) ↔ Gives n (lines_of_begin (inner t))

abbrev pub AnyBeginAcceptedExactly : Type 0
AnyBeginAcceptedExactly = (t : Site) → ((said_with 0 (begun_at t).answer).number ≡ 0) ↔ NoneApplies (lines_of_begin (inner t))

-- An accepted begin is answered begun.
abbrev pub AnyBegunExactly : Type 0
AnyBegunExactly = (t : Site) → NoneApplies (lines_of_begin (inner t)) → (begun_at t).answer ≡ Begun

-- Rule 5.3: the outcomes that each call has where it is accepted: one of the base as there; an open by a node 1; a fence 13; a care 2, 3, 5 to 9, 11
-- and 12. Full, 4, is told to who asks, and a care asks for nobody.
abbrev pub outcome_of_any : AnyCall → ℕ → Bool
outcome_of_any (Base c) o = outcome_of c o
outcome_of_any (OpenAs r m k) o = eqb o 1
outcome_of_any (Fence n) o = eqb o 13
outcome_of_any (Care i) o = (eqb o 2 || eqb o 3) || ((ltb 4 o && ltb o 10) || (eqb o 11 || eqb o 12))

-- Rule 5.1: the numbers of calls: 0 to 6, and 14 to 16.
abbrev pub NumberOfACall : ℕ → Type 0
NumberOfACall n = (n ≤ 6) ⊎ ((14 ≤ n) × (n ≤ 16))

-- No answer has a number or an outcome that the tables lack: accepted, a call has an outcome of its own, and refused, outcome 0.
abbrev pub NothingElseIsSaidAny : Type 0
NothingElseIsSaidAny =
    (o : AnyCall) (t : Site) →
    NumberOfACall (said_to_any o t).number ×
    ((said_to_any o t).number ≡ 0 → outcome_of_any o (said_to_any o t).outcome ≡ true) ×
    (0 < (said_to_any o t).number → (said_to_any o t).outcome ≡ 0)

-- Rule 7.6: the slot beside them is the one that a step, a release or a care names, the one that an accepted open got, and else 0;
abbrev pub slot_said_any : AnyCall → Answer → ℕ
slot_said_any (Base c) a = slot_said c a
slot_said_any (OpenAs r m k) a = slot_said (Open r m) a
slot_said_any (Fence n) a = 0
slot_said_any (Care i) a = i

abbrev pub in_range_any : AnyCall → Type 0
in_range_any (Base c) = in_range c
in_range_any (OpenAs r m k) = Unit {0}
in_range_any (Fence n) = Unit {0}
in_range_any (Care i) = i < 256

abbrev pub AnyNamesItsSlot : Type 0
AnyNamesItsSlot = (o : AnyCall) (t : Site) → in_range_any o → (said_to_any o t).slot ≡ slot_said_any o (played_at o t).answer

-- the value is 0 but with waiting, 3, and shown, 10.
abbrev pub AnyValueIsSaid : Type 0
AnyValueIsSaid =
    (o : AnyCall) (t : Site) → ((said_to_any o t).outcome ≡ 3 → ⊥) → ((said_to_any o t).outcome ≡ 10 → ⊥) → (said_to_any o t).value ≡ 0

-- Rule 7.4: a verb is counted for every accepted call but opened, 1, shown, 10, freed unasked, 12, and fenced, 13; and for nothing else.
abbrev pub verbs_said : Said → ℕ
verbs_said d =
    when eqb d.number 0 && not ((eqb d.outcome 1 || eqb d.outcome 10) || (eqb d.outcome 12 || eqb d.outcome 13)) then 1 else 0

abbrev pub AnyVerbsAreCounted : Type 0
AnyVerbsAreCounted = (o : AnyCall) (t : Site) → verbs_of_any o (played_at o t).answer ≡ verbs_said (said_to_any o t)

-- What any call is answered is exactly what its numbers name, as for the calls of the base.
abbrev pub AnyAnswerIsItsNumbers : Type 0
AnyAnswerIsItsNumbers = (o : AnyCall) (t : Site) → answer_named (said_to_any o t) ≡ (played_at o t).answer
