-- The board: lent words and 256 slots, and what each call makes of them.
use Rattle.std.specs.Prelude.{ℕ, not, ◌||◌, List, eqb, ltb, leb, length, get_or, set, replicate}
use Rattle.common.specs.Choice.{when◌then◌else◌}
use Rattle.agent_request.specs.Request.{free_request, opened_request}
use Rattle.agent_request.specs.declared.Request.{Request}
use Rattle.agent_rules.specs.Life.{left_by, step_sends, release_sends, step_takes, release_takes}
use Rattle.agent_rules.specs.declared.Verb.{Verb}
use Rattle.agent_rules.specs.declared.Taken.{Taken}
use Rattle.board_slots.specs.Slots.{SLOTS, lowest_free, fresh_slots}
use Rattle.board_call.specs.declared.Call.{Call}
use Rattle.board_call.specs.declared.Call.TheVariants.{Open, Step, Release, Show}
use Rattle.board_rules.specs.Records.{RECORDS, is_record, refusal_of}
use Rattle.board_rules.specs.declared.Answer.{Answer}
use Rattle.board_rules.specs.declared.Answer.TheVariants.{Refused, Begun, Opened, Told, Shown}

-- Rule 4.1: What the board keeps and what it is lent.
pub record State : Type 0 where
  pub slots : List Request
  pub words : List ℕ

-- A state with the answer that led to it.
pub record Done : Type 0 where
  pub slots : List Request
  pub words : List ℕ
  pub answer : Answer

abbrev pub state_of : Done → State
state_of d = record { slots = d.slots; words = d.words }

-- Rule 4.9: A refusal changes no word and no slot.
abbrev pub refused : ℕ → State → Done
refused n s = record { slots = s.slots; words = s.words; answer = Refused n }

-- Rules 4.3 and 5.1: Begin: 9 for 0 words or more than 4,096; else all lent words 0 and all slots free.
unfoldable pub begun : State → Done
begun s =
    when eqb (length s.words) 0 || ltb RECORDS (length s.words)
    then refused 9 s
    else record { slots = fresh_slots; words = replicate (length s.words) 0; answer = Begun }

-- Rules 4.4 and 5.2: Open: 2, 3, 6 in this order; else the lowest free slot asks. No verb.
unfoldable pub opened : ℕ → ℕ → State → Done
opened r m s =
    when not (is_record r s.words) then refused 2 s else
    when ltb 1 m then refused 3 s else
    when leb SLOTS (lowest_free s.slots) then refused 6 s else
    record {
      slots = set s.slots (lowest_free s.slots) (opened_request r m);
      words = s.words;
      answer = Opened (lowest_free s.slots);
    }

-- Rules 4.5, 4.6 and 5.2: The verb sent for the slot i, whose request is q, and its result taken: the verb changes the record's word, and the
-- request becomes what it makes of the word that was there.
unfoldable pub sent : ℕ → Request → Verb → (ℕ → Taken) → State → Done
sent i q verb takes s =
    when eqb (refusal_of q verb s.words) 0
    then
    record {
      slots = set s.slots i (takes (get_or s.words q.«record» 0)).request;
      words = set s.words q.«record» (left_by verb (get_or s.words q.«record» 0));
      answer = Told (takes (get_or s.words q.«record» 0)).answer;
    }
    else refused (refusal_of q verb s.words) s

-- The request in a slot.
abbrev pub slot_at : State → ℕ → Request
slot_at s i = get_or s.slots i free_request

-- Rules 4.5 and 5.2: Step: 1 for a slot above 255, then as above with the phase's verb.
unfoldable pub stepped : ℕ → State → Done
stepped i s = when leb SLOTS i then refused 1 s else sent i (slot_at s i) (step_sends (slot_at s i)) (step_takes (slot_at s i)) s

-- Rules 4.6 and 5.2: Release: the same with the release verb.
unfoldable pub released : ℕ → State → Done
released i s = when leb SLOTS i then refused 1 s else sent i (slot_at s i) (release_sends (slot_at s i)) (release_takes (slot_at s i)) s

-- Rules 4.7 and 5.2: Show: 2, else the word.
unfoldable pub shown_of : ℕ → List ℕ → Answer
shown_of r words = when is_record r words then Shown (get_or words r 0) else Refused 2

-- It changes nothing.
unfoldable pub shown : ℕ → State → Done
shown r s = record { slots = s.slots; words = s.words; answer = shown_of r s.words }

-- Any call.
abbrev pub played : Call → State → Done
played (Open r m) s = opened r m s
played (Step i) s = stepped i s
played (Release i) s = released i s
played (Show r) s = shown r s
