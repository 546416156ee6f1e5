-- A caretaker's turn on a slot, on slots and words alone: who may make it is said in `board_nodes`.
use Rattle.std.specs.Prelude.{ℕ, ◌<◌, ◌≡◌, true, not, leb, get_or, set}
use Rattle.common.specs.Choice.{when◌then◌else◌}
use Rattle.agent_request.specs.Request.{phase_of, in_use, free_request}
use Rattle.agent_request.specs.declared.Phase.TheVariants.{Asking, Waiting, Held, Owing, Clearing}
use Rattle.agent_rules.specs.Life.{left_by}
use Rattle.agent_rules.specs.Care.{care_sends, care_takes}
use Rattle.agent_rules.specs.declared.Answer.TheVariants.{FreedUnasked}
use Rattle.board_slots.specs.Slots.{SLOTS}
use Rattle.board_rules.specs.Records.{is_record}
use Rattle.board_rules.specs.declared.Answer.TheVariants.{Told}
use Rattle.board_rules.specs.Board.{State, Done, refused, slot_at, stepped, released}

-- The word of a slot's own record.
abbrev pub word_of : State → ℕ → ℕ
word_of s i = get_or s.words (slot_at s i).«record» 0

-- Rules 4.13 and 5.2: 1, 4 and 2, the last on the slot's own record; else what the care sends changes the word, and the request becomes what the
-- care makes of the word that was there. There is no 5: whatever the phase, something is done.
unfoldable pub cared : ℕ → State → Done
cared i s =
    when leb SLOTS i then refused 1 s else
    when not (in_use (slot_at s i)) then refused 4 s else
    when not (is_record (slot_at s i).«record» s.words) then refused 2 s else
    record {
      slots = set s.slots i (care_takes (slot_at s i) (word_of s i)).request;
      words = set s.words (slot_at s i).«record» (left_by (care_sends (slot_at s i)) (word_of s i));
      answer = Told (care_takes (slot_at s i) (word_of s i)).answer;
    }

-- What a care makes: of a Held slot its release, of a slot that waits, owes or clears its step;
abbrev pub CareReleases : Type 0
CareReleases = (i : ℕ) (s : State) → phase_of (slot_at s i).phase ≡ Held → cared i s ≡ released i s

abbrev pub CareSteps : Type 0
CareSteps =
    (i : ℕ) (s : State) →
    (phase_of (slot_at s i).phase ≡ Waiting → cared i s ≡ stepped i s) ×
    (phase_of (slot_at s i).phase ≡ Owing → cared i s ≡ stepped i s) ×
    (phase_of (slot_at s i).phase ≡ Clearing → cared i s ≡ stepped i s)

-- and of one that asks neither: the slot is free, and no word has changed.
abbrev pub CareFrees : Type 0
CareFrees =
    (i : ℕ) (s : State) →
    i < SLOTS →
    phase_of (slot_at s i).phase ≡ Asking →
    is_record (slot_at s i).«record» s.words ≡ true →
    cared i s ≡ record { slots = set s.slots i free_request; words = s.words; answer = Told FreedUnasked }
