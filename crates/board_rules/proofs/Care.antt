-- A care is the release of a Held slot, the step of one that waits, owes or clears, and frees one that asks: in each phase the care's verb and the
-- care's result are those, and the tests before it are the same.
-- Assumes nothing.
use Prim.Native.Nat.{ℕ}
use mathlib.Core.Path.{◌≡◌, refl, ap, ◌∙◌}
use mathlib.Core.Bool.{Bool, true, false, not}
use mathlib.Core.List.{List}
use borrow.Author.Tests.{lt-leb}
use lib.Dec.{eqb, leb}
use lib.ListN.{set}
use lib.Seq.{set-get_or}
use Rattle.common.specs.Choice.{when◌then◌else◌}
use Rattle.agent_request.specs.Request.{phase_of, used_phase, in_use, free_request}
use Rattle.agent_request.specs.declared.Phase.{Phase}
use Rattle.agent_request.specs.declared.Phase.TheVariants.{Waiting, Owing, Clearing}
use Rattle.agent_rules.specs.Life.{left_by, step_sends, step_sends_in, step_takes, release_sends, release_sends_in, release_takes}
use Rattle.agent_rules.specs.Care.{care_sends, care_sends_in, care_takes, care_takes_in}
use Rattle.agent_rules.specs.declared.Verb.{Verb}
use Rattle.agent_rules.specs.declared.Answer.TheVariants.{FreedUnasked}
use Rattle.agent_rules.specs.declared.Taken.{Taken}
use Rattle.board_slots.specs.Slots.{SLOTS}
use Rattle.board_rules.specs.Records.{is_record, is_nothing, refusal_of}
use Rattle.board_rules.specs.declared.Answer.TheVariants.{Told}
use Rattle.board_rules.specs.Board.{State, Done, refused, slot_at, sent, stepped, released}
use Rattle.board_rules.specs.Care.{word_of, cared, CareReleases, CareSteps, CareFrees}

-- a verb that goes out for the slot i, and its result taken
abbrev gone : ℕ → Verb → (ℕ → Taken) → State → Done
gone i verb takes s =
    record {
      slots = set s.slots i (takes (word_of s i)).request;
      words = set s.words (slot_at s i).«record» (left_by verb (word_of s i));
      answer = Told (takes (word_of s i)).answer;
    }

-- the tests of a care and of a sent verb, where the slot is in use and sends one
tests :
    (y : Bool) (s : State) (d : Done) →
    (when not true then refused 4 s else when not y then refused 2 s else d) ≡
    (when eqb (when not true then 4 else when false then 5 else when not y then 2 else 0) 0 then d else refused
    (when not true then 4 else when false then 5 else when not y then 2 else 0) s)
tests true s d = refl
tests false s d = refl

same :
    (i : ℕ) (s : State) (verb : Verb) (takes : ℕ → Taken) →
    in_use (slot_at s i) ≡ true →
    is_nothing verb ≡ false →
    care_sends (slot_at s i) ≡ verb →
    care_takes (slot_at s i) (word_of s i) ≡ takes (word_of s i) →
    cared i s ≡ (when leb SLOTS i then refused 1 s else sent i (slot_at s i) verb takes s)
unfolding cared sent refusal_of
same i s verb takes used one e f =
    rw (e, f, used, one) (ap (λ (d : Done). when leb SLOTS i then refused 1 s else d) (tests (is_record (slot_at s i).«record» s.words) s
    (gone i verb takes s)))

pub care_releases : CareReleases
unfolding care_sends care_takes released release_sends
care_releases i s p =
    same i s (release_sends (slot_at s i)) (release_takes (slot_at s i)) (ap used_phase p) (ap (λ (x : Phase). is_nothing (release_sends_in x (slot_at s i))) p)
    (ap (λ (x : Phase). care_sends_in x (slot_at s i)) p) (ap (λ (x : Phase). care_takes_in x (slot_at s i) (word_of s i)) p)

steps :
    (i : ℕ) (s : State) (p : Phase) →
    used_phase p ≡ true →
    is_nothing (step_sends_in p (slot_at s i)) ≡ false →
    care_sends_in p (slot_at s i) ≡ step_sends (slot_at s i) →
    care_takes_in p (slot_at s i) (word_of s i) ≡ step_takes (slot_at s i) (word_of s i) →
    phase_of (slot_at s i).phase ≡ p →
    cared i s ≡ stepped i s
unfolding care_sends care_takes stepped step_sends
steps i s p used one e f h =
    same i s (step_sends (slot_at s i)) (step_takes (slot_at s i)) (ap used_phase h ∙ used) (ap (λ (x : Phase). is_nothing (step_sends_in x (slot_at s i))) h ∙ one)
    (ap (λ (x : Phase). care_sends_in x (slot_at s i)) h ∙ e) (ap (λ (x : Phase). care_takes_in x (slot_at s i) (word_of s i)) h ∙ f)

pub care_steps : CareSteps
care_steps i s = (steps i s Waiting refl refl refl refl, steps i s Owing refl refl refl refl, steps i s Clearing refl refl refl refl)

pub care_frees : CareFrees
unfolding cared care_sends care_takes
care_frees i s small p lent =
    rw (lt-leb SLOTS i small, p, lent) (ap (λ (w : List ℕ). record { slots = set s.slots i free_request; words = w; answer = Told FreedUnasked })
    (set-get_or s.words (slot_at s i).«record» 0))
