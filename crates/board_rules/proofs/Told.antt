-- A verb goes out only where the agent sends one, and in a phase that sends one it tells an accepted outcome; every other answer carries nothing of
-- the agent's.
-- Assumes nothing.
use Prim.Native.Nat.{ℕ}
use mathlib.Core.Path.{◌≡◌, refl, ap, sym, ◌∙◌}
use mathlib.Core.Bool.{Bool, true, false, not}
use mathlib.Core.List.{List}
use native.Mathlib.Omega.{arith}
use lib.Dec.{eqb, ltb, leb}
use lib.ListN.{get_or}
use Rattle.common.specs.Choice.{when◌then◌else◌}
use Rattle.common.proofs.Choices.{either}
use Rattle.agent_request.specs.Request.{in_use, phase_of}
use Rattle.agent_request.specs.declared.Request.{Request}
use Rattle.agent_request.specs.declared.Phase.{Phase}
use Rattle.agent_request.specs.declared.Phase.TheVariants.{Free, Asking, Waiting, Held, Owing, Clearing}
use Rattle.agent_rules.specs.Answers.{numbers_of}
use Rattle.agent_rules.specs.Life.{step_sends, step_sends_in, step_takes, step_takes_in, release_sends, release_sends_in, release_takes, release_takes_in}
use Rattle.agent_rules.proofs.Table.{Accepted, step_number, release_number}
use Rattle.agent_rules.specs.declared.Verb.{Verb}
use Rattle.agent_rules.specs.declared.Taken.{Taken}
use Rattle.board_slots.specs.Slots.{SLOTS, lowest_free}
use Rattle.board_call.specs.declared.Call.{Call}
use Rattle.board_call.specs.declared.Call.TheVariants.{Open, Step, Release, Show}
use Rattle.board_rules.specs.Records.{is_nothing, is_record, refusal_of}
use Rattle.board_rules.specs.declared.Answer.{Answer}
use Rattle.board_rules.specs.declared.Answer.TheVariants.{Refused, Begun, Opened, Told, Shown, Fenced}
use Rattle.board_rules.specs.Board.{State, Done, slot_at, refused, opened, sent, stepped, released, shown, shown_of, played}
use Rattle.board_rules.specs.Promises.{ToldIsAccepted}

abbrev one : Bool → ℕ
one true = 1
one false = 0

pub apart : true ≡ false → ⊥
apart e = let z : ◌≡◌ {A = ℕ} 1 0 = ap one e in omega arith

-- what a verb that goes out tells is accepted
pub step_accepted : (p : Phase) (q : Request) (v : ℕ) → is_nothing (step_sends_in p q) ≡ false → Accepted (step_takes_in p q v)
step_accepted Free q v e = absurd (apart e)
step_accepted Asking q v e = record { number = step_number Asking q v }
step_accepted Waiting q v e = record { number = step_number Waiting q v }
step_accepted Held q v e = absurd (apart e)
step_accepted Owing q v e = record { number = step_number Owing q v }
step_accepted Clearing q v e = record { number = step_number Clearing q v }

pub release_accepted : (p : Phase) (q : Request) → is_nothing (release_sends_in p q) ≡ false → Accepted (release_takes_in p q)
release_accepted Free q e = absurd (apart e)
release_accepted Asking q e = absurd (apart e)
release_accepted Waiting q e = absurd (apart e)
release_accepted Held q e = record { number = release_number Held q }
release_accepted Owing q e = absurd (apart e)
release_accepted Clearing q e = absurd (apart e)

-- the number that an answer carries from the agent, 0 where it carries none
abbrev pub told_number : Answer → ℕ
told_number (Refused n) = 0
told_number Begun = 0
told_number (Opened k) = 0
told_number (Told a) = (numbers_of a).number
told_number (Shown w) = 0
told_number Fenced = 0

pub record Quiet (d : Done) : Type 0 where
  pub quiet : told_number d.answer ≡ 0

by_refusal : {s : State} {n : ℕ} → Quiet (refused n s)
by_refusal = record { quiet = refl }

by_opening : {slots : List Request} {words : List ℕ} {k : ℕ} → Quiet (record { slots = slots; words = words; answer = Opened k })
by_opening = record { quiet = refl }

-- a verb that may go out is one
pub goes_out : (x y z : Bool) → eqb (when x then 4 else when y then 5 else when z then 2 else 0) 0 ≡ true → y ≡ false
goes_out true y z e = absurd (apart (sym e))
goes_out false true z e = absurd (apart (sym e))
goes_out false false z e = refl

sent_quiet :
    (s : State) (i : ℕ) (q : Request) (verb : Verb) (takes : ℕ → Taken) →
    (is_nothing verb ≡ false → (v : ℕ) → Accepted (takes v)) →
    (x : Bool) →
    eqb (refusal_of q verb s.words) 0 ≡ x →
    Quiet (sent i q verb takes s)
unfolding sent refusal_of
sent_quiet s i q verb takes ok true e =
    let out = goes_out (not (in_use q)) (is_nothing verb) (not (is_record q.«record» s.words)) e in
    rw e (record { quiet = (ok out (get_or s.words q.«record» 0)).number })
sent_quiet s i q verb takes ok false e = rw e by_refusal

pub all_quiet : (c : Call) (s : State) → Quiet (played c s)
unfolding opened stepped released shown shown_of step_sends step_takes release_sends release_takes
all_quiet (Open r m) s =
    either Quiet (not (is_record r s.words)) by_refusal
    (either Quiet (ltb 1 m) by_refusal (either Quiet (leb SLOTS (lowest_free s.slots)) by_refusal by_opening))
all_quiet (Step i) s =
    let q = slot_at s i in
    either Quiet (leb SLOTS i) by_refusal
    (sent_quiet s i q (step_sends q) (step_takes q) (λ e v. step_accepted (phase_of q.phase) q v e) (eqb (refusal_of q (step_sends q) s.words) 0) refl)
all_quiet (Release i) s =
    let q = slot_at s i in
    either Quiet (leb SLOTS i) by_refusal
    (sent_quiet s i q (release_sends q) (release_takes q) (λ e v. release_accepted (phase_of q.phase) q e) (eqb (refusal_of q (release_sends q) s.words) 0) refl)
all_quiet (Show r) s = record { quiet = either (λ (a : Answer). told_number a ≡ 0) (is_record r s.words) refl refl }

pub told_is_accepted : ToldIsAccepted
told_is_accepted c s a e = ap told_number (sym e) ∙ (all_quiet c s).quiet
