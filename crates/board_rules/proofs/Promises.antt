-- A refusal is made of the state itself, and every other answer is none; so a refused call leaves the state.
-- Assumes nothing.
use Prim.Native.Nat.{ℕ, ◌<◌}
use mathlib.Core.Path.{◌≡◌, refl}
use mathlib.Core.Bool.{Bool, true, false, not, ◌||◌}
use native.Mathlib.Omega.{arith}
use borrow.Author.Tests.{leb-false}
use lib.Dec.{eqb, ltb, leb}
use lib.ListN.{length}
use Rattle.common.specs.Choice.{when◌then◌else◌}
use Rattle.common.proofs.Choices.{either}
use Rattle.agent_rules.specs.Life.{step_sends, release_sends, step_takes, release_takes}
use Rattle.agent_rules.specs.declared.Verb.{Verb}
use Rattle.agent_rules.specs.declared.Taken.{Taken}
use Rattle.agent_request.specs.Request.{in_use}
use Rattle.agent_request.specs.declared.Request.{Request}
use Rattle.board_slots.specs.Slots.{SLOTS, lowest_free}
use Rattle.board_slots.proofs.Promises.{lowest_is_free, lower_are_used}
use Rattle.board_call.specs.declared.Call.{Call}
use Rattle.board_call.specs.declared.Call.TheVariants.{Open, Step, Release, Show}
use Rattle.board_rules.specs.Records.{RECORDS, is_record, refusal_of}
use Rattle.board_rules.specs.declared.Answer.{Answer}
use Rattle.board_rules.specs.declared.Answer.TheVariants.{Refused, Begun, Opened, Told}
use Rattle.board_rules.specs.Board.{State, Done, state_of, slot_at, refused, begun, opened, sent, stepped, released, shown, played}
use Rattle.board_rules.specs.Care.{cared}
use Rattle.board_rules.specs.Promises.{RefusedKeeps, RefusedBeginKeeps, OpenedIsLowest}

-- if a call is refused it leaves the state s
record Keeps (s : State) (d : Done) : Type 0 where
  kept : (n : ℕ) → d.answer ≡ Refused n → state_of d ≡ s

by_refusal : {s : State} {k : ℕ} → Keeps s (refused k s)
by_refusal = record { kept = λ n e. refl }

clash : {s : State} {d : Done} → ((n : ℕ) → d.answer ≡ Refused n → ⊥) → Keeps s d
clash f = record { kept = λ n e. absurd (f n e) }

no_told : (a : Answer) (t : _) → a ≡ Told t → (n : ℕ) → a ≡ Refused n → ⊥
no_told a t p n e = let z : ◌≡◌ {A = ℕ} 0 1 = cc in omega arith

no_opened : (k n : ℕ) → Opened k ≡ Refused n → ⊥
no_opened k n e = let z : ◌≡◌ {A = ℕ} 0 1 = cc in omega arith

no_begun : (n : ℕ) → Begun ≡ Refused n → ⊥
no_begun n e = let z : ◌≡◌ {A = ℕ} 0 1 = cc in omega arith

sent_keeps : (s : State) (i : ℕ) (q : Request) (verb : Verb) (takes : ℕ → Taken) → Keeps s (sent i q verb takes s)
unfolding sent
sent_keeps s i q verb takes = either (Keeps s) (eqb (refusal_of q verb s.words) 0) (clash (no_told _ _ refl)) by_refusal

all_keep : (s : State) (c : Call) → Keeps s (played c s)
unfolding opened stepped released shown
all_keep s (Open r m) =
    either (Keeps s) (not (is_record r s.words)) by_refusal
    (either (Keeps s) (ltb 1 m) by_refusal (either (Keeps s) (leb SLOTS (lowest_free s.slots)) by_refusal (clash (no_opened _))))
all_keep s (Step i) = either (Keeps s) (leb SLOTS i) by_refusal (sent_keeps s i (slot_at s i) (step_sends (slot_at s i)) (step_takes (slot_at s i)))
all_keep s (Release i) = either (Keeps s) (leb SLOTS i) by_refusal (sent_keeps s i (slot_at s i) (release_sends (slot_at s i)) (release_takes (slot_at s i)))
all_keep s (Show r) = record { kept = λ n e. refl }

pub refused_keeps : RefusedKeeps
refused_keeps c s n e = (all_keep s c).kept n e

-- a refused care neither
all_care : (s : State) (i : ℕ) → Keeps s (cared i s)
unfolding cared
all_care s i =
    either (Keeps s) (leb SLOTS i) by_refusal
    (either (Keeps s) (not (in_use (slot_at s i))) by_refusal
    (either (Keeps s) (not (is_record (slot_at s i).«record» s.words)) by_refusal (clash (no_told _ _ refl))))

pub refused_care_keeps : (i : ℕ) (s : State) (n : ℕ) → (cared i s).answer ≡ Refused n → state_of (cared i s) ≡ s
refused_care_keeps i s n e = (all_care s i).kept n e

begin_keeps : (s : State) → Keeps s (begun s)
unfolding begun
begin_keeps s = either (Keeps s) (eqb (length s.words) 0 || ltb RECORDS (length s.words)) by_refusal (clash no_begun)

pub refused_begin_keeps : RefusedBeginKeeps
refused_begin_keeps s n e = (begin_keeps s).kept n e

-- the slot of an accepted open
which :
    (x y f : Bool) (s : State) (k : ℕ) (a : Done) →
    (when x then refused 2 s else when y then refused 3 s else when f then refused 6 s else a).answer ≡ Opened k →
    (f ≡ false) × (a.answer ≡ Opened k)
which true y f s k a e = let z : ◌≡◌ {A = ℕ} 0 1 = cc in absurd (omega arith)
which false true f s k a e = let z : ◌≡◌ {A = ℕ} 0 1 = cc in absurd (omega arith)
which false false true s k a e = let z : ◌≡◌ {A = ℕ} 0 1 = cc in absurd (omega arith)
which false false false s k a e = (refl, e)

same_slot : (j k : ℕ) → Opened j ≡ Opened k → k ≡ j
same_slot j k e = cc

pub opened_is_lowest : OpenedIsLowest
unfolding opened
opened_is_lowest r m s k long e =
    let w = which (not (is_record r s.words)) (ltb 1 m) (leb SLOTS (lowest_free s.slots)) s k _ e in
    let at : k ≡ lowest_free s.slots = same_slot (lowest_free s.slots) k w.1 in
    let below : lowest_free s.slots < length s.slots = let h = leb-false SLOTS (lowest_free s.slots) w.0 in omega arith in
    (rw at (lowest_is_free s.slots below), λ j l. lower_are_used s.slots j (omega arith))
