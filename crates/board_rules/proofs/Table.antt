-- Why a call is answered with the number that the table gives: the definition makes the same tests in the same order. And why an answer is its
-- numbers: each kind of answer has an outcome or a refusal's number of its own.
-- Assumes nothing.
use Prim.Native.Nat.{ℕ, zero, suc, ◌+◌, ◌%◌, ◌<◌, ◌≤◌}
use mathlib.Core.Path.{◌≡◌, refl, ap, sym, ◌∙◌}
use mathlib.Core.Bool.{Bool, true, false, not, ◌&&◌, ◌||◌, and-false}
use mathlib.Core.List.{List}
use native.Mathlib.Omega.{arith}
use native.Mathlib.Nat.{zero-add}
use borrow.Author.Tests.{ltb-true, ltb-false, lt-ltb, le-ltb, le-leb, lt-leb, eqb-true, eqb-false, ne_eqb, not-false}
use lib.Dec.{eqb, ltb, leb}
use lib.ListN.{length, get_or}
use Rattle.common.specs.Choice.{when◌then◌else◌}
use Rattle.common.proofs.Choices.{either, either_by}
use Rattle.common.proofs.Tables.{number_in, Real, gives_it, it_gives, none_applies, applies_none}
use Rattle.word_layout.specs.Word.{split_of}
use Rattle.word_layout.specs.declared.Counters.{Counters}
use Rattle.agent_ceiling.specs.Ceiling.{full_at}
use Rattle.agent_ticket.specs.Turn.{turn_of}
use Rattle.agent_ticket.specs.declared.Turn.{Turn}
use Rattle.agent_ticket.specs.declared.Turn.TheVariants as turn
use Rattle.agent_request.specs.Request.{NONE, used_phase, phase_of, mode_of, in_use}
use Rattle.agent_request.specs.declared.Request.{Request}
use Rattle.agent_request.specs.declared.Phase.{Phase}
use Rattle.agent_request.specs.declared.Phase.TheVariants.{Free, Asking, Waiting, Held, Owing, Clearing}
use Rattle.agent_rules.specs.Answers.{numbers_of}
use Rattle.agent_rules.specs.Table.{is_free, is_held}
use Rattle.agent_rules.proofs.Table.{held_phase, free_as_kept, held_as_kept}
use Rattle.agent_rules.specs.Life.{turned, ticketed, asked, step_sends, step_sends_in, step_takes, step_takes_in, release_sends, release_sends_in, release_takes, release_takes_in}
use Rattle.agent_rules.specs.declared.Answer.{Answer as Tells}
use Rattle.agent_rules.specs.declared.Answer.TheVariants as tells
use Rattle.agent_rules.specs.declared.Verb.{Verb}
use Rattle.agent_rules.specs.declared.Taken.{Taken}
use Rattle.board_slots.specs.Slots.{SLOTS, lowest_free}
use Rattle.board_slots.proofs.Used.{none_free_is_all_used}
use Rattle.board_call.specs.declared.Call.{Call}
use Rattle.board_call.specs.declared.Call.TheVariants.{Open, Step, Release, Show}
use Rattle.board_rules.specs.Answers.{said_with, said_of, named_slot, sends_verb, verbs_of}
use Rattle.board_rules.specs.Records.{RECORDS, is_record, is_nothing, refusal_of}
use Rattle.board_rules.specs.declared.Answer.{Answer}
use Rattle.board_rules.specs.declared.Answer.TheVariants.{Refused, Begun, Opened, Told, Shown, Fenced}
use Rattle.board_rules.specs.Board.{State, Done, slot_at, refused, begun, opened, sent, stepped, released, shown, shown_of, played}
use Rattle.board_rules.specs.Table.{no_record, lines_of, lines_of_begin, said_to, RefusedExactly, AcceptedExactly, BeginRefusedExactly, BeginAcceptedExactly, BegunExactly}
use Rattle.board_rules.specs.Table.{outcome_of, NothingElseIsSaid, slot_said, in_range, NamesItsSlot, ValueIsSaid, VerbsAreCounted, ShowSaysTheWord, answer_named, AnswerIsItsNumbers}
use Rattle.board_rules.proofs.Told.{apart, told_number, all_quiet, goes_out}

-- the number that an answer refuses with, 0 where it does not
abbrev refusal_in : Answer → ℕ
refusal_in (Refused n) = n
refusal_in Begun = 0
refusal_in (Opened k) = 0
refusal_in (Told a) = 0
refusal_in (Shown w) = 0
refusal_in Fenced = 0

-- an answer's number is its refusal's, or what the agent tells
number_parts : (k : ℕ) (a : Answer) → (said_with k a).number ≡ refusal_in a + told_number a
number_parts k (Refused n) = omega arith
number_parts k Begun = refl
number_parts k (Opened o) = refl
number_parts k (Told a) = sym (zero-add (numbers_of a).number)
number_parts k (Shown w) = refl
number_parts k Fenced = refl

-- the tests of the definition are those of the table
pub past : (m i : ℕ) → leb (m + 1) i ≡ ltb m i
past m i = by (ltb m i) refl
  where
    by : (x : Bool) → ltb m i ≡ x → leb (m + 1) i ≡ ltb m i
    by true e = let h = ltb-true m i e in rw (e, le-leb (m + 1) i (omega arith)) refl
    by false e = let h = ltb-false m i e in rw (e, lt-leb (m + 1) i (omega arith)) refl

pub not_past : (m i : ℕ) → not (ltb i (m + 1)) ≡ ltb m i
not_past m i = by (ltb m i) refl
  where
    by : (x : Bool) → ltb m i ≡ x → not (ltb i (m + 1)) ≡ ltb m i
    by true e = let h = ltb-true m i e in rw (e, le-ltb i (m + 1) (omega arith)) refl
    by false e = let h = ltb-false m i e in rw (e, lt-ltb i (m + 1) (omega arith)) refl

not_both : (a b : Bool) → not (a && b) ≡ (not a || not b)
not_both true b = refl
not_both false b = refl

pub no_record_law : (r : ℕ) (s : State) → not (is_record r s.words) ≡ no_record r s
no_record_law r s = not_both (ltb r (length s.words)) (ltb r RECORDS) ∙ ap (λ (x : Bool). not (ltb r (length s.words)) || x) (not_past 4095 r)

-- open, and show, by what the tests say
open_number :
    (x y f : Bool) (s : State) (d : Done) → refusal_in d.answer ≡ 0 →
    refusal_in (when x then refused 2 s else when y then refused 3 s else when f then refused 6 s else d).answer ≡
    (when x then 2 else when y then 3 else when f then 6 else 0)
open_number true y f s d e = refl
open_number false true f s d e = refl
open_number false false true s d e = refl
open_number false false false s d e = e

show_number : (x : Bool) (w : ℕ) → refusal_in (when x then Shown w else Refused 2) ≡ (when not x then 2 else 0)
show_number true w = refl
show_number false w = refl

-- a verb that is sent, or not
sent_number : (s : State) (i : ℕ) (q : Request) (verb : Verb) (takes : ℕ → Taken) → refusal_in (sent i q verb takes s).answer ≡ refusal_of q verb s.words
unfolding sent
sent_number s i q verb takes =
    either_by (λ (d : Done). refusal_in d.answer ≡ refusal_of q verb s.words) (eqb (refusal_of q verb s.words) 0)
    (λ e. sym (eqb-true (refusal_of q verb s.words) 0 e)) (λ e. refl)

named_number : (x : Bool) (s : State) (d : Done) (n : ℕ) → refusal_in d.answer ≡ n → refusal_in (when x then refused 1 s else d).answer ≡ (when x then 1 else n)
named_number true s d n e = refl
named_number false s d n e = e

-- in use and sending nothing: for a step that is Held, for a release all but Held
step_nothing : (p : Phase) (q : Request) (z : Bool) → ◌≡◌ {A = ℕ} (when not (used_phase p) then 4 else when is_nothing (step_sends_in p q) then 5 else when z then 2 else 0) (when not (used_phase p) then 4 else when held_phase p then 5 else when z then 2 else 0)
step_nothing Free q z = refl
step_nothing Asking q z = refl
step_nothing Waiting q z = refl
step_nothing Held q z = refl
step_nothing Owing q z = refl
step_nothing Clearing q z = refl

release_nothing : (p : Phase) (q : Request) (z : Bool) → ◌≡◌ {A = ℕ} (when not (used_phase p) then 4 else when is_nothing (release_sends_in p q) then 5 else when z then 2 else 0) (when not (used_phase p) then 4 else when not (held_phase p) then 5 else when z then 2 else 0)
release_nothing Free q z = refl
release_nothing Asking q z = refl
release_nothing Waiting q z = refl
release_nothing Held q z = refl
release_nothing Owing q z = refl
release_nothing Clearing q z = refl

refusal_number_law : (c : Call) (s : State) → length s.slots ≡ SLOTS → refusal_in (played c s).answer ≡ number_in (lines_of c s)
unfolding opened stepped released shown shown_of refusal_of step_sends release_sends
refusal_number_law (Open r m) s long =
    open_number (not (is_record r s.words)) (ltb 1 m) (leb SLOTS (lowest_free s.slots)) s _ refl ∙
    ap (λ (x : Bool). when x then 2 else when ltb 1 m then 3 else when leb SLOTS (lowest_free s.slots) then 6 else 0) (no_record_law r s) ∙
    ap (λ (x : Bool). when no_record r s then 2 else when ltb 1 m then 3 else when x then 6 else 0) (none_free_is_all_used s.slots SLOTS long)
refusal_number_law (Step i) s long =
    let q = slot_at s i in
    named_number (leb SLOTS i) s _ _ (sent_number s i q (step_sends q) (step_takes q)) ∙
    ap (λ (x : Bool). when x then 1 else refusal_of q (step_sends q) s.words) (past 255 i) ∙
    ap (λ (n : ℕ). when ltb 255 i then 1 else n)
    (step_nothing (phase_of q.phase) q (not (is_record q.«record» s.words)) ∙
    ap (λ (x : Bool). when x then 4 else when held_phase (phase_of q.phase) then 5 else when not (is_record q.«record» s.words) then 2 else 0) (free_as_kept q) ∙
    ap (λ (x : Bool). when is_free q then 4 else when x then 5 else when not (is_record q.«record» s.words) then 2 else 0) (held_as_kept q) ∙
    ap (λ (x : Bool). when is_free q then 4 else when is_held q then 5 else when x then 2 else 0) (no_record_law q.«record» s))
refusal_number_law (Release i) s long =
    let q = slot_at s i in
    named_number (leb SLOTS i) s _ _ (sent_number s i q (release_sends q) (release_takes q)) ∙
    ap (λ (x : Bool). when x then 1 else refusal_of q (release_sends q) s.words) (past 255 i) ∙
    ap (λ (n : ℕ). when ltb 255 i then 1 else n)
    (release_nothing (phase_of q.phase) q (not (is_record q.«record» s.words)) ∙
    ap (λ (x : Bool). when x then 4 else when not (held_phase (phase_of q.phase)) then 5 else when not (is_record q.«record» s.words) then 2 else 0) (free_as_kept q) ∙
    ap (λ (x : Bool). when is_free q then 4 else when not x then 5 else when not (is_record q.«record» s.words) then 2 else 0) (held_as_kept q) ∙
    ap (λ (x : Bool). when is_free q then 4 else when not (is_held q) then 5 else when x then 2 else 0) (no_record_law q.«record» s))
refusal_number_law (Show r) s long =
    show_number (is_record r s.words) _ ∙ ap (λ (x : Bool). when x then 2 else 0) (no_record_law r s)

-- an answer's number is the table's
pub number_is : (c : Call) (s : State) → length s.slots ≡ SLOTS → (said_to c s).number ≡ number_in (lines_of c s)
number_is c s long =
    let q = (all_quiet c s).quiet in
    let p = number_parts (named_slot c) (played c s).answer in
    let r = refusal_number_law c s long in
    omega arith

pub refused_exactly : RefusedExactly
refused_exactly c s long n h =
    let e = number_is c s long in
    (λ p. gives_it n h (lines_of c s) (sym e ∙ p), λ g. e ∙ it_gives n (lines_of c s) g)

real_lines : (c : Call) (s : State) → Real (lines_of c s)
real_lines (Open r m) s = (omega arith, (omega arith, (omega arith, tt)))
real_lines (Step i) s = (omega arith, (omega arith, (omega arith, (omega arith, tt))))
real_lines (Release i) s = (omega arith, (omega arith, (omega arith, (omega arith, tt))))
real_lines (Show r) s = (omega arith, tt)

pub accepted_exactly : AcceptedExactly
accepted_exactly c s long =
    let e = number_is c s long in
    (λ p. none_applies (lines_of c s) (real_lines c s) (sym e ∙ p), λ g. e ∙ applies_none (lines_of c s) g)

-- begin
begin_number_law : (s : State) → (said_with 0 (begun s).answer).number ≡ number_in (lines_of_begin s)
unfolding begun
begin_number_law s = by (eqb (length s.words) 0 || ltb RECORDS (length s.words)) _
  where
    by : (x : Bool) (d : Done) → (said_with 0 (when x then refused 9 s else d).answer).number ≡ (when x then 9 else (said_with 0 d.answer).number)
    by true d = refl
    by false d = refl

pub begin_refused_exactly : BeginRefusedExactly
begin_refused_exactly s n h =
    let e = begin_number_law s in
    (λ p. gives_it n h (lines_of_begin s) (sym e ∙ p), λ g. e ∙ it_gives n (lines_of_begin s) g)

pub begin_accepted_exactly : BeginAcceptedExactly
begin_accepted_exactly s =
    let e = begin_number_law s in
    (λ p. none_applies (lines_of_begin s) (omega arith, tt) (sym e ∙ p), λ g. e ∙ applies_none (lines_of_begin s) g)

pub begun_exactly : BegunExactly
unfolding begun
begun_exactly s none = rw none.0 refl

-- what is known of the numbers of every answer to a call c
record Plain (c : Call) (a : Answer) : Type 0 where
  number_small : (said_of c a).number ≤ 6
  accepted : (said_of c a).number ≡ 0 → outcome_of c (said_of c a).outcome ≡ true
  refused : 0 < (said_of c a).number → (said_of c a).outcome ≡ 0
  slot : in_range c → (said_of c a).slot ≡ slot_said c a
  value : ((said_of c a).outcome ≡ 3 → ⊥) → ((said_of c a).outcome ≡ 10 → ⊥) → (said_of c a).value ≡ 0
  verbs : verbs_of c a ≡ (when eqb (said_of c a).number 0 && not (eqb (said_of c a).outcome 1 || eqb (said_of c a).outcome 10) then 1 else 0)
  named : answer_named (said_of c a) ≡ a

low : (i : ℕ) → i < 256 → i % 256 ≡ i
low i h = omega arith

pub refused_slot : (c : Call) (n : ℕ) → in_range c → named_slot c ≡ slot_said c (Refused n)
refused_slot (Open r m) n h = refl
refused_slot (Step i) n h = low i h
refused_slot (Release i) n h = low i h
refused_slot (Show r) n h = refl

plain_refusal : (c : Call) (n : ℕ) → 0 < n → n ≤ 6 → Plain c (Refused n)
unfolding verbs_of
plain_refusal c n h l =
    let ne = ne_eqb n 0 (λ e. omega arith) in
    record {
      number_small = l;
      accepted = λ e. absurd (omega arith);
      refused = λ z. refl;
      slot = refused_slot c n;
      value = λ x y. refl;
      verbs = rw (ne, and-false (sends_verb c)) refl;
      named = rw ne refl;
    }

plain_opened : (r m o : ℕ) → Plain (Open r m) (Opened o)
unfolding verbs_of
plain_opened r m o =
    record {
      number_small = omega arith;
      accepted = λ e. refl;
      refused = λ z. absurd (omega arith);
      slot = λ h. refl;
      value = λ x y. refl;
      verbs = refl;
      named = refl;
    }

plain_shown : (r w : ℕ) → Plain (Show r) (Shown w)
unfolding verbs_of
plain_shown r w =
    record {
      number_small = omega arith;
      accepted = λ e. refl;
      refused = λ z. absurd (omega arith);
      slot = λ h. refl;
      value = λ x y. absurd (y refl);
      verbs = refl;
      named = refl;
    }

-- what a step and a release may be told, where a verb went out
abbrev step_may : Tells → Bool
step_may tells.WrongPhase = false
step_may tells.Granted = true
step_may (tells.Waiting n) = true
step_may tells.Full = true
step_may tells.Withdrawn = true
step_may tells.Released = false
step_may tells.ClearingDue = false
step_may tells.Cleared = true
step_may tells.NotYetClear = true
step_may tells.Passed = true
step_may tells.FreedUnasked = false

abbrev release_may : Tells → Bool
release_may tells.WrongPhase = false
release_may tells.Granted = false
release_may (tells.Waiting n) = false
release_may tells.Full = false
release_may tells.Withdrawn = false
release_may tells.Released = true
release_may tells.ClearingDue = true
release_may tells.Cleared = false
release_may tells.NotYetClear = false
release_may tells.Passed = false
release_may tells.FreedUnasked = false

turned_may : (t : Turn) (q : Request) → step_may (turned t q).answer ≡ true
turned_may turn.Passed q = refl
turned_may turn.Granted q = refl
turned_may (turn.Ahead n) q = refl

asked_may : (q : Request) (p : Counters) → step_may (asked q p).answer ≡ true
unfolding asked
asked_may q p = either (λ (t : Taken). step_may t.answer ≡ true) (full_at p) refl (turned_may (turn_of (mode_of q.mode) (ticketed q p).ticket p) (ticketed q p))

step_may_law : (p : Phase) (q : Request) (v : ℕ) → is_nothing (step_sends_in p q) ≡ false → step_may (step_takes_in p q v).answer ≡ true
step_may_law Free q v e = absurd (apart e)
step_may_law Asking q v e = asked_may q (split_of v)
step_may_law Waiting q v e = turned_may (turn_of (mode_of q.mode) q.ticket (split_of v)) q
step_may_law Held q v e = absurd (apart e)
step_may_law Owing q v e = refl
step_may_law Clearing q v e = either (λ (t : Taken). step_may t.answer ≡ true) (eqb v q.clearing) refl refl

release_may_law : (p : Phase) (q : Request) → is_nothing (release_sends_in p q) ≡ false → release_may (release_takes_in p q).answer ≡ true
release_may_law Free q e = absurd (apart e)
release_may_law Asking q e = absurd (apart e)
release_may_law Waiting q e = absurd (apart e)
release_may_law Held q e = either (λ (t : Taken). release_may t.answer ≡ true) (eqb q.clearing NONE) refl refl
release_may_law Owing q e = absurd (apart e)
release_may_law Clearing q e = absurd (apart e)

plain_step : (i : ℕ) (a : Tells) → step_may a ≡ true → Plain (Step i) (Told a)
unfolding verbs_of
plain_step i tells.WrongPhase e = absurd (apart (sym e))
plain_step i tells.Granted e = record { number_small = omega arith; accepted = λ z. refl; refused = λ z. absurd (omega arith); slot = low i; value = λ x y. refl; verbs = refl; named = refl }
plain_step i (tells.Waiting n) e = record { number_small = omega arith; accepted = λ z. refl; refused = λ z. absurd (omega arith); slot = low i; value = λ x y. absurd (x refl); verbs = refl; named = refl }
plain_step i tells.Full e = record { number_small = omega arith; accepted = λ z. refl; refused = λ z. absurd (omega arith); slot = low i; value = λ x y. refl; verbs = refl; named = refl }
plain_step i tells.Withdrawn e = record { number_small = omega arith; accepted = λ z. refl; refused = λ z. absurd (omega arith); slot = low i; value = λ x y. refl; verbs = refl; named = refl }
plain_step i tells.Released e = absurd (apart (sym e))
plain_step i tells.ClearingDue e = absurd (apart (sym e))
plain_step i tells.Cleared e = record { number_small = omega arith; accepted = λ z. refl; refused = λ z. absurd (omega arith); slot = low i; value = λ x y. refl; verbs = refl; named = refl }
plain_step i tells.NotYetClear e = record { number_small = omega arith; accepted = λ z. refl; refused = λ z. absurd (omega arith); slot = low i; value = λ x y. refl; verbs = refl; named = refl }
plain_step i tells.Passed e = record { number_small = omega arith; accepted = λ z. refl; refused = λ z. absurd (omega arith); slot = low i; value = λ x y. refl; verbs = refl; named = refl }
plain_step i tells.FreedUnasked e = absurd (apart (sym e))

plain_release : (i : ℕ) (a : Tells) → release_may a ≡ true → Plain (Release i) (Told a)
unfolding verbs_of
plain_release i tells.WrongPhase e = absurd (apart (sym e))
plain_release i tells.Granted e = absurd (apart (sym e))
plain_release i (tells.Waiting n) e = absurd (apart (sym e))
plain_release i tells.Full e = absurd (apart (sym e))
plain_release i tells.Withdrawn e = absurd (apart (sym e))
plain_release i tells.Released e = record { number_small = omega arith; accepted = λ z. refl; refused = λ z. absurd (omega arith); slot = low i; value = λ x y. refl; verbs = refl; named = refl }
plain_release i tells.ClearingDue e = record { number_small = omega arith; accepted = λ z. refl; refused = λ z. absurd (omega arith); slot = low i; value = λ x y. refl; verbs = refl; named = refl }
plain_release i tells.Cleared e = absurd (apart (sym e))
plain_release i tells.NotYetClear e = absurd (apart (sym e))
plain_release i tells.Passed e = absurd (apart (sym e))
plain_release i tells.FreedUnasked e = absurd (apart (sym e))

abbrev PlainDone : Call → Done → Type 0
PlainDone c d = Plain c d.answer

-- a refusal of a sent verb is 4, 5 or 2
refusal_small : (q : Request) (verb : Verb) (ws : List ℕ) → refusal_of q verb ws ≤ 6
unfolding refusal_of
refusal_small q verb ws =
    either (λ (n : ℕ). n ≤ 6) (not (in_use q)) (omega arith)
    (either (λ (n : ℕ). n ≤ 6) (is_nothing verb) (omega arith) (either (λ (n : ℕ). n ≤ 6) (not (is_record q.«record» ws)) (omega arith) (omega arith)))

sent_plain :
    (c : Call) (s : State) (i : ℕ) (q : Request) (verb : Verb) (takes : ℕ → Taken) →
    (is_nothing verb ≡ false → (v : ℕ) → Plain c (Told (takes v).answer)) →
    PlainDone c (sent i q verb takes s)
unfolding sent refusal_of
sent_plain c s i q verb takes ok =
    let n = refusal_of q verb s.words in
    either_by (PlainDone c) (eqb n 0)
    (λ e. ok (goes_out (not (in_use q)) (is_nothing verb) (not (is_record q.«record» s.words)) e) (get_or s.words q.«record» 0))
    (λ e. plain_refusal c n (let ne = eqb-false n 0 e in positive n ne) (refusal_small q verb s.words))
  where
    positive : (n : ℕ) → (n ≡ 0 → ⊥) → 0 < n
    positive zero ne = absurd (ne refl)
    positive (suc n) ne = omega arith

all_plain : (c : Call) (s : State) → PlainDone c (played c s)
unfolding opened stepped released shown shown_of step_sends step_takes release_sends release_takes
all_plain (Open r m) s =
    let P = PlainDone (Open r m) in
    either P (not (is_record r s.words)) (plain_refusal (Open r m) 2 (omega arith) (omega arith))
    (either P (ltb 1 m) (plain_refusal (Open r m) 3 (omega arith) (omega arith))
    (either P (leb SLOTS (lowest_free s.slots)) (plain_refusal (Open r m) 6 (omega arith) (omega arith)) (plain_opened r m _)))
all_plain (Step i) s =
    let q = slot_at s i in
    either (PlainDone (Step i)) (leb SLOTS i) (plain_refusal (Step i) 1 (omega arith) (omega arith))
    (sent_plain (Step i) s i q (step_sends q) (step_takes q) (λ e v. plain_step i _ (step_may_law (phase_of q.phase) q v e)))
all_plain (Release i) s =
    let q = slot_at s i in
    either (PlainDone (Release i)) (leb SLOTS i) (plain_refusal (Release i) 1 (omega arith) (omega arith))
    (sent_plain (Release i) s i q (release_sends q) (release_takes q) (λ e v. plain_release i _ (release_may_law (phase_of q.phase) q e)))
all_plain (Show r) s = either (Plain (Show r)) (is_record r s.words) (plain_shown r _) (plain_refusal (Show r) 2 (omega arith) (omega arith))

pub nothing_else_is_said : NothingElseIsSaid
nothing_else_is_said c s = let p = all_plain c s in (p.number_small, p.accepted, p.refused)

pub names_its_slot : NamesItsSlot
names_its_slot c s h = (all_plain c s).slot h

pub value_is_said : ValueIsSaid
value_is_said c s x y = (all_plain c s).value x y

pub verbs_are_counted : VerbsAreCounted
verbs_are_counted c s = (all_plain c s).verbs

pub answer_is_its_numbers : AnswerIsItsNumbers
answer_is_its_numbers c s = (all_plain c s).named

pub show_says_the_word : ShowSaysTheWord
unfolding shown shown_of
show_says_the_word r s none = rw (is_record_law) refl
  where
    is_record_law : is_record r s.words ≡ true
    is_record_law = not-false (is_record r s.words) (no_record_law r s ∙ none.0)
