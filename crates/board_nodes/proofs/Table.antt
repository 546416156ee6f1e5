-- Why any call is answered with the number that the table gives: the gate makes the tests of the lines before its own, so it refuses exactly where its
-- line is the first to apply; behind it the answer is that of the call inside, and the lines are that call's with the gate's put in. And why an answer
-- is its numbers: those of the calls inside are, and each refusal of a gate, the fence and what a care tells has its own.
-- Assumes nothing.
use Prim.Native.Nat.{ℕ, ◌<◌, ◌≤◌}
use mathlib.Core.Path.{◌≡◌, refl, ap, sym, ◌∙◌}
use mathlib.Core.Bool.{Bool, true, false, not, ◌&&◌, ◌||◌, and-false, not-not}
use mathlib.Core.Logic.{inl, inr}
use mathlib.Core.List.{List, [], ◌∷◌, ◌++◌}
use native.Mathlib.Omega.{arith}
use borrow.Author.Tests.{eqb-true, ne_eqb}
use lib.Dec.{eqb, ltb, leb}
use lib.ListN.{length}
use Rattle.common.specs.Choice.{when◌then◌else◌}
use Rattle.common.specs.Table.{Line, line}
use Rattle.common.proofs.Choices.{either, either_by}
use Rattle.common.proofs.Tables.{number_in, Real, gives_it, it_gives, none_applies, applies_none}
use Rattle.word_layout.specs.Word.{split_of}
use Rattle.agent_ticket.specs.Turn.{turn_of}
use Rattle.agent_ticket.specs.declared.Turn.{Turn}
use Rattle.agent_ticket.specs.declared.Turn.TheVariants as turn
use Rattle.agent_request.specs.Request.{NONE, phase_of, used_phase, in_use, mode_of}
use Rattle.agent_request.specs.declared.Request.{Request}
use Rattle.agent_request.specs.declared.Phase.{Phase}
use Rattle.agent_request.specs.declared.Phase.TheVariants.{Free, Asking, Waiting, Held, Owing, Clearing}
use Rattle.agent_rules.specs.Answers.{numbers_of}
use Rattle.agent_rules.specs.Table.{is_free, is_held}
use Rattle.agent_rules.specs.Life.{turned}
use Rattle.agent_rules.specs.Care.{care_takes, care_takes_in}
use Rattle.agent_rules.specs.declared.Answer.{Answer as Tells}
use Rattle.agent_rules.specs.declared.Answer.TheVariants as tells
use Rattle.agent_rules.specs.declared.Taken.{Taken}
use Rattle.agent_rules.proofs.Phases.{step_takes_in_law, release_takes_in_law}
use Rattle.agent_rules.proofs.Table.{free_as_kept, care_number}
use Rattle.board_slots.specs.Slots.{SLOTS, lowest_free, used_slots}
use Rattle.board_call.specs.declared.Call.{Call}
use Rattle.board_call.specs.declared.Call.TheVariants.{Open, Step, Release, Show}
use Rattle.board_call.specs.declared.AnyCall.{AnyCall}
use Rattle.board_call.specs.declared.AnyCall.TheVariants.{Base, OpenAs, Fence, Care}
use Rattle.board_rules.specs.Answers.{said_with, said_of, named_slot, sends_verb, verbs_of}
use Rattle.board_rules.specs.Records.{RECORDS, is_record}
use Rattle.board_rules.specs.Board.{State, Done, slot_at, refused, begun, opened, stepped, released, played}
use Rattle.board_rules.specs.Care.{word_of, cared}
use Rattle.board_rules.specs.Table.{no_record, said_to, outcome_of, answer_named}
use Rattle.board_rules.specs.declared.Answer.{Answer}
use Rattle.board_rules.specs.declared.Answer.TheVariants.{Refused, Told}
use Rattle.board_rules.proofs.Told.{apart}
use Rattle.board_rules.proofs.Table.{past, not_past, no_record_law, number_is, refused_slot, begin_refused_exactly, begin_accepted_exactly, begun_exactly}
use Rattle.board_rules.proofs.Table.{nothing_else_is_said, names_its_slot, value_is_said, verbs_are_counted, answer_is_its_numbers}
use Rattle.board_nodes.specs.Site.{Site, SiteDone, inner, fenced_at, shut_at, refused_at, around, opens_shut, used_shut}
use Rattle.board_nodes.specs.Site.{opened_by, stepped_at, released_at, cared_at, fenced_by, shown_at, played_at, begun_at}
use Rattle.board_nodes.specs.Answers.{reported_as, said_of_any, verbs_of_any}
use Rattle.board_nodes.specs.Table.{lines_of_open, lines_of_any, said_to_any, AnyRefusedExactly, AnyAcceptedExactly}
use Rattle.board_nodes.specs.Table.{AnyBeginRefusedExactly, AnyBeginAcceptedExactly, AnyBegunExactly, outcome_of_any, NumberOfACall, NothingElseIsSaidAny}
use Rattle.board_nodes.specs.Table.{slot_said_any, in_range_any, AnyNamesItsSlot, AnyValueIsSaid, verbs_said, AnyVerbsAreCounted, AnyAnswerIsItsNumbers}

-- none of these lines applies, and the test behind them holds
abbrev passes : List Line → Bool → Bool
passes [] x = x
passes (l ∷ ls) x = not l.applies && passes ls x

-- a line put in between gives its number exactly there; elsewhere the number is what it was
inserted :
    (before : List Line) (n : ℕ) (x : Bool) (behind : List Line) →
    number_in (before ++ line n x ∷ behind) ≡ (when passes before x then n else number_in (before ++ behind))
inserted [] n x behind = refl
inserted (l ∷ ls) n x behind = by l.applies (inserted ls n x behind)
  where
    by :
        (y : Bool) →
        number_in (ls ++ line n x ∷ behind) ≡ (when passes ls x then n else number_in (ls ++ behind)) →
        (when y then l.number else number_in (ls ++ line n x ∷ behind)) ≡
        (when not y && passes ls x then n else when y then l.number else number_in (ls ++ behind))
    by true e = refl
    by false e = e

-- so a call behind a gate that tests the lines before its own has the number of the table with that line, if the call inside has that of the table
-- without it
gate_number :
    (c : Call) (t : Site) (i k : ℕ) (d : Done) (before : List Line) (n : ℕ) (shut : Bool) (behind : List Line) (gate : Bool) →
    gate ≡ passes before shut →
    (said_of c d.answer).number ≡ number_in (before ++ behind) →
    (said_of c (when gate then refused_at n t else around t i k d).answer).number ≡ number_in (before ++ line n shut ∷ behind)
gate_number c t i k d before n shut behind gate e f =
    by gate ∙
    ap (λ (m : ℕ). when gate then n else m) f ∙
    ap (λ (x : Bool). when x then n else number_in (before ++ behind)) e ∙
    sym (inserted before n shut behind)
  where
    by : (x : Bool) → (said_of c (when x then refused_at n t else around t i k d).answer).number ≡ (when x then n else (said_of c d.answer).number)
    by true = refl
    by false = refl

-- the gates test the lines before their own: 2 and 3 of an open, 1 and 4 of a call that names a slot
turn_round : (x y : Bool) → not x ≡ y → x ≡ not y
turn_round x y e = sym (not-not x) ∙ ap not e

abbrev opening : ℕ → ℕ → State → List Line
opening r m s = line 2 (no_record r s) ∷ line 3 (ltb 1 m) ∷ []

opens_gate : (r m : ℕ) (s : State) (shut : Bool) → opens_shut r m shut s.words ≡ passes (opening r m s) shut
opens_gate r m s shut = ap (λ (x : Bool). x && (not (ltb 1 m) && shut)) (turn_round (is_record r s.words) (no_record r s) (no_record_law r s))

abbrev naming : ℕ → Request → List Line
naming i q = line 1 (ltb 255 i) ∷ line 4 (is_free q) ∷ []

used_gate : (i : ℕ) (q : Request) (shut : Bool) → used_shut i q shut ≡ passes (naming i q) shut
used_gate i q shut =
    ap (λ (x : Bool). x && (in_use q && shut)) (turn_round (ltb i SLOTS) (ltb 255 i) (not_past 255 i)) ∙
    ap (λ (x : Bool). not (ltb 255 i) && (x && shut)) (turn_round (in_use q) (is_free q) (free_as_kept q))

open_number : (r m k : ℕ) (t : Site) → length t.slots ≡ SLOTS → (said_of (Open r m) (opened_by r m k t).answer).number ≡ number_in (lines_of_open r m k t)
unfolding opened_by
open_number r m k t long =
    gate_number (Open r m) t _ k (opened r m (inner t)) (opening r m (inner t)) 14 (fenced_at t k)
    (line 6 (eqb (used_slots t.slots) 256) ∷ []) _ (opens_gate r m (inner t) (fenced_at t k)) (number_is (Open r m) (inner t) long)

-- a care inside: 1, 4 and 2, and what it tells is accepted
cared_number :
    (i : ℕ) (s : State) →
    (said_of (Step i) (cared i s).answer).number ≡ number_in (naming i (slot_at s i) ++ line 2 (no_record (slot_at s i).«record» s) ∷ [])
unfolding cared care_takes
cared_number i s =
    let q = slot_at s i in
    tests (leb SLOTS i) (not (in_use q)) (not (is_record q.«record» s.words)) _
    (λ e. care_number (phase_of q.phase) q (word_of s i) refl ∙ ap (λ (x : Bool). when x then 5 else 0) e) ∙
    ap (λ (x : Bool). when x then 1 else when not (in_use q) then 4 else when not (is_record q.«record» s.words) then 2 else 0) (past 255 i) ∙
    ap (λ (x : Bool). when ltb 255 i then 1 else when x then 4 else when not (is_record q.«record» s.words) then 2 else 0) (free_as_kept q) ∙
    ap (λ (x : Bool). when ltb 255 i then 1 else when is_free q then 4 else when x then 2 else 0) (no_record_law q.«record» s)
  where
    tests :
        (x y z : Bool) (d : Done) →
        (y ≡ false → (said_of (Step i) d.answer).number ≡ 0) →
        (said_of (Step i) (when x then refused 1 s else when y then refused 4 s else when z then refused 2 s else d).answer).number ≡
        (when x then 1 else when y then 4 else when z then 2 else 0)
    tests true y z d e = refl
    tests false true z d e = refl
    tests false false true d e = refl
    tests false false false d e = e refl

-- an answer's number is the table's
number_is_any : (o : AnyCall) (t : Site) → length t.slots ≡ SLOTS → (said_to_any o t).number ≡ number_in (lines_of_any o t)
unfolding stepped_at released_at cared_at fenced_by shown_at
number_is_any (Base (Open r m)) t long = open_number r m 0 t long
number_is_any (Base (Step i)) t long =
    let q = slot_at (inner t) i in
    gate_number (Step i) t i 0 (stepped i (inner t)) (naming i q) 15 (shut_at t i)
    (line 5 (is_held q) ∷ line 2 (no_record q.«record» (inner t)) ∷ []) _ (used_gate i q (shut_at t i)) (number_is (Step i) (inner t) long)
number_is_any (Base (Release i)) t long =
    let q = slot_at (inner t) i in
    gate_number (Release i) t i 0 (released i (inner t)) (naming i q) 15 (shut_at t i)
    (line 5 (not (is_held q)) ∷ line 2 (no_record q.«record» (inner t)) ∷ []) _ (used_gate i q (shut_at t i)) (number_is (Release i) (inner t) long)
number_is_any (Base (Show r)) t long = number_is (Show r) (inner t) long
number_is_any (OpenAs r m k) t long = open_number r m k t long
number_is_any (Fence n) t long = refl
number_is_any (Care i) t long =
    let q = slot_at (inner t) i in
    gate_number (Step i) t i 0 (cared i (inner t)) (naming i q) 16 (not (shut_at t i))
    (line 2 (no_record q.«record» (inner t)) ∷ []) _ (used_gate i q (not (shut_at t i))) (cared_number i (inner t))

pub any_refused_exactly : AnyRefusedExactly
any_refused_exactly o t long n h =
    let e = number_is_any o t long in
    (λ p. gives_it n h (lines_of_any o t) (sym e ∙ p), λ g. e ∙ it_gives n (lines_of_any o t) g)

real_open : (r m k : ℕ) (t : Site) → Real (lines_of_open r m k t)
real_open r m k t = (omega arith, (omega arith, (omega arith, (omega arith, tt))))

real_lines : (o : AnyCall) (t : Site) → Real (lines_of_any o t)
real_lines (Base (Open r m)) t = real_open r m 0 t
real_lines (Base (Step i)) t = (omega arith, (omega arith, (omega arith, (omega arith, (omega arith, tt)))))
real_lines (Base (Release i)) t = (omega arith, (omega arith, (omega arith, (omega arith, (omega arith, tt)))))
real_lines (Base (Show r)) t = (omega arith, tt)
real_lines (OpenAs r m k) t = real_open r m k t
real_lines (Fence n) t = tt
real_lines (Care i) t = (omega arith, (omega arith, (omega arith, (omega arith, tt))))

pub any_accepted_exactly : AnyAcceptedExactly
any_accepted_exactly o t long =
    let e = number_is_any o t long in
    (λ p. none_applies (lines_of_any o t) (real_lines o t) (sym e ∙ p), λ g. e ∙ applies_none (lines_of_any o t) g)

-- begin answers as it does without nodes
begin_answer : (t : Site) → (begun_at t).answer ≡ (begun (inner t)).answer
unfolding begun begun_at
begin_answer t = by (eqb (length t.words) 0 || ltb RECORDS (length t.words)) _ _ refl
  where
    by :
        (x : Bool) (d : SiteDone) (e : Done) →
        d.answer ≡ e.answer →
        (when x then refused_at 9 t else d).answer ≡ (when x then refused 9 (inner t) else e).answer
    by true d e p = refl
    by false d e p = p

begin_number_law : (t : Site) → (said_with 0 (begun_at t).answer).number ≡ (said_with 0 (begun (inner t)).answer).number
begin_number_law t = ap (λ (a : Answer). (said_with 0 a).number) (begin_answer t)

pub any_begin_refused_exactly : AnyBeginRefusedExactly
any_begin_refused_exactly t n h =
    let i = begin_refused_exactly (inner t) n h in
    (λ p. i.0 (sym (begin_number_law t) ∙ p), λ g. begin_number_law t ∙ i.1 g)

pub any_begin_accepted_exactly : AnyBeginAcceptedExactly
any_begin_accepted_exactly t =
    let i = begin_accepted_exactly (inner t) in
    (λ p. i.0 (sym (begin_number_law t) ∙ p), λ g. begin_number_law t ∙ i.1 g)

pub any_begun_exactly : AnyBegunExactly
any_begun_exactly t none = begin_answer t ∙ begun_exactly (inner t) none

-- what is known of the numbers of every answer to a call o
record Plain (o : AnyCall) (a : Answer) : Type 0 where
  known : NumberOfACall (said_of_any o a).number
  accepted : (said_of_any o a).number ≡ 0 → outcome_of_any o (said_of_any o a).outcome ≡ true
  refused : 0 < (said_of_any o a).number → (said_of_any o a).outcome ≡ 0
  slot : in_range_any o → (said_of_any o a).slot ≡ slot_said_any o a
  value : ((said_of_any o a).outcome ≡ 3 → ⊥) → ((said_of_any o a).outcome ≡ 10 → ⊥) → (said_of_any o a).value ≡ 0
  verbs : verbs_of_any o a ≡ verbs_said (said_of_any o a)
  named : answer_named (said_of_any o a) ≡ a

-- a refusal
slot_refused : (o : AnyCall) (n : ℕ) → in_range_any o → named_slot (reported_as o) ≡ slot_said_any o (Refused n)
slot_refused (Base c) n h = refused_slot c n h
slot_refused (OpenAs r m k) n h = refl
slot_refused (Fence k) n h = refl
slot_refused (Care i) n h = omega arith

plain_refusal : (o : AnyCall) (n : ℕ) → 0 < n → NumberOfACall n → Plain o (Refused n)
unfolding verbs_of verbs_of_any
plain_refusal o n h k =
    let ne = ne_eqb n 0 (λ e. omega arith) in
    record {
      known = k;
      accepted = λ e. absurd (omega arith);
      refused = λ z. refl;
      slot = slot_refused o n;
      value = λ x y. refl;
      verbs = rw (ne, and-false (sends_verb (reported_as o))) refl;
      named = rw ne refl;
    }

-- an answer of the ring inside: its verbs are counted the same, since no call there has outcome 13
counted :
    (n x c d : Bool) →
    (n ≡ true → d ≡ false) →
    ◌≡◌ {A = ℕ} (when c then 0 else when n && not x then 1 else 0) (when n && not (x || (c || d)) then 1 else 0)
counted true x c true h = absurd (apart (h refl))
counted true true true false h = refl
counted true true false false h = refl
counted true false true false h = refl
counted true false false false h = refl
counted false x true d h = refl
counted false x false d h = refl

never_fenced : (c : Call) → outcome_of c 13 ≡ false
never_fenced (Open r m) = refl
never_fenced (Step i) = refl
never_fenced (Release i) = refl
never_fenced (Show r) = refl

not_thirteen : (c : Call) (o : ℕ) → outcome_of c o ≡ true → eqb o 13 ≡ false
not_thirteen c o e = ne_eqb o 13 (λ p. apart (sym e ∙ ap (outcome_of c) p ∙ never_fenced c))

plain_base : (c : Call) (s : State) → Plain (Base c) (played c s).answer
unfolding verbs_of_any
plain_base c s =
    let d = said_to c s in
    let said = nothing_else_is_said c s in
    record {
      known = inl said.0;
      accepted = said.1;
      refused = said.2;
      slot = names_its_slot c s;
      value = value_is_said c s;
      verbs =
          ap (λ (n : ℕ). when eqb d.outcome 12 then 0 else n) (verbs_are_counted c s) ∙
          counted (eqb d.number 0) (eqb d.outcome 1 || eqb d.outcome 10) (eqb d.outcome 12) (eqb d.outcome 13)
          (λ e. not_thirteen c d.outcome (said.1 (eqb-true d.number 0 e)));
      named = answer_is_its_numbers c s;
    }

-- an open by a node says what a plain one says
plain_open : (r m k : ℕ) (s : State) → Plain (OpenAs r m k) (opened r m s).answer
unfolding verbs_of_any
plain_open r m k s =
    let p = plain_base (Open r m) s in
    record {
      known = p.known;
      accepted = p.accepted;
      refused = p.refused;
      slot = p.slot;
      value = p.value;
      verbs = p.verbs;
      named = p.named;
    }

-- what a care tells has, by phase, an outcome of its own
turned_told : (i : ℕ) (t : Turn) (q : Request) → outcome_of_any (Care i) (numbers_of (turned t q).answer).outcome ≡ true
turned_told i turn.Passed q = refl
turned_told i turn.Granted q = refl
turned_told i (turn.Ahead n) q = refl

module _ (i : ℕ) where
  abbrev Fits : Taken → Type 0
  Fits t = outcome_of_any (Care i) (numbers_of t.answer).outcome ≡ true

  told : {a b : Taken} → a ≡ b → Fits b → Fits a
  told e f = ap (λ (t : Taken). outcome_of_any (Care i) (numbers_of t.answer).outcome) e ∙ f

  care_told_law : (p : Phase) (q : Request) (v : ℕ) → phase_of q.phase ≡ p → not (used_phase p) ≡ false → Fits (care_takes_in p q v)
  care_told_law Free q v e u = absurd (apart u)
  care_told_law Asking q v e u = refl
  care_told_law Waiting q v e u = told (step_takes_in_law q Waiting e v) (turned_told i (turn_of (mode_of q.mode) q.ticket (split_of v)) q)
  care_told_law Held q v e u = told (release_takes_in_law q Held e v) (either Fits (eqb q.clearing NONE) refl refl)
  care_told_law Owing q v e u = told (step_takes_in_law q Owing e v) refl
  care_told_law Clearing q v e u = told (step_takes_in_law q Clearing e v) (either Fits (eqb v q.clearing) refl refl)

-- and every one of these is its numbers
accepted_plain :
    (i : ℕ) (a : Tells) →
    outcome_of_any (Care i) (numbers_of a).outcome ≡ true →
    (numbers_of a).number ≡ 0 →
    (((numbers_of a).outcome ≡ 3 → ⊥) → (numbers_of a).value ≡ 0) →
    verbs_of_any (Care i) (Told a) ≡ verbs_said (said_of_any (Care i) (Told a)) →
    answer_named (said_of_any (Care i) (Told a)) ≡ Told a →
    Plain (Care i) (Told a)
accepted_plain i a fits z v c n =
    record {
      known = inl (omega arith);
      accepted = λ e. fits;
      refused = λ h. absurd (omega arith);
      slot = λ h. omega arith;
      value = λ x y. v x;
      verbs = c;
      named = n;
    }

plain_told : (i : ℕ) (a : Tells) → outcome_of_any (Care i) (numbers_of a).outcome ≡ true → Plain (Care i) (Told a)
unfolding verbs_of verbs_of_any
plain_told i tells.WrongPhase e = absurd (apart (sym e))
plain_told i tells.Granted e = accepted_plain i tells.Granted e refl (λ x. refl) refl refl
plain_told i (tells.Waiting n) e = accepted_plain i (tells.Waiting n) e refl (λ x. absurd (x refl)) refl refl
plain_told i tells.Full e = absurd (apart (sym e))
plain_told i tells.Withdrawn e = accepted_plain i tells.Withdrawn e refl (λ x. refl) refl refl
plain_told i tells.Released e = accepted_plain i tells.Released e refl (λ x. refl) refl refl
plain_told i tells.ClearingDue e = accepted_plain i tells.ClearingDue e refl (λ x. refl) refl refl
plain_told i tells.Cleared e = accepted_plain i tells.Cleared e refl (λ x. refl) refl refl
plain_told i tells.NotYetClear e = accepted_plain i tells.NotYetClear e refl (λ x. refl) refl refl
plain_told i tells.Passed e = accepted_plain i tells.Passed e refl (λ x. refl) refl refl
plain_told i tells.FreedUnasked e = accepted_plain i tells.FreedUnasked e refl (λ x. refl) refl refl

abbrev PlainCare : ℕ → Done → Type 0
PlainCare i d = Plain (Care i) d.answer

plain_care : (i : ℕ) (s : State) → PlainCare i (cared i s)
unfolding cared care_takes
plain_care i s =
    let q = slot_at s i in
    let P = PlainCare i in
    either P (leb SLOTS i) (plain_refusal (Care i) 1 (omega arith) (inl (omega arith)))
    (either_by P (not (in_use q)) (λ e. plain_refusal (Care i) 4 (omega arith) (inl (omega arith)))
    (λ e. either P (not (is_record q.«record» s.words)) (plain_refusal (Care i) 2 (omega arith) (inl (omega arith)))
    (plain_told i _ (care_told_law i (phase_of q.phase) q (word_of s i) refl e))))

-- behind a gate
gated :
    (o : AnyCall) (t : Site) (gate : Bool) (n i k : ℕ) (d : Done) →
    14 ≤ n →
    n ≤ 16 →
    Plain o d.answer →
    Plain o (when gate then refused_at n t else around t i k d).answer
gated o t gate n i k d l h p = either (λ (x : SiteDone). Plain o x.answer) gate (plain_refusal o n (omega arith) (inr (omega arith, omega arith))) p

all_plain : (o : AnyCall) (t : Site) → Plain o (played_at o t).answer
unfolding opened_by stepped_at released_at cared_at fenced_by shown_at verbs_of verbs_of_any
all_plain (Base (Open r m)) t =
    gated (Base (Open r m)) t (opens_shut r m (fenced_at t 0) t.words) 14 (lowest_free t.slots) 0 (opened r m (inner t)) (omega arith) (omega arith)
    (plain_base (Open r m) (inner t))
all_plain (Base (Step i)) t =
    gated (Base (Step i)) t (used_shut i (slot_at (inner t) i) (shut_at t i)) 15 i 0 (stepped i (inner t)) (omega arith) (omega arith)
    (plain_base (Step i) (inner t))
all_plain (Base (Release i)) t =
    gated (Base (Release i)) t (used_shut i (slot_at (inner t) i) (shut_at t i)) 15 i 0 (released i (inner t)) (omega arith) (omega arith)
    (plain_base (Release i) (inner t))
all_plain (Base (Show r)) t = plain_base (Show r) (inner t)
all_plain (OpenAs r m k) t =
    gated (OpenAs r m k) t (opens_shut r m (fenced_at t k) t.words) 14 (lowest_free t.slots) k (opened r m (inner t)) (omega arith) (omega arith)
    (plain_open r m k (inner t))
all_plain (Fence n) t =
    record {
      known = inl (omega arith);
      accepted = λ e. refl;
      refused = λ z. absurd (omega arith);
      slot = λ h. refl;
      value = λ x y. refl;
      verbs = refl;
      named = refl;
    }
all_plain (Care i) t =
    gated (Care i) t (used_shut i (slot_at (inner t) i) (not (shut_at t i))) 16 i 0 (cared i (inner t)) (omega arith) (omega arith)
    (plain_care i (inner t))

pub nothing_else_is_said_any : NothingElseIsSaidAny
nothing_else_is_said_any o t = let p = all_plain o t in (p.known, p.accepted, p.refused)

pub any_names_its_slot : AnyNamesItsSlot
any_names_its_slot o t h = (all_plain o t).slot h

pub any_value_is_said : AnyValueIsSaid
any_value_is_said o t x y = (all_plain o t).value x y

pub any_verbs_are_counted : AnyVerbsAreCounted
any_verbs_are_counted o t = (all_plain o t).verbs

pub any_answer_is_its_numbers : AnyAnswerIsItsNumbers
any_answer_is_its_numbers o t = (all_plain o t).named
