-- The life of a request: what it sends, and what it becomes when the verb's result arrives.
use Rattle.std.specs.Prelude.{ℕ, eqb}
use Rattle.common.specs.Choice.{when◌then◌else◌}
use Rattle.word_layout.specs.Word.{step_of, back_of, split_of, add_of, swap_of}
use Rattle.word_layout.specs.declared.Counters.{Counters}
use Rattle.word_layout.specs.declared.Counter.{Counter}
use Rattle.word_layout.specs.declared.Counter.TheVariants.{NX, NS, MX, MS}
use Rattle.agent_ticket.specs.Turn.{turn_of}
use Rattle.agent_ceiling.specs.Ceiling.{full_at, clearing_word_of}
use Rattle.agent_ticket.specs.declared.Mode.{Mode}
use Rattle.agent_ticket.specs.declared.Mode.TheVariants.{Reader, Writer}
use Rattle.agent_ticket.specs.declared.Turn.{Turn}
use Rattle.agent_ticket.specs.declared.Turn.TheVariants as turn
use Rattle.agent_request.specs.Request.{NONE, phase_of, mode_of, free_request, in_phase}
use Rattle.agent_request.specs.declared.Request.{Request}
use Rattle.agent_request.specs.declared.Phase.{Phase}
use Rattle.agent_request.specs.declared.Phase.TheVariants.{Free, Asking, Waiting, Held, Owing, Clearing}
use Rattle.agent_rules.specs.declared.Verb.{Verb}
use Rattle.agent_rules.specs.declared.Verb.TheVariants as verb
use Rattle.agent_rules.specs.declared.Answer.{Answer}
use Rattle.agent_rules.specs.declared.Answer.TheVariants as answer
use Rattle.agent_rules.specs.declared.Taken.{Taken}

-- Rule 1.5: What a verb leaves of the word w.
abbrev pub left_by : Verb → ℕ → ℕ
left_by verb.Nothing w = w
left_by (verb.Add k) w = add_of w k
left_by verb.Read w = w
left_by (verb.Swap old new) w = swap_of w old new

-- Rule 3.1: A ticket is drawn from mX (writer) or mS (reader),
abbrev pub ticket_counter : Mode → Counter
ticket_counter Reader = MS
ticket_counter Writer = MX

-- Rule 3.1: and a release is counted in nX (writer) or nS (reader).
abbrev pub release_counter : Mode → Counter
release_counter Reader = NS
release_counter Writer = NX

-- Rule 3.1: What a step sends, by phase: Asking adds 1; Waiting reads; Owing takes its 1 back from the same counter; Clearing swaps the
-- clearing word for 0, and 0 for 0 where it has none, since none is kept as 0. A free request and a Held one send nothing.
abbrev pub step_sends_in : Phase → Request → Verb
step_sends_in Free q = verb.Nothing
step_sends_in Asking q = verb.Add (step_of (ticket_counter (mode_of q.mode)))
step_sends_in Waiting q = verb.Read
step_sends_in Held q = verb.Nothing
step_sends_in Owing q = verb.Add (back_of (ticket_counter (mode_of q.mode)))
step_sends_in Clearing q = verb.Swap q.clearing 0

unfoldable pub step_sends : Request → Verb
step_sends q = step_sends_in (phase_of q.phase) q

-- Rule 3.1: What a release sends: Held adds 1 to its release counter; any other phase sends nothing.
abbrev pub release_sends_in : Phase → Request → Verb
release_sends_in Free q = verb.Nothing
release_sends_in Asking q = verb.Nothing
release_sends_in Waiting q = verb.Nothing
release_sends_in Held q = verb.Add (step_of (release_counter (mode_of q.mode)))
release_sends_in Owing q = verb.Nothing
release_sends_in Clearing q = verb.Nothing

unfoldable pub release_sends : Request → Verb
release_sends q = release_sends_in (phase_of q.phase) q

-- What a request becomes, and what it is told.
abbrev pub becomes : Request → Answer → Taken
becomes q a = record { request = q; answer = a }

-- Rule 2.5: A slot that becomes free gets the one fixed content, whatever it was before.
abbrev pub freed : Answer → Taken
freed a = becomes free_request a

-- Rule 3.6: After the turn test: passed frees the slot, granted is Held, waiting is Waiting.
abbrev pub turned : Turn → Request → Taken
turned turn.Passed q = freed answer.Passed
turned turn.Granted q = becomes (in_phase Held q) answer.Granted
turned (turn.Ahead n) q = becomes (in_phase Waiting q) (answer.Waiting n)

-- Rules 3.3 and 3.4: The ticket is (p.mX, p.mS), with its clearing word or none.
abbrev pub ticketed : Request → Counters → Request
ticketed q p =
    record {
      «record» = q.«record»;
      mode = q.mode;
      phase = q.phase;
      ticket = record { 0 = p.mx; 1 = p.ms };
      clearing = clearing_word_of (mode_of q.mode) p;
    }

-- Rule 3.8: Waiting makes the turn test on what it read.
abbrev pub waited : Request → Counters → Taken
waited q v = turned (turn_of (mode_of q.mode) q.ticket v) q

-- Rules 3.2 to 3.5: Asking, with p the word returned: full is turned away, phase Owing, and no ticket is given; else the ticket, and the
-- turn test on p.
unfoldable pub asked : Request → Counters → Taken
asked q p = when full_at p then becomes (in_phase Owing q) answer.Full else waited (ticketed q p) p

-- Rule 3.11: Clearing: if the word returned equals the clearing word, cleared, slot free; else not yet clear, and it stays.
abbrev pub swapped : Request → ℕ → Taken
swapped q v = when eqb v q.clearing then freed answer.Cleared else becomes q answer.NotYetClear

-- Rules 3.2 to 3.9 and 3.11 to 3.13: What a request becomes when the result v of its step's verb arrives, by phase. A free or a Held one stays, and is told
-- wrong phase.
abbrev pub step_takes_in : Phase → Request → ℕ → Taken
step_takes_in Free q v = becomes q answer.WrongPhase
step_takes_in Asking q v = asked q (split_of v)
step_takes_in Waiting q v = waited q (split_of v)
step_takes_in Held q v = becomes q answer.WrongPhase
step_takes_in Owing q v = freed answer.Withdrawn
step_takes_in Clearing q v = swapped q v

unfoldable pub step_takes : Request → ℕ → Taken
step_takes q v = step_takes_in (phase_of q.phase) q v

-- Rule 3.10: Held, on release: without a clearing word released, slot free; with one clearing due, phase Clearing.
abbrev pub let_go : Request → Taken
let_go q = when eqb q.clearing NONE then freed answer.Released else becomes (in_phase Clearing q) answer.ClearingDue

-- Rules 3.10 and 3.12: What a request becomes when the result of its release's verb arrives, whatever that is. Any phase but Held stays,
-- and is told wrong phase.
abbrev pub release_takes_in : Phase → Request → Taken
release_takes_in Free q = becomes q answer.WrongPhase
release_takes_in Asking q = becomes q answer.WrongPhase
release_takes_in Waiting q = becomes q answer.WrongPhase
release_takes_in Held q = let_go q
release_takes_in Owing q = becomes q answer.WrongPhase
release_takes_in Clearing q = becomes q answer.WrongPhase

unfoldable pub release_takes : Request → ℕ → Taken
release_takes q v = release_takes_in (phase_of q.phase) q
