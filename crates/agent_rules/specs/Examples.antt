-- P1 to P12 of docs/RULES.md, section 10, and the trap of the slow reader, in plain numbers, and one claim over all of them.
use Rattle.std.specs.Prelude.{ℕ, ◌≡◌, List, [], ◌∷◌, map}
use Rattle.word_layout.specs.Word.{split_of, join_of}
use Rattle.word_layout.specs.declared.Counters.{Counters}
use Rattle.agent_ticket.specs.declared.Ticket.{Ticket}
use Rattle.agent_request.specs.Request.{NONE, phase_number, phase_of, opened_request}
use Rattle.agent_request.specs.declared.Request.{Request}
use Rattle.agent_request.specs.declared.Phase.{Phase}
use Rattle.agent_request.specs.declared.Phase.TheVariants.{Free, Waiting, Held, Owing, Clearing}
use Rattle.agent_rules.specs.Life.{left_by, step_sends, step_takes}
use Rattle.agent_rules.specs.Answers.{numbers_of}
use Rattle.agent_rules.specs.declared.Taken.{Taken}

-- One step of an example: the word that it finds and the word that it leaves; the request's phase, ticket and clearing word
-- afterwards; the outcome, and the number ahead.
pub record Step : Type 0 where
  pub finds : Counters
  pub leaves : Counters
  pub phase : Phase
  pub ticket : Ticket
  pub clearing : Counters
  pub outcome : ℕ
  pub ahead : ℕ

-- The number of an example, its request, and the request's steps one after the other.
pub record Example : Type 0 where
  pub number : ℕ
  pub request : Request
  pub steps : List Step

-- {nX, nS, mX, mS}
abbrev pub word : ℕ → ℕ → ℕ → ℕ → Counters
word a b c d = record { nx = record { 0 = a }; ns = record { 0 = b }; mx = record { 0 = c }; ms = record { 0 = d } }

-- (x, s)
abbrev pub ticket : ℕ → ℕ → Ticket
ticket x s = record { 0 = record { 0 = x }; 1 = record { 0 = s } }

abbrev none : Counters
none = word 0 0 0 0

abbrev pub reader : ℕ
reader = 0

abbrev pub writer : ℕ
writer = 1

abbrev granted : ℕ
granted = 2

abbrev waiting : ℕ
waiting = 3

abbrev full : ℕ
full = 4

abbrev withdrawn : ℕ
withdrawn = 5

abbrev cleared : ℕ
cleared = 8

abbrev not_yet_clear : ℕ
not_yet_clear = 9

abbrev passed : ℕ
passed = 11

-- A request in a phase, with its mode, ticket and clearing word.
abbrev pub request_in : Phase → ℕ → Ticket → ℕ → Request
request_in p m t c = record { «record» = 0; mode = m; phase = phase_number p; ticket = t; clearing = c }

-- A request that asks; one that waits with a ticket; one that is clearing.
abbrev asks : ℕ → Request
asks m = opened_request 0 m

abbrev waits : ℕ → Ticket → Request
waits m t = request_in Waiting m t NONE

abbrev clears : ℕ → Ticket → Counters → Request
clears m t c = request_in Clearing m t (join_of c)

abbrev step : Counters → Counters → Phase → Ticket → Counters → ℕ → ℕ → Step
step f l p t c o a = record { finds = f; leaves = l; phase = p; ticket = t; clearing = c; outcome = o; ahead = a }

abbrev example : ℕ → Request → List Step → Example
example n q ss = record { number = n; request = q; steps = ss }

-- P1 to P12. The row 13 is the trap: writer (0, 0) held, readers (1, 0) and (1, 1) waited, the writer released, the second reader was
-- granted and released; the first must now be granted.
abbrev pub examples : List Example
examples =
    example 1 (asks writer) (step (word 1 1 1 4) (word 1 1 2 4) Waiting (ticket 1 4) none waiting 3 ∷ []) ∷
    example 2 (asks reader)
    (step (word 29998 32765 30000 32767) (word 29998 32765 30000 32768) Waiting (ticket 30000 32767) (word 30000 32768 30000 32768) waiting 2 ∷ []) ∷
    example 3 (asks reader)
    (step (word 5 5 5 32768) (word 5 5 5 32769) Owing (ticket 0 0) none full 0 ∷
    step (word 5 5 5 32769) (word 5 5 5 32768) Free (ticket 0 0) none withdrawn 0 ∷
    []) ∷
    example 4 (asks reader) (step (word 5 7 32768 7) (word 5 7 32768 8) Owing (ticket 0 0) none full 0 ∷ []) ∷
    example 5 (asks reader) (step (word 0 0 0 0) (word 0 0 0 1) Held (ticket 0 0) none granted 0 ∷ []) ∷
    example 6 (waits writer (ticket 3 4)) (step (word 3 4 6 6) (word 3 4 6 6) Held (ticket 3 4) none granted 0 ∷ []) ∷
    example 7 (waits writer (ticket 3 4)) (step (word 2 4 6 6) (word 2 4 6 6) Waiting (ticket 3 4) none waiting 1 ∷ []) ∷
    example 8 (waits writer (ticket 3 4)) (step (word 3 5 6 6) (word 3 5 6 6) Free (ticket 0 0) none passed 0 ∷ []) ∷
    example 9 (waits reader (ticket 3 4)) (step (word 3 9 5 9) (word 3 9 5 9) Held (ticket 3 4) none granted 0 ∷ []) ∷
    example 10 (waits reader (ticket 3 4)) (step (word 2 9 4 9) (word 2 9 4 9) Waiting (ticket 3 4) none waiting 1 ∷ []) ∷
    example 11 (waits reader (ticket 3 4)) (step (word 4 4 5 9) (word 4 4 5 9) Free (ticket 0 0) none passed 0 ∷ []) ∷
    example 12 (clears reader (ticket 30000 32767) (word 30000 32768 30000 32768))
    (step (word 30000 32768 30001 32768) (word 30000 32768 30001 32768) Clearing (ticket 30000 32767) (word 30000 32768 30000 32768) not_yet_clear 0 ∷
    step (word 30000 32768 30000 32768) (word 0 0 0 0) Free (ticket 0 0) none cleared 0 ∷
    []) ∷
    example 13 (waits reader (ticket 1 0)) (step (word 1 1 1 2) (word 1 1 1 2) Held (ticket 1 0) none granted 0 ∷ []) ∷
    []

-- What `Word` and `Life` define for one step of a request that finds the word f,
abbrev pub as_step : Request → Counters → Taken → Step
as_step q f t =
    record {
      finds = f;
      leaves = split_of (left_by (step_sends q) (join_of f));
      phase = phase_of t.request.phase;
      ticket = t.request.ticket;
      clearing = split_of t.request.clearing;
      outcome = (numbers_of t.answer).outcome;
      ahead = (numbers_of t.answer).value;
    }

-- and for step after step, the request being what the step before made of it.
abbrev pub steps_of : Request → List Counters → List Step
steps_of q [] = []
steps_of q (f ∷ fs) = as_step q f (step_takes q (join_of f)) ∷ steps_of (step_takes q (join_of f)).request fs

-- The claim: every row's words after, phases, tickets, clearing words, outcomes and numbers ahead are what is defined.
abbrev pub ExamplesHold : Type 0
ExamplesHold =
    map (λ (e : Example). steps_of e.request (map (λ (s : Step). s.finds) e.steps)) examples ≡
    map (λ (e : Example). e.steps) examples
