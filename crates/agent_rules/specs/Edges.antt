-- Single steps, releases and cares on the edges of the rules that P1 to P12 do not reach, with the whole request before and after.
use Rattle.std.specs.Prelude.{ℕ, ◌≡◌, List, [], ◌∷◌, map}
use Rattle.word_layout.specs.Word.{split_of, join_of}
use Rattle.word_layout.specs.declared.Counters.{Counters}
use Rattle.agent_request.specs.Request.{NONE, free_request}
use Rattle.agent_request.specs.declared.Request.{Request}
use Rattle.agent_request.specs.declared.Phase.TheVariants.{Asking, Waiting, Held, Owing, Clearing}
use Rattle.agent_rules.specs.Life.{left_by, step_sends, release_sends, step_takes, release_takes}
use Rattle.agent_rules.specs.Care.{care_sends, care_takes}
use Rattle.agent_rules.specs.Answers.{numbers_of, accepted_with, refused_with}
use Rattle.agent_rules.specs.Examples.{word, ticket, reader, writer, request_in}
use Rattle.agent_rules.specs.declared.Numbers.{Numbers}
use Rattle.agent_rules.specs.declared.Taken.{Taken}
use Rattle.agent_rules.specs.declared.Verb.{Verb}

-- What is done with a request.
pub data Move : Type 0 where
  step : Move
  release : Move
  care : Move

-- One move: the request and the word before it, and both after it with what is told.
pub record Edge : Type 0 where
  pub does : Move
  pub before : Request
  pub finds : Counters
  pub after : Request
  pub leaves : Counters
  pub told : Numbers

abbrev edge : Move → Request → Counters → Request → Counters → Numbers → Edge
edge m q f r l n = record { does = m; before = q; finds = f; after = r; leaves = l; told = n }

-- A kept mode above 1, and a kept phase above 5.
abbrev seven : ℕ
seven = 7

abbrev in_no_phase : ℕ → Request
in_no_phase n = record { «record» = 3; mode = seven; phase = n; ticket = ticket 5 6; clearing = 9 }

abbrev pub edges : List Edge
edges =
    -- a reader and a writer let go
    edge release (request_in Held reader (ticket 0 0) NONE) (word 0 0 0 1) free_request (word 0 1 0 1) (accepted_with 6 0) ∷
    edge release (request_in Held writer (ticket 0 0) NONE) (word 0 0 1 0) free_request (word 1 0 1 0) (accepted_with 6 0) ∷
    -- with a clearing word the slot is kept
    edge release (request_in Held reader (ticket 0 32767) 9) (word 0 32767 0 32768)
    (request_in Clearing reader (ticket 0 32767) 9) (word 0 32768 0 32768) (accepted_with 7 0) ∷
    -- the last ticket of the own kind brings a clearing word, the last of the other kind none
    edge step (request_in Asking writer (ticket 0 0) NONE) (word 32767 3 32767 3)
    (request_in Held writer (ticket 32767 3) (join_of (word 32768 3 32768 3))) (word 32767 3 32768 3) (accepted_with 2 0) ∷
    edge step (request_in Asking reader (ticket 0 0) NONE) (word 32767 3 32767 3)
    (request_in Held reader (ticket 32767 3) NONE) (word 32767 3 32767 4) (accepted_with 2 0) ∷
    -- an ask on a word that no protocol left: passed, and the word keeps the 1
    edge step (request_in Asking reader (ticket 0 0) NONE) (word 1 0 0 0) free_request (word 1 0 0 1) (accepted_with 11 0) ∷
    -- full changes the phase alone, whatever the request brought; 65,535 runs into the next counter
    edge step (request_in Asking reader (ticket 5 6) 9) (word 0 0 0 65535) (request_in Owing reader (ticket 5 6) 9) (word 0 0 1 0) (accepted_with 4 0) ∷
    -- a ticket drops a clearing word that the request brought
    edge step (request_in Asking reader (ticket 5 6) 9) (word 0 0 0 0) (request_in Held reader (ticket 0 0) NONE) (word 0 0 0 1) (accepted_with 2 0) ∷
    -- a mode above 1 is a writer's and stays as it is
    edge step (request_in Asking seven (ticket 0 0) NONE) (word 0 0 0 1) (request_in Waiting seven (ticket 0 1) NONE) (word 0 0 1 1) (accepted_with 3 1) ∷
    edge step (request_in Owing seven (ticket 5 6) 9) (word 0 0 1 0) free_request (word 0 0 0 0) (accepted_with 5 0) ∷
    -- the most that are told ahead: a reader waits for writers, a writer for both kinds
    edge step (request_in Waiting reader (ticket 65535 65535) NONE) (word 0 0 0 0)
    (request_in Waiting reader (ticket 65535 65535) NONE) (word 0 0 0 0) (accepted_with 3 65535) ∷
    edge step (request_in Waiting writer (ticket 65535 65535) NONE) (word 0 0 0 0)
    (request_in Waiting writer (ticket 65535 65535) NONE) (word 0 0 0 0) (accepted_with 3 131070) ∷
    -- clearing without a clearing word swaps 0 for 0
    edge step (request_in Clearing reader (ticket 0 0) NONE) (word 0 0 0 0) free_request (word 0 0 0 0) (accepted_with 8 0) ∷
    edge step (request_in Clearing reader (ticket 0 0) NONE) (word 0 0 0 5) (request_in Clearing reader (ticket 0 0) NONE) (word 0 0 0 5) (accepted_with 9 0) ∷
    -- refusals: a step on Held, a release on another phase, and either on a phase that is none
    edge step (request_in Held reader (ticket 0 0) NONE) (word 0 0 0 1) (request_in Held reader (ticket 0 0) NONE) (word 0 0 0 1) (refused_with 5) ∷
    edge release (request_in Waiting reader (ticket 1 0) NONE) (word 0 0 1 1) (request_in Waiting reader (ticket 1 0) NONE) (word 0 0 1 1) (refused_with 5) ∷
    edge step (in_no_phase 77) (word 1 2 3 4) (in_no_phase 77) (word 1 2 3 4) (refused_with 5) ∷
    edge release (in_no_phase 77) (word 1 2 3 4) (in_no_phase 77) (word 1 2 3 4) (refused_with 5) ∷
    []

-- The same for cares: the request that a lost node left, in each phase.
abbrev pub cares : List Edge
cares =
    -- one that never asked is free and the word stays, whatever that is: fresh, full, or none that the rules leave
    edge care (request_in Asking reader (ticket 0 0) NONE) (word 0 0 0 0) free_request (word 0 0 0 0) (accepted_with 12 0) ∷
    edge care (request_in Asking writer (ticket 0 0) NONE) (word 5 7 32768 7) free_request (word 5 7 32768 7) (accepted_with 12 0) ∷
    edge care (request_in Asking seven (ticket 5 6) 9) (word 65535 65535 65535 65535) free_request (word 65535 65535 65535 65535) (accepted_with 12 0) ∷
    -- one that waits is granted and then holds, waits on with the number ahead, or has passed
    edge care (request_in Waiting reader (ticket 1 0) NONE) (word 1 0 1 1) (request_in Held reader (ticket 1 0) NONE) (word 1 0 1 1) (accepted_with 2 0) ∷
    edge care (request_in Waiting writer (ticket 3 4) 9) (word 2 4 6 6) (request_in Waiting writer (ticket 3 4) 9) (word 2 4 6 6) (accepted_with 3 1) ∷
    edge care (request_in Waiting writer (ticket 3 4) 9) (word 3 5 6 6) free_request (word 3 5 6 6) (accepted_with 11 0) ∷
    -- one that holds lets go; with a clearing word it is kept
    edge care (request_in Held reader (ticket 0 0) NONE) (word 0 0 0 1) free_request (word 0 1 0 1) (accepted_with 6 0) ∷
    edge care (request_in Held writer (ticket 0 0) NONE) (word 0 0 1 0) free_request (word 1 0 1 0) (accepted_with 6 0) ∷
    edge care (request_in Held reader (ticket 0 32767) 9) (word 0 32767 0 32768)
    (request_in Clearing reader (ticket 0 32767) 9) (word 0 32768 0 32768) (accepted_with 7 0) ∷
    -- one that owes takes its 1 back
    edge care (request_in Owing writer (ticket 0 0) NONE) (word 5 7 32769 7) free_request (word 5 7 32768 7) (accepted_with 5 0) ∷
    -- one that clears finds its word, or another
    edge care (request_in Clearing writer (ticket 0 0) 9) (word 0 0 0 9) free_request (word 0 0 0 0) (accepted_with 8 0) ∷
    edge care (request_in Clearing writer (ticket 0 0) 9) (word 0 0 0 8) (request_in Clearing writer (ticket 0 0) 9) (word 0 0 0 8) (accepted_with 9 0) ∷
    -- refusals: a free one, and a phase that is none
    edge care free_request (word 1 2 3 4) free_request (word 1 2 3 4) (refused_with 5) ∷
    edge care (in_no_phase 6) (word 1 2 3 4) (in_no_phase 6) (word 1 2 3 4) (refused_with 5) ∷
    edge care (in_no_phase 9) (word 1 2 3 4) (in_no_phase 9) (word 1 2 3 4) (refused_with 5) ∷
    []

abbrev sends : Move → Request → Verb
sends step q = step_sends q
sends release q = release_sends q
sends care q = care_sends q

abbrev takes : Move → Request → ℕ → Taken
takes step q v = step_takes q v
takes release q v = release_takes q v
takes care q v = care_takes q v

-- What is defined for a move.
abbrev pub moved : Move → Request → Counters → Edge
moved m q f =
    record {
      does = m;
      before = q;
      finds = f;
      after = (takes m q (join_of f)).request;
      leaves = split_of (left_by (sends m q) (join_of f));
      told = numbers_of (takes m q (join_of f)).answer;
    }

-- The claim: every row is what is defined.
abbrev Hold : List Edge → Type 0
Hold es = map (λ (e : Edge). moved e.does e.before e.finds) es ≡ es

abbrev pub EdgesHold : Type 0
EdgesHold = Hold edges

abbrev pub CaresHold : Type 0
CaresHold = Hold cares
