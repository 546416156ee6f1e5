-- What a request keeps, and how its kept numbers are read.
use Rattle.std.specs.Prelude.{ℕ, Bool, true, false, eqb}
use Rattle.common.specs.Choice.{when◌then◌else◌}
use Rattle.agent_request.specs.declared.Request.{Request}
use Rattle.agent_ticket.specs.declared.Ticket.{Ticket}
use Rattle.agent_request.specs.declared.Phase.{Phase}
use Rattle.agent_request.specs.declared.Phase.TheVariants.{Free, Asking, Waiting, Held, Owing, Clearing}
use Rattle.agent_ticket.specs.declared.Mode.{Mode}
use Rattle.agent_ticket.specs.declared.Mode.TheVariants.{Reader, Writer}

-- Rule 2.3: A phase kept as a number is 0 free, 1 Asking, 2 Waiting, 3 Held, 4 Owing, 5 Clearing;
abbrev pub phase_number : Phase → ℕ
phase_number Free = 0
phase_number Asking = 1
phase_number Waiting = 2
phase_number Held = 3
phase_number Owing = 4
phase_number Clearing = 5

-- Rule 2.3: any other number counts as free.
abbrev pub phase_of : ℕ → Phase
phase_of n =
    when eqb n (phase_number Asking) then Asking else
    when eqb n (phase_number Waiting) then Waiting else
    when eqb n (phase_number Held) then Held else
    when eqb n (phase_number Owing) then Owing else
    when eqb n (phase_number Clearing) then Clearing else Free

-- Rule 2.2: Reader means shared, mode 0; writer exclusive, mode 1. A kept mode other than 0 counts as 1.
abbrev pub mode_of : ℕ → Mode
mode_of n = when eqb n 0 then Reader else Writer

-- Rule 2.4: A request is in use in every phase but free.
abbrev pub used_phase : Phase → Bool
used_phase Free = false
used_phase Asking = true
used_phase Waiting = true
used_phase Held = true
used_phase Owing = true
used_phase Clearing = true

abbrev pub in_use : Request → Bool
in_use q = used_phase (phase_of q.phase)

-- Decision 4: Having no clearing word is kept as the number 0. `ClearingWordIsSome` says that the rules give no clearing word 0.
abbrev pub NONE : ℕ
NONE = 0

abbrev pub no_ticket : Ticket
no_ticket = record { 0 = record { 0 = 0 }; 1 = record { 0 = 0 } }

-- Rule 2.5: The one content of a free slot: record 0, mode 0, ticket (0, 0), no clearing word, phase 0.
abbrev pub free_request : Request
free_request = record { «record» = 0; mode = 0; phase = phase_number Free; ticket = no_ticket; clearing = NONE }

-- Rule 2.6: An opened request has ticket (0, 0) and no clearing word.
abbrev pub opened_request : ℕ → ℕ → Request
opened_request r m = record { «record» = r; mode = m; phase = phase_number Asking; ticket = no_ticket; clearing = NONE }

-- Rule 2.7: The request in another phase; what a rule does not name in a request stays.
abbrev pub in_phase : Phase → Request → Request
in_phase p q = record { «record» = q.«record»; mode = q.mode; phase = phase_number p; ticket = q.ticket; clearing = q.clearing }
