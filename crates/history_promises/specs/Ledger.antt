-- The ledger: what calls and their answers tell of tickets and slots. No definition here knows a lock word, a counter or what a slot keeps.
use Rattle.std.specs.Prelude.{ℕ, zero, suc, ◌+◌, Bool, true, false, ◌&&◌, List, [], ◌∷◌, ◌++◌, eqb, length, set}
use Rattle.common.specs.Choice.{when◌then◌else◌}
use Rattle.agent_ticket.specs.declared.Mode.{Mode}
use Rattle.agent_ticket.specs.declared.Mode.TheVariants.{Reader}
use Rattle.agent_request.specs.Request.{mode_of}
use Rattle.board_slots.specs.Slots.{SLOTS}
use Rattle.board_call.specs.declared.Call.{Call}
use Rattle.board_call.specs.declared.Call.TheVariants.{Open, Step, Release, Show}
use Rattle.agent_rules.specs.declared.Answer.{Answer as Tells}
use Rattle.agent_rules.specs.declared.Answer.TheVariants.{WrongPhase, Granted, Waiting, Full, Withdrawn, Released}
use Rattle.agent_rules.specs.declared.Answer.TheVariants.{ClearingDue, Cleared, NotYetClear, Passed, FreedUnasked}
use Rattle.board_rules.specs.declared.Answer.{Answer}
use Rattle.board_rules.specs.declared.Answer.TheVariants.{Refused, Begun, Opened, Told, Shown, Fenced}
use Rattle.history_promises.specs.Tickets.{Given, ticket_at, same_kind, unreleased_before}

-- How far a slot has come: nobody sits there; it asks, waits or holds; a withdrawal is owed; or it clears.
pub data Stage : Type 0 where
  Nobody : Stage
  Asks : Stage
  Waits : Stage
  Holds : Stage
  Owes : Stage
  Clears : Stage

-- What is known of a slot: its stage, its record and kind, and the place of its ticket among the record's.
pub record Seat : Type 0 where
  pub stage : Stage
  pub about : ℕ
  pub kind : Mode
  pub place : ℕ

-- For each record its tickets since begin or its last clearing, oldest first; for each slot its seat. The tickets from before a clearing
-- can be left out: `ClearedOnly` says that each of them had been released.
pub record Ledger : Type 0 where
  pub tickets : ℕ → List Given
  pub seats : ℕ → Seat

abbrev pub free : Seat
free = record { stage = Nobody; about = 0; kind = Reader; place = 0 }

abbrev pub blank : Ledger
blank = record { tickets = λ r. []; seats = λ i. free }

-- A function with another value at one point.
abbrev pub put : {A : Type 0} → (ℕ → A) → ℕ → A → ℕ → A
put f k a x = when eqb x k then a else f x

abbrev pub seated : Ledger → ℕ → Seat → Ledger
seated L i t = record { tickets = L.tickets; seats = put L.seats i t }

abbrev pub tickets_now : Ledger → ℕ → List Given → Ledger
tickets_now L r l = record { tickets = put L.tickets r l; seats = L.seats }

-- The seat of a slot at another stage.
abbrev pub staged : Stage → Seat → Seat
staged g t = record { stage = g; about = t.about; kind = t.kind; place = t.place }

-- The tickets of the record that a slot is about.
abbrev pub mine : Ledger → ℕ → List Given
mine L i = L.tickets (L.seats i).about

-- How many tickets a slot that has one waits for: the earlier ones of its record that conflict with its own and have not been released.
abbrev pub waits_for : Ledger → ℕ → ℕ
waits_for L i = unreleased_before (mine L i) (L.seats i).kind (L.seats i).place

-- How many numbers below n pass a test: each that does counts one.
abbrev pub one : Bool → ℕ
one true = 1
one false = 0

unfoldable pub below : (ℕ → Bool) → ℕ → ℕ
below f zero = zero
below f (suc n) = one (f n) + below f n

-- Rule 9.3: A slot that was told full owes a withdrawal until it is told withdrawn.
abbrev pub is_owing : Stage → Bool
is_owing Nobody = false
is_owing Asks = false
is_owing Waits = false
is_owing Holds = false
is_owing Owes = true
is_owing Clears = false

-- Whether a seat owes a withdrawal of the kind k on the record r,
abbrev pub owes_on : ℕ → Mode → Seat → Bool
owes_on r k t = is_owing t.stage && (eqb t.about r && same_kind k t.kind)

-- and how many of the 256 slots do.
abbrev pub owed : (ℕ → Seat) → ℕ → Mode → ℕ
owed seats r k = below (λ i. owes_on r k (seats i)) SLOTS

-- Rule 9.2: A slot that asked is given a ticket, the youngest of its record.
abbrev pub drawn : ℕ → Stage → Ledger → Ledger
drawn i g L =
    seated (tickets_now L (L.seats i).about (mine L i ++ record { kind = (L.seats i).kind; slot = i; released = false } ∷ []))
    i (record { stage = g; about = (L.seats i).about; kind = (L.seats i).kind; place = length (mine L i) })

-- Rules 9.2 and 9.5: Granted or waiting: a slot that asks is given a ticket; one that waits already has it. None else is told so, which is
-- `ToldByStage` of demand 3, and `CareCounts` for cares.
abbrev pub granted_or_waits : Stage → ℕ → Stage → Ledger → Ledger
granted_or_waits Asks i g L = drawn i g L
granted_or_waits Waits i g L = seated L i (staged g (L.seats i))
granted_or_waits Nobody i g L = L
granted_or_waits Holds i g L = L
granted_or_waits Owes i g L = L
granted_or_waits Clears i g L = L

-- Rule 9.2: the ticket at a place is released.
abbrev pub as_released : Given → Given
as_released t = record { kind = t.kind; slot = t.slot; released = true }

abbrev pub released_at : List Given → ℕ → List Given
released_at l p = set l p (as_released (ticket_at l p))

abbrev pub ticket_released : ℕ → Seat → Ledger → Ledger
ticket_released i t L = seated (tickets_now L (L.seats i).about (released_at (mine L i) (L.seats i).place)) i t

-- Rules 9.2, 9.3 and 9.5: What a step's answer tells of its slot.
abbrev pub step_told : ℕ → Tells → Ledger → Ledger
step_told i Granted L = granted_or_waits (L.seats i).stage i Holds L
step_told i (Waiting n) L = granted_or_waits (L.seats i).stage i Waits L
step_told i Full L = seated L i (staged Owes (L.seats i))
step_told i Withdrawn L = seated L i free
step_told i Cleared L = seated (tickets_now L (L.seats i).about []) i free
step_told i Passed L = seated L i free
step_told i NotYetClear L = L
step_told i WrongPhase L = L
step_told i Released L = L
step_told i ClearingDue L = L
step_told i FreedUnasked L = L

-- Rules 9.2 and 9.5: What a release's answer tells of its slot.
abbrev pub release_told : ℕ → Tells → Ledger → Ledger
release_told i Released L = ticket_released i free L
release_told i ClearingDue L = ticket_released i (staged Clears (L.seats i)) L
release_told i Granted L = L
release_told i (Waiting n) L = L
release_told i Full L = L
release_told i Withdrawn L = L
release_told i Cleared L = L
release_told i NotYetClear L = L
release_told i WrongPhase L = L
release_told i Passed L = L
release_told i FreedUnasked L = L

-- What a care's answer tells of its slot, read by what it was: released and clearing due as a release's answer; freed unasked, the seat is free
-- again, and no ticket had been drawn; every other as a step's.
abbrev pub care_told : ℕ → Tells → Ledger → Ledger
care_told i Released L = release_told i Released L
care_told i ClearingDue L = release_told i ClearingDue L
care_told i FreedUnasked L = seated L i free
care_told i Granted L = step_told i Granted L
care_told i (Waiting n) L = step_told i (Waiting n) L
care_told i Full L = step_told i Full L
care_told i Withdrawn L = step_told i Withdrawn L
care_told i Cleared L = step_told i Cleared L
care_told i NotYetClear L = step_told i NotYetClear L
care_told i WrongPhase L = step_told i WrongPhase L
care_told i Passed L = step_told i Passed L

-- Rules 9.2 and 9.3: What a call and its answer tell. A refusal tells nothing.
abbrev pub noted_call : Call → Answer → Ledger → Ledger
noted_call (Open r m) (Opened k) L = seated L k (record { stage = Asks; about = r; kind = mode_of m; place = 0 })
noted_call (Open r m) (Refused n) L = L
noted_call (Open r m) Begun L = L
noted_call (Open r m) (Told a) L = L
noted_call (Open r m) (Shown w) L = L
noted_call (Open r m) Fenced L = L
noted_call (Step i) (Told a) L = step_told i a L
noted_call (Step i) (Refused n) L = L
noted_call (Step i) Begun L = L
noted_call (Step i) (Opened k) L = L
noted_call (Step i) (Shown w) L = L
noted_call (Step i) Fenced L = L
noted_call (Release i) (Told a) L = release_told i a L
noted_call (Release i) (Refused n) L = L
noted_call (Release i) Begun L = L
noted_call (Release i) (Opened k) L = L
noted_call (Release i) (Shown w) L = L
noted_call (Release i) Fenced L = L
noted_call (Show r) a L = L

-- What a care and its answer tell. A refusal tells nothing.
abbrev pub noted_care : ℕ → Answer → Ledger → Ledger
noted_care i (Told a) L = care_told i a L
noted_care i (Refused n) L = L
noted_care i Begun L = L
noted_care i (Opened k) L = L
noted_care i (Shown w) L = L
noted_care i Fenced L = L

-- Rule 9.1: With an accepted begin the ledger starts anew.
abbrev pub begun_with : Answer → Ledger → Ledger
begun_with Begun L = blank
begun_with (Refused n) L = L
begun_with (Opened k) L = L
begun_with (Told a) L = L
begun_with (Shown w) L = L
begun_with Fenced L = L
