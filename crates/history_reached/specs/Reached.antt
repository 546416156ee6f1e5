-- What the ceiling brings is reached from a fresh board of one word, so that the promises about it are not said of nothing. Statements
-- only: proofs/ has why each holds.
use Rattle.std.specs.Prelude.{◌≡◌, List}
use Rattle.agent_rules.specs.declared.Answer.TheVariants.{Full, ClearingDue, Cleared, NotYetClear}
use Rattle.board_call.specs.declared.Call.TheVariants.{Step, Release}
use Rattle.board_rules.specs.declared.Answer.TheVariants.{Told}
use Rattle.history_promises.specs.Tickets.{AllReleased}
use Rattle.history_promises.specs.Ledger.Stage.{Owes, Clears}
use Rattle.history_promises.specs.History.{Move, ledger_after, answer_after}

-- A request is turned away;
abbrev pub FullIsReached : Type 0
FullIsReached = (ms : List Move) × (answer_after 1 ms (Step 1) ≡ Told Full)

-- a withdrawal is owed;
abbrev pub OwesIsReached : Type 0
OwesIsReached = (ms : List Move) × (((ledger_after 1 ms).seats 1).stage ≡ Owes)

-- a release is told that a clearing is due;
abbrev pub ClearingDueIsReached : Type 0
ClearingDueIsReached = (ms : List Move) × (answer_after 1 ms (Release 0) ≡ Told ClearingDue)

-- a slot is to clear;
abbrev pub ClearsIsReached : Type 0
ClearsIsReached = (ms : List Move) × (((ledger_after 1 ms).seats 0).stage ≡ Clears)

-- slot 0 is told not yet clear although every ticket is released, while slot 1 owes a withdrawal: the trap of a clearing too early;
abbrev pub NotYetClearIsReached : Type 0
NotYetClearIsReached =
    (ms : List Move) ×
    (answer_after 1 ms (Step 0) ≡ Told NotYetClear) ×
    AllReleased ((ledger_after 1 ms).tickets 0) × (((ledger_after 1 ms).seats 1).stage ≡ Owes)

-- and a record is cleared.
abbrev pub ClearedIsReached : Type 0
ClearedIsReached = (ms : List Move) × (answer_after 1 ms (Step 0) ≡ Told Cleared)
