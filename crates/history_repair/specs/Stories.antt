-- A repair on a board of one word that stops behind a node that lives, with what the ledger then says.
use Rattle.std.specs.Prelude.{ℕ, ◌≡◌, true, false, List, [], ◌∷◌, map}
use Rattle.agent_ticket.specs.declared.Mode.TheVariants.{Reader, Writer}
use Rattle.board_call.specs.declared.Call.TheVariants.{Step}
use Rattle.board_call.specs.declared.AnyCall.TheVariants.{Base, OpenAs, Fence}
use Rattle.repair_rules.specs.Repair.{Cared, is_lost, repair_of}
use Rattle.history_promises.specs.Ledger.Stage.{Waits}
use Rattle.history_nodes.specs.History.{AnyMove, ledger_at, site_at}
use Rattle.history_nodes.specs.History.AnyMove.{Do}
use Rattle.history_repair.specs.Promises.{repaired}

abbrev opens_as : ℕ → ℕ → AnyMove
opens_as m k = Do (OpenAs 0 m k)

abbrev steps : ℕ → AnyMove
steps i = Do (Base (Step i))

-- Node 2's reader in slot 0 holds. Behind it node 1's writer in slot 1 waits, and behind that writer node 1's reader in slot 2. Node 1 is fenced.
abbrev pub reader_lives : List AnyMove
reader_lives = opens_as 0 2 ∷ steps 0 ∷ opens_as 1 1 ∷ steps 1 ∷ opens_as 0 1 ∷ steps 2 ∷ Do (Fence 1) ∷ []

-- The repair cares for slots 1 and 2, whose phase is 2, Waiting, and both are told waiting, 3. Nothing has changed.
abbrev pub both_wait : List Cared
both_wait = record { slot = 1; phase = 2; outcome = 3 } ∷ record { slot = 2; phase = 2; outcome = 3 } ∷ []

abbrev pub RepairStopsBehindAReader : Type 0
RepairStopsBehindAReader = repair_of (site_at 1 reader_lives) ≡ record { site = site_at 1 reader_lives; cares = both_wait }

-- Both are still lost, and slot 0 is not. The reader in slot 2 waits with the ticket at place 2. The only one before it that lives is slot 0's, and two
-- readers' tickets do not conflict; the one that does is slot 1's, which is lost as well.
abbrev pub ReaderWaitsBehindALostWriter : Type 0
ReaderWaitsBehindALostWriter =
    (map (is_lost (repair_of (site_at 1 reader_lives)).site) (0 ∷ 1 ∷ 2 ∷ []) ≡ false ∷ true ∷ true ∷ []) ×
    ((ledger_at 1 (repaired 1 reader_lives)).tickets 0 ≡
    record { kind = Reader; slot = 0; released = false } ∷
    record { kind = Writer; slot = 1; released = false } ∷
    record { kind = Reader; slot = 2; released = false } ∷ []) ×
    ((ledger_at 1 (repaired 1 reader_lives)).seats 2 ≡ record { stage = Waits; about = 0; kind = Reader; place = 2 })
