-- A history with a lost node on a board of one word, with every answer. It is computed on the definitions.
use Rattle.std.specs.Prelude.{ℕ, ◌≡◌, true, false, List, [], ◌∷◌, map}
use Rattle.agent_ticket.specs.declared.Mode.TheVariants.{Writer}
use Rattle.agent_rules.specs.declared.Answer.TheVariants.{Granted, Waiting, Released}
use Rattle.board_call.specs.declared.Call.TheVariants.{Step}
use Rattle.board_call.specs.declared.AnyCall.TheVariants.{Base, OpenAs, Fence, Care}
use Rattle.board_rules.specs.declared.Answer.TheVariants.{Refused, Opened, Told, Fenced}
use Rattle.history_promises.specs.Ledger.{free}
use Rattle.history_promises.specs.Ledger.Stage.{Holds}
use Rattle.history_nodes.specs.History.{AnyMove, AnyEvent, fresh_site, events_at, ledger_at}
use Rattle.history_nodes.specs.History.AnyMove.{Do}

abbrev opens_writer_as : ℕ → AnyMove
opens_writer_as k = Do (OpenAs 0 1 k)

abbrev steps : ℕ → AnyMove
steps i = Do (Base (Step i))

abbrev cares : ℕ → AnyMove
cares i = Do (Care i)

-- Node 1's writer in slot 0 holds, node 2's in slot 1 waits. Node 1 is lost and fenced. It cannot step any more, and slot 1, whose node lives, is
-- not cared for. The care of slot 0 releases it, and slot 1 is granted.
abbrev pub lost_node : List AnyMove
lost_node =
    opens_writer_as 1 ∷ steps 0 ∷
    opens_writer_as 2 ∷ steps 1 ∷
    Do (Fence 1) ∷
    steps 0 ∷ cares 1 ∷ opens_writer_as 1 ∷
    cares 0 ∷ steps 1 ∷ []

abbrev pub LostNodeIsCaredFor : Type 0
LostNodeIsCaredFor =
    map (λ (e : AnyEvent). e.answer) (events_at (fresh_site 1) lost_node) ≡
    Opened 0 ∷ Told Granted ∷
    Opened 1 ∷ Told (Waiting 1) ∷
    Fenced ∷
    Refused 15 ∷ Refused 16 ∷ Refused 14 ∷
    Told Released ∷ Told Granted ∷ []

-- What the ledger then says: the lost node's ticket is released and its seat free, and the other holds.
abbrev pub LostNodeInTheLedger : Type 0
LostNodeInTheLedger =
    ((ledger_at 1 lost_node).tickets 0 ≡
    record { kind = Writer; slot = 0; released = true } ∷
    record { kind = Writer; slot = 1; released = false } ∷ []) ×
    (map (ledger_at 1 lost_node).seats (0 ∷ 1 ∷ []) ≡ free ∷ record { stage = Holds; about = 0; kind = Writer; place = 1 } ∷ [])
