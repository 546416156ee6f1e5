-- Five histories on a board of one word, with every answer. Each claim is computed on the definitions.
use Rattle.std.specs.Prelude.{ℕ, ◌≡◌, Bool, true, false, ◌&&◌, List, [], ◌∷◌, ◌++◌, map, eqb, get_or}
use Rattle.agent_ticket.specs.declared.Mode.{Mode}
use Rattle.agent_ticket.specs.declared.Mode.TheVariants.{Reader, Writer}
use Rattle.board_call.specs.declared.Call.TheVariants.{Open, Step, Release}
use Rattle.agent_rules.specs.declared.Answer.TheVariants.{Granted, Waiting, Released, FreedUnasked}
use Rattle.board_rules.specs.declared.Answer.{Answer}
use Rattle.board_rules.specs.declared.Answer.TheVariants.{Opened, Told}
use Rattle.history_promises.specs.Tickets.{Given}
use Rattle.history_promises.specs.Ledger.{Stage, Seat, free, waits_for}
use Rattle.history_promises.specs.Ledger.Stage.{Waits, Holds}
use Rattle.history_promises.specs.History.{Move, Event, fresh, events, ledger_after}
use Rattle.history_promises.specs.History.Move.{Do, Care}

abbrev opens_writer : Move
opens_writer = Do (Open 0 1)

abbrev opens_reader : Move
opens_reader = Do (Open 0 0)

abbrev steps : ℕ → Move
steps i = Do (Step i)

abbrev releases : ℕ → Move
releases i = Do (Release i)

abbrev cares : ℕ → Move
cares i = Care i

abbrev pub answers : List Move → List Answer
answers ms = map (λ (e : Event). e.answer) (events (fresh 1) ms)

-- The slow reader: a writer holds, two readers wait, the quick one is served and leaves, and the slow one looks again.
abbrev pub slow_reader : List Move
slow_reader =
    opens_writer ∷ steps 0 ∷
    opens_reader ∷ steps 1 ∷
    opens_reader ∷ steps 2 ∷
    releases 0 ∷ steps 2 ∷ releases 2 ∷
    steps 1 ∷ []

abbrev pub SlowReaderIsGranted : Type 0
SlowReaderIsGranted =
    answers slow_reader ≡
    Opened 0 ∷ Told Granted ∷
    Opened 1 ∷ Told (Waiting 1) ∷
    Opened 2 ∷ Told (Waiting 1) ∷
    Told Released ∷ Told Granted ∷ Told Released ∷
    Told Granted ∷ []

-- What the ledger then says of its record: three tickets, all released but its own; and of its slot: it holds the ticket at the place 1.
abbrev pub SlowReaderInTheLedger : Type 0
SlowReaderInTheLedger =
    ((ledger_after 1 slow_reader).tickets 0 ≡
    record { kind = Writer; slot = 0; released = true } ∷
    record { kind = Reader; slot = 1; released = false } ∷
    record { kind = Reader; slot = 2; released = true } ∷ []) ×
    ((ledger_after 1 slow_reader).seats 1 ≡ record { stage = Holds; about = 0; kind = Reader; place = 1 })

-- A writer waits for two readers, and is told so until both have left.
abbrev pub WriterWaitsForReaders : Type 0
WriterWaitsForReaders =
    answers
    (opens_reader ∷ steps 0 ∷
    opens_reader ∷ steps 1 ∷
    opens_writer ∷ steps 2 ∷
    releases 0 ∷ steps 2 ∷
    releases 1 ∷ steps 2 ∷ []) ≡
    Opened 0 ∷ Told Granted ∷
    Opened 1 ∷ Told Granted ∷
    Opened 2 ∷ Told (Waiting 2) ∷
    Told Released ∷ Told (Waiting 1) ∷
    Told Released ∷ Told Granted ∷ []

-- A later reader may not overtake a waiting writer, though only readers hold the record.
abbrev pub ReaderStaysBehindWriter : Type 0
ReaderStaysBehindWriter =
    answers
    (opens_reader ∷ steps 0 ∷
    opens_writer ∷ steps 1 ∷
    opens_reader ∷ steps 2 ∷
    releases 0 ∷ steps 2 ∷
    steps 1 ∷ releases 1 ∷ steps 2 ∷ []) ≡
    Opened 0 ∷ Told Granted ∷
    Opened 1 ∷ Told (Waiting 1) ∷
    Opened 2 ∷ Told (Waiting 1) ∷
    Told Released ∷ Told (Waiting 1) ∷
    Told Granted ∷ Told Released ∷ Told Granted ∷ []

-- Readers and writers mixed, none released: a writer (slot 0) holds, three readers wait, then a writer, then a reader.
abbrev pub six_ask : List Move
six_ask =
    opens_writer ∷ steps 0 ∷
    opens_reader ∷ steps 1 ∷
    opens_reader ∷ steps 2 ∷
    opens_reader ∷ steps 3 ∷
    opens_writer ∷ steps 4 ∷
    opens_reader ∷ steps 5 ∷ []

-- Behind a writer and two readers a reader (slot 3) is told 1; behind two writers, and three readers, one (slot 5) is told 2; a writer behind
-- both kinds (slot 4) is told all 4.
abbrev pub EachIsToldHowMany : Type 0
EachIsToldHowMany =
    answers six_ask ≡
    Opened 0 ∷ Told Granted ∷
    Opened 1 ∷ Told (Waiting 1) ∷
    Opened 2 ∷ Told (Waiting 1) ∷
    Opened 3 ∷ Told (Waiting 1) ∷
    Opened 4 ∷ Told (Waiting 4) ∷
    Opened 5 ∷ Told (Waiting 2) ∷ []

-- What the ledger then says: six tickets, none released, each of the slot with its place.
abbrev six_kinds : List Mode
six_kinds = Writer ∷ Reader ∷ Reader ∷ Reader ∷ Writer ∷ Reader ∷ []

abbrev six_slots : List ℕ
six_slots = 0 ∷ 1 ∷ 2 ∷ 3 ∷ 4 ∷ 5 ∷ []

abbrev six : Bool → List Given
six first = map (λ (i : ℕ). record { kind = get_or six_kinds i Reader; slot = i; released = eqb i 0 && first }) six_slots

abbrev six_seat : Stage → ℕ → Seat
six_seat g i = record { stage = g; about = 0; kind = get_or six_kinds i Reader; place = i }

abbrev pub SixInTheLedger : Type 0
SixInTheLedger =
    ((ledger_after 1 six_ask).tickets 0 ≡ six false) ×
    (map (ledger_after 1 six_ask).seats six_slots ≡ six_seat Holds 0 ∷ map (six_seat Waits) (1 ∷ 2 ∷ 3 ∷ 4 ∷ 5 ∷ []))

-- With these tickets and places (`waits_for` looks at no stage) each waits for as many as it was told, and slot 0, which was granted, for none;
-- and with the first ticket released, which is not read off a history here, each that waits for one fewer.
abbrev pub EachWaitsFor : Type 0
EachWaitsFor =
    map (λ (first : Bool). map (waits_for (record { tickets = λ r. six first; seats = six_seat Waits })) six_slots) (false ∷ true ∷ []) ≡
    (0 ∷ 1 ∷ 1 ∷ 1 ∷ 4 ∷ 2 ∷ []) ∷ (0 ∷ 0 ∷ 0 ∷ 0 ∷ 3 ∷ 1 ∷ []) ∷ []

-- How they go on. The last reader's number falls with each release of a writer, and with no reader's; the second writer's falls with each.
abbrev pub NumbersFallWithReleases : Type 0
NumbersFallWithReleases =
    answers
    (six_ask ++
    releases 0 ∷ steps 5 ∷ steps 4 ∷
    steps 1 ∷ releases 1 ∷ steps 5 ∷ steps 4 ∷
    steps 2 ∷ steps 3 ∷ releases 3 ∷ steps 5 ∷ steps 4 ∷
    releases 2 ∷ steps 5 ∷ steps 4 ∷ releases 4 ∷ steps 5 ∷ []) ≡
    answers six_ask ++
    Told Released ∷ Told (Waiting 1) ∷ Told (Waiting 3) ∷
    Told Granted ∷ Told Released ∷ Told (Waiting 1) ∷ Told (Waiting 2) ∷
    Told Granted ∷ Told Granted ∷ Told Released ∷ Told (Waiting 1) ∷ Told (Waiting 1) ∷
    Told Released ∷ Told (Waiting 1) ∷ Told Granted ∷ Told Released ∷ Told Granted ∷ []

-- A lost node: its writer in slot 0 holds, its writer in slot 1 waits, and slot 2 never asked. Behind them waits a reader of another node, in slot
-- 3. The slots of the lost node are cared for, lowest first, until none is left: the first is released, the second granted and then released,
-- the third freed unasked. Then the reader is granted.
abbrev pub lost_node : List Move
lost_node =
    opens_writer ∷ steps 0 ∷
    opens_writer ∷ steps 1 ∷
    opens_reader ∷
    opens_reader ∷ steps 3 ∷
    cares 0 ∷ cares 1 ∷ cares 2 ∷ cares 1 ∷
    steps 3 ∷ []

abbrev pub LostNodeIsCaredFor : Type 0
LostNodeIsCaredFor =
    answers lost_node ≡
    Opened 0 ∷ Told Granted ∷
    Opened 1 ∷ Told (Waiting 1) ∷
    Opened 2 ∷
    Opened 3 ∷ Told (Waiting 2) ∷
    Told Released ∷ Told Granted ∷ Told FreedUnasked ∷ Told Released ∷
    Told Granted ∷ []

-- What the ledger then says: both writers' tickets are released, slot 2 has drawn none, and only the reader sits.
abbrev pub LostNodeInTheLedger : Type 0
LostNodeInTheLedger =
    ((ledger_after 1 lost_node).tickets 0 ≡
    record { kind = Writer; slot = 0; released = true } ∷
    record { kind = Writer; slot = 1; released = true } ∷
    record { kind = Reader; slot = 3; released = false } ∷ []) ×
    (map (ledger_after 1 lost_node).seats (0 ∷ 1 ∷ 2 ∷ 3 ∷ []) ≡
    free ∷ free ∷ free ∷ record { stage = Holds; about = 0; kind = Reader; place = 2 } ∷ [])
