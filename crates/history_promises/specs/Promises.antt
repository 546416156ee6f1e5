-- Demand 3 of docs/RULES.md, section 11: first that the ledger is read rightly, then D3.1 to D3.8 in order, then all of it as one, and last
-- what a care counts as. D3.8 was asked for beside the demand.
-- Statements only: proofs/ has why each holds.
use Rattle.std.specs.Prelude.{ℕ, suc, ◌+◌, ◌<◌, ◌≤◌, ◌≡◌, false, ◌↔◌, ◌⊎◌, List, [], ◌∷◌, ◌++◌, length, get_or}
use Rattle.word_layout.specs.Word.{held_by, join_of}
use Rattle.word_layout.specs.declared.Counters.{Counters}
use Rattle.word_layout.specs.declared.Counter.{Counter}
use Rattle.agent_ticket.specs.declared.Mode.{Mode}
use Rattle.agent_ticket.specs.declared.Mode.TheVariants.{Reader, Writer}
use Rattle.board_slots.specs.Slots.{SLOTS}
use Rattle.board_call.specs.declared.Call.{Call}
use Rattle.board_call.specs.declared.Call.TheVariants.{Open, Step, Release}
use Rattle.agent_rules.specs.declared.Answer.TheVariants.{Granted, Waiting, Full, Withdrawn, Released, ClearingDue, Cleared, NotYetClear, Passed}
use Rattle.agent_rules.specs.declared.Answer.TheVariants.{FreedUnasked}
use Rattle.board_rules.specs.declared.Answer.{Answer}
use Rattle.board_rules.specs.declared.Answer.TheVariants.{Refused, Begun, Opened, Told}
use Rattle.board_rules.specs.Board.{State, state_of, begun}
use Rattle.board_rules.specs.Care.{cared}
use Rattle.history_promises.specs.Tickets.{Given, ticket_at, given_of, released_of, EarlierReleased, unreleased_before, AllReleased}
use Rattle.history_promises.specs.Ledger.{Ledger, Stage, free, mine, waits_for, owed, noted_call}
use Rattle.history_promises.specs.Ledger.Stage.{Nobody, Asks, Waits, Holds, Owes, Clears}
use Rattle.history_promises.specs.History.{Move, fresh, ledger_after, board_after, answer_after}
use Rattle.history_promises.specs.History.Move.{Do, Care}

-- First, that the ledger is read rightly.

abbrev pub HasTicket : Stage → Type 0
HasTicket g = (g ≡ Waits) ⊎ (g ≡ Holds)

-- Who waits or holds has a ticket of its own, unreleased, at its place.
abbrev pub SeatHasItsTicket : Ledger → Type 0
SeatHasItsTicket L =
    (i : ℕ) →
    HasTicket (L.seats i).stage →
    ((L.seats i).place < length (mine L i)) ×
    (ticket_at (mine L i) (L.seats i).place ≡ record { kind = (L.seats i).kind; slot = i; released = false })

-- Every unreleased ticket is that of the slot that it names, which waits or holds.
abbrev pub TicketHasItsSeat : ℕ → Ledger → Type 0
TicketHasItsSeat n L =
    (r j : ℕ) → r < n → j < length (L.tickets r) →
    (ticket_at (L.tickets r) j).released ≡ false →
    HasTicket (L.seats (ticket_at (L.tickets r) j).slot).stage ×
    ((L.seats (ticket_at (L.tickets r) j).slot).about ≡ r) × ((L.seats (ticket_at (L.tickets r) j).slot).place ≡ j)

-- What a step is told, by its slot's stage. So none is granted, or told to wait, but a slot that asks or waits: the ledger leaves no grant
-- out. A step of a slot that asks, waits, owes or clears is never refused, and none but a slot that asks is told full.
abbrev pub StepTells : Stage → Answer → Type 0
StepTells Nobody a = (a ≡ Refused 1) ⊎ (a ≡ Refused 4)
StepTells Asks a = (a ≡ Told Full) ⊎ ((a ≡ Told Granted) ⊎ ((n : ℕ) × (a ≡ Told (Waiting n))))
StepTells Waits a = (a ≡ Told Granted) ⊎ ((n : ℕ) × (a ≡ Told (Waiting n)))
StepTells Holds a = a ≡ Refused 5
StepTells Owes a = a ≡ Told Withdrawn
StepTells Clears a = (a ≡ Told Cleared) ⊎ (a ≡ Told NotYetClear)

-- What a release is told: a slot lets go only while it holds, and is then never refused.
abbrev pub ReleaseTells : Stage → Answer → Type 0
ReleaseTells Nobody a = (a ≡ Refused 1) ⊎ (a ≡ Refused 4)
ReleaseTells Asks a = a ≡ Refused 5
ReleaseTells Waits a = a ≡ Refused 5
ReleaseTells Holds a = (a ≡ Told Released) ⊎ (a ≡ Told ClearingDue)
ReleaseTells Owes a = a ≡ Refused 5
ReleaseTells Clears a = a ≡ Refused 5

abbrev pub ToldByStage : Ledger → (Call → Answer) → Type 0
ToldByStage L says = (i : ℕ) → StepTells (L.seats i).stage (says (Step i)) × ReleaseTells (L.seats i).stage (says (Release i))

-- Rules 3.4 and 3.10: A slot that lets go is told that a clearing is due if its ticket is the youngest of its record and 32,768 tickets of
-- some kind have been given there, and only then: it is the ticket that reached the ceiling, since behind it none is given.
abbrev pub DueExactly : Ledger → (Call → Answer) → Type 0
DueExactly L says =
    (i : ℕ) →
    (L.seats i).stage ≡ Holds →
    (says (Release i) ≡ Told ClearingDue) ↔
    ((suc (L.seats i).place ≡ length (mine L i)) × ((k : Mode) × (given_of k (mine L i) ≡ 32768)))

-- Somebody sits in each of the 256 slots.
abbrev pub AllTaken : Ledger → Type 0
AllTaken L = (k : ℕ) → k < SLOTS → (L.seats k).stage ≡ Nobody → ⊥

-- What an open is told on a board of n words: a refusal if there is no such record, or the mode is neither 0 nor 1, or all slots are taken,
-- and only then; else one of the 256 slots, in which nobody sits. So no open takes its slot from one who asks, waits, holds, owes or clears.
abbrev pub OpenTells : ℕ → Ledger → ℕ → ℕ → Answer → Type 0
OpenTells n L r m a =
    ((x : ℕ) × (a ≡ Refused x) × ((n ≤ r) ⊎ ((1 < m) ⊎ AllTaken L))) ⊎
    ((k : ℕ) × (a ≡ Opened k) × (r < n) × (m ≤ 1) × (k < SLOTS) × ((L.seats k).stage ≡ Nobody))

abbrev pub OpensWhereNobodySits : ℕ → Ledger → (Call → Answer) → Type 0
OpensWhereNobodySits n L says = (r m : ℕ) → OpenTells n L r m (says (Open r m))

-- A record never has more than 32,768 tickets of a kind.
abbrev pub NeverMore : ℕ → Ledger → Type 0
NeverMore n L = (r : ℕ) (k : Mode) → r < n → given_of k (L.tickets r) ≤ 32768

-- Rules 1.2, 9.2 and 9.3: The counters of a record with the tickets l, on which o k withdrawals of the kind k are owed: nX and nS count what
-- was released, mX and mS what was given and what is owed.
abbrev pub counters_of : List Given → (Mode → ℕ) → Counters
counters_of l o =
    record {
      nx = record { 0 = released_of Writer l };
      ns = record { 0 = released_of Reader l };
      mx = record { 0 = given_of Writer l + o Writer };
      ms = record { 0 = given_of Reader l + o Reader };
    }

-- There are n words and 256 slots, and each word is what the ledger counts of its record.
abbrev pub WordsAreCounted : ℕ → Ledger → State → Type 0
WordsAreCounted n L s =
    (length s.words ≡ n) × (length s.slots ≡ SLOTS) ×
    ((r : ℕ) → r < n → get_or s.words r 0 ≡ join_of (counters_of (L.tickets r) (owed L.seats r)))

-- Then D3.1 to D3.8.

-- Demand D3.1: A record that a writer holds has no other holder: whoever holds it is that writer.
abbrev pub WriterHoldsAlone : Ledger → Type 0
WriterHoldsAlone L =
    (i j : ℕ) →
    (L.seats i).stage ≡ Holds →
    (L.seats i).kind ≡ Writer →
    (L.seats j).stage ≡ Holds →
    (L.seats j).about ≡ (L.seats i).about →
    i ≡ j

-- Demand D3.2: A step draws a ticket if its slot asks and is not told full. It is granted if all earlier tickets of its record that
-- conflict with its own are released, and only then;
abbrev pub DrawnIsGrantedExactly : Ledger → (Call → Answer) → Type 0
DrawnIsGrantedExactly L says =
    (i : ℕ) →
    (L.seats i).stage ≡ Asks →
    (says (Step i) ≡ Told Full → ⊥) →
    (says (Step i) ≡ Told Granted) ↔ EarlierReleased (mine L i) (L.seats i).kind (length (mine L i))

-- Demand D3.3: and so is a step of a slot that waits.
abbrev pub WaitingIsGrantedExactly : Ledger → (Call → Answer) → Type 0
WaitingIsGrantedExactly L says =
    (i : ℕ) →
    (L.seats i).stage ≡ Waits →
    (says (Step i) ≡ Told Granted) ↔ EarlierReleased (mine L i) (L.seats i).kind (L.seats i).place

-- Demand D3.4: No call is answered passed.
abbrev pub NonePassed : (Call → Answer) → Type 0
NonePassed says = (c : Call) → says c ≡ Told Passed → ⊥

-- Demand D3.5: A slot that asks is told full if its record has given 32,768 tickets to writers, or 32,768 to readers, since begin or its
-- last clearing, and only then.
abbrev pub FullExactly : Ledger → (Call → Answer) → Type 0
FullExactly L says =
    (i : ℕ) →
    (L.seats i).stage ≡ Asks →
    (says (Step i) ≡ Told Full) ↔ ((given_of Writer (mine L i) ≡ 32768) ⊎ (given_of Reader (mine L i) ≡ 32768))

-- Nobody owes a withdrawal on a record.
abbrev pub NoneOwed : Ledger → ℕ → Type 0
NoneOwed L r = (j : ℕ) → (L.seats j).stage ≡ Owes → (L.seats j).about ≡ r → ⊥

-- Demand D3.6: A step is told cleared only if its slot is to clear, all tickets of its record are released and nobody owes a withdrawal
-- there;
abbrev pub ClearedOnly : Ledger → (Call → Answer) → Type 0
ClearedOnly L says =
    (i : ℕ) →
    says (Step i) ≡ Told Cleared →
    ((L.seats i).stage ≡ Clears) × AllReleased (mine L i) × NoneOwed L (L.seats i).about

-- and, which is not asked for, then always.
abbrev pub ClearedThen : Ledger → (Call → Answer) → Type 0
ClearedThen L says =
    (i : ℕ) →
    (L.seats i).stage ≡ Clears →
    AllReleased (mine L i) →
    NoneOwed L (L.seats i).about →
    says (Step i) ≡ Told Cleared

-- Demand D3.7: Every counter of the n words is 33,023 or less.
abbrev pub CountersStaySmall : ℕ → State → Type 0
CountersStaySmall n s = (r : ℕ) (k : Counter) → r < n → held_by k (get_or s.words r 0) ≤ 33023

-- Demand D3.8: Whoever is told to wait, reader or writer, is a slot that steps, and is told the number of tickets that it waits for: the
-- earlier ones of its record that conflict with its own and are not yet released. They are counted in the ledger with this answer noted:
-- there a slot that asked has its ticket, drawn by this very step, and one that waited has the ticket that it had.
abbrev pub ToldHowMany : Ledger → (Call → Answer) → Type 0
ToldHowMany L says =
    (c : Call) (m : ℕ) →
    says c ≡ Told (Waiting m) →
    (i : ℕ) × (c ≡ Step i) × (m ≡ waits_for (noted_call c (Told (Waiting m)) L) i)

-- There is none to wait for exactly when every earlier conflicting ticket has been released. So D3.2, D3.3 and D3.8 speak of the same
-- tickets, and from the three it follows that nobody is told to wait for 0.
abbrev pub NoneToWaitFor : Type 0
NoneToWaitFor = (l : List Given) (k : Mode) (i : ℕ) → i ≤ length l → (unreleased_before l k i ≡ 0) ↔ EarlierReleased l k i

-- All of demand 3, of n words, a ledger, a board, and what it answers next: the fields up to `words_are_counted` say what the ledger is
-- read as, the others are D3.1 to D3.8 of docs/RULES.md in order, and `cleared_then`, beside D3.6, is not asked for.
pub record Demand (n : ℕ) (L : Ledger) (s : State) (says : Call → Answer) : Type 0 where
  pub seat_has_its_ticket : SeatHasItsTicket L
  pub ticket_has_its_seat : TicketHasItsSeat n L
  pub told_by_stage : ToldByStage L says
  pub due_exactly : DueExactly L says
  pub opens_where_nobody_sits : OpensWhereNobodySits n L says
  pub never_more : NeverMore n L
  pub words_are_counted : WordsAreCounted n L s
  pub alone : WriterHoldsAlone L
  pub drawn_granted : DrawnIsGrantedExactly L says
  pub waiting_granted : WaitingIsGrantedExactly L says
  pub none_passed : NonePassed says
  pub full : FullExactly L says
  pub cleared_only : ClearedOnly L says
  pub cleared_then : ClearedThen L says
  pub small : CountersStaySmall n s
  pub told_how_many : ToldHowMany L says

-- It holds on a fresh board of n words, and after whatever calls have been made on it, cares among them.
abbrev pub Demand3 : Type 0
Demand3 = (n : ℕ) → 1 ≤ n → n ≤ 4096 → (ms : List Move) → Demand n (ledger_after n ms) (board_after n ms) (answer_after n ms)

-- A fresh board is what an accepted begin leaves, whatever was before.
abbrev pub BegunIsFresh : Type 0
BegunIsFresh = (s : State) → (begun s).answer ≡ Begun → (1 ≤ length s.words) × (length s.words ≤ 4096) × (state_of (begun s) ≡ fresh (length s.words))

-- Last, a care counts as the step or the release that it makes.

-- What a care is told, by its slot's stage, beside what its step and its release would be told. So what demand 3 says of the step of a slot that
-- waits, owes or clears, and of the release of one that holds, it says of its care. Where nobody sits a care is refused, and a slot that asks is
-- told freed unasked, which no step and no release is.
abbrev pub CareTells : Stage → (care step release : Answer) → Type 0
CareTells Nobody care step release = (care ≡ Refused 1) ⊎ (care ≡ Refused 4)
CareTells Asks care step release = care ≡ Told FreedUnasked
CareTells Waits care step release = care ≡ step
CareTells Holds care step release = care ≡ release
CareTells Owes care step release = care ≡ step
CareTells Clears care step release = care ≡ step

abbrev pub CareCounts : Type 0
CareCounts =
    (n : ℕ) → 1 ≤ n → n ≤ 4096 → (ms : List Move) (i : ℕ) →
    CareTells ((ledger_after n ms).seats i).stage (cared i (board_after n ms)).answer (answer_after n ms (Step i)) (answer_after n ms (Release i))

-- The move that a care makes, by its slot's stage: one that holds is released, one that asks is freed, which a care alone does, and any other
-- takes its step; where nobody sits the step is refused as the care is.
abbrev pub care_makes : Stage → ℕ → Move
care_makes Nobody i = Do (Step i)
care_makes Asks i = Care i
care_makes Waits i = Do (Step i)
care_makes Holds i = Do (Release i)
care_makes Owes i = Do (Step i)
care_makes Clears i = Do (Step i)

-- Wherever a care stands in a history, the move that it makes can stand in its place: board and ledger come to the same.
abbrev pub CareIsWhatItMakes : Type 0
CareIsWhatItMakes =
    (n : ℕ) → 1 ≤ n → n ≤ 4096 → (ms later : List Move) (i : ℕ) →
    (board_after n (ms ++ Care i ∷ later) ≡ board_after n (ms ++ care_makes ((ledger_after n ms).seats i).stage i ∷ later)) ×
    (ledger_after n (ms ++ Care i ∷ later) ≡ ledger_after n (ms ++ care_makes ((ledger_after n ms).seats i).stage i ∷ later))

-- And the care of a slot that asks leaves no trace of it: no word has changed, no ticket was drawn or released, and its seat is free.
abbrev pub AskingLeavesNoTrace : Type 0
AskingLeavesNoTrace =
    (n : ℕ) → 1 ≤ n → n ≤ 4096 → (ms : List Move) (i : ℕ) →
    ((ledger_after n ms).seats i).stage ≡ Asks →
    ((board_after n (ms ++ Care i ∷ [])).words ≡ (board_after n ms).words) ×
    ((ledger_after n (ms ++ Care i ∷ [])).tickets ≡ (ledger_after n ms).tickets) ×
    ((ledger_after n (ms ++ Care i ∷ [])).seats i ≡ free)
