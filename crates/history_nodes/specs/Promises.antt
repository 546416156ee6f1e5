-- Demand 3 over histories of all seven kinds of calls (D3.9 of docs/RULES.md): first what the fences do, exactly; then the sentences of the demand, of
-- every call; then all of it as one; and last which slots and nodes the fences are of. Statements only: proofs/ has why each holds.
use Rattle.std.specs.Prelude.{ℕ, ◌<◌, ◌≤◌, ◌≡◌, true, false, ◌↔◌, ◌⊎◌, List, [], ◌∷◌, ◌++◌, length}
use Rattle.agent_ticket.specs.declared.Mode.TheVariants.{Reader, Writer}
use Rattle.agent_request.specs.Request.{in_use}
use Rattle.agent_rules.specs.declared.Answer.TheVariants.{Granted, Waiting, Full, Cleared, Passed, FreedUnasked}
use Rattle.board_slots.specs.Slots.{SLOTS}
use Rattle.board_call.specs.declared.Call.{Call}
use Rattle.board_call.specs.declared.Call.TheVariants.{Open, Step, Release, Show}
use Rattle.board_call.specs.declared.AnyCall.{AnyCall}
use Rattle.board_call.specs.declared.AnyCall.TheVariants.{Base, OpenAs, Fence, Care}
use Rattle.board_rules.specs.declared.Answer.{Answer}
use Rattle.board_rules.specs.declared.Answer.TheVariants.{Refused, Begun, Told, Fenced}
use Rattle.board_rules.specs.Board.{slot_at, played}
use Rattle.board_nodes.specs.Site.{Site, site_of, inner, node_at, fenced_at, shut_at, played_at, begun_at, NODES}
use Rattle.history_promises.specs.Tickets.{given_of, EarlierReleased, AllReleased}
use Rattle.history_promises.specs.Ledger.{Ledger, free, mine, waits_for}
use Rattle.history_promises.specs.Ledger.Stage.{Nobody, Asks, Waits, Clears}
use Rattle.history_promises.specs.History.{Move, ledger_after, board_after}
use Rattle.history_promises.specs.Promises.{CareTells, NoneOwed, WriterHoldsAlone, CountersStaySmall, Demand}
use Rattle.history_nodes.specs.History.{AnyMove, fresh_site, noted_any, ledger_at, site_at, answer_at}
use Rattle.history_nodes.specs.History.AnyMove.{Do}

-- What a call of the base is answered where no fence stops it.
abbrev pub plain : Site → Call → Answer
plain t c = (played c (inner t)).answer

-- First, what the fences do.

-- Step and release of a slot are answered as if no node were fenced.
abbrev pub AsPlain : Site → (AnyCall → Answer) → ℕ → Type 0
AsPlain t says i = (says (Base (Step i)) ≡ plain t (Step i)) × (says (Base (Release i)) ≡ plain t (Release i))

-- Where somebody sits whose node is fenced, step and release are refused with 15, and a care is told what the step or the release that it makes
-- would be told, or freed unasked if the slot asks.
abbrev pub FencedSlotIsCaredFor : Ledger → Site → (AnyCall → Answer) → Type 0
FencedSlotIsCaredFor L t says =
    (i : ℕ) →
    ((L.seats i).stage ≡ Nobody → ⊥) →
    shut_at t i ≡ true →
    (says (Base (Step i)) ≡ Refused 15) ×
    (says (Base (Release i)) ≡ Refused 15) ×
    CareTells (L.seats i).stage (says (Care i)) (plain t (Step i)) (plain t (Release i))

-- Where somebody sits whose node is not fenced, a fence stops neither, and a care is refused with 16.
abbrev pub LivingSlotIsLeftAlone : Ledger → Site → (AnyCall → Answer) → Type 0
LivingSlotIsLeftAlone L t says =
    (i : ℕ) → ((L.seats i).stage ≡ Nobody → ⊥) → shut_at t i ≡ false → AsPlain t says i × (says (Care i) ≡ Refused 16)

-- Where nobody sits a fence stops neither, and a care is refused with 1 or 4.
abbrev pub FreeSlotHasNoFence : Ledger → Site → (AnyCall → Answer) → Type 0
FreeSlotHasNoFence L t says =
    (i : ℕ) → (L.seats i).stage ≡ Nobody → AsPlain t says i × ((says (Care i) ≡ Refused 1) ⊎ (says (Care i) ≡ Refused 4))

-- An open by a node that is not fenced is answered as an open without nodes,
abbrev pub LivingNodeOpens : Site → (AnyCall → Answer) → Type 0
LivingNodeOpens t says = (r m k : ℕ) → fenced_at t k ≡ false → says (OpenAs r m k) ≡ plain t (Open r m)

-- one by a fenced node is always refused, and with 14 exactly if the record is one of the n and the mode is 0 or 1,
abbrev pub FencedNodeOpensNothing : ℕ → Site → (AnyCall → Answer) → Type 0
FencedNodeOpensNothing n t says =
    (r m k : ℕ) →
    fenced_at t k ≡ true →
    ((x : ℕ) × (says (OpenAs r m k) ≡ Refused x)) × ((says (OpenAs r m k) ≡ Refused 14) ↔ ((r < n) × (m ≤ 1)))

-- and a plain open is by node 0.
abbrev pub PlainOpenIsByNode0 : (AnyCall → Answer) → Type 0
PlainOpenIsByNode0 says = (r m : ℕ) → says (Base (Open r m)) ≡ says (OpenAs r m 0)

-- A show is answered as without nodes, and a fence is always accepted.
abbrev pub ShowHasNoFence : Site → (AnyCall → Answer) → Type 0
ShowHasNoFence t says = (r : ℕ) → says (Base (Show r)) ≡ plain t (Show r)

abbrev pub FenceIsAccepted : (AnyCall → Answer) → Type 0
FenceIsAccepted says = (k : ℕ) → says (Fence k) ≡ Fenced

-- All of it: for each of the seven calls, which of these it is.
pub record Gates (n : ℕ) (L : Ledger) (t : Site) (says : AnyCall → Answer) : Type 0 where
  pub fenced_slot : FencedSlotIsCaredFor L t says
  pub living_slot : LivingSlotIsLeftAlone L t says
  pub free_slot : FreeSlotHasNoFence L t says
  pub living_node : LivingNodeOpens t says
  pub fenced_node : FencedNodeOpensNothing n t says
  pub plain_open : PlainOpenIsByNode0 says
  pub show : ShowHasNoFence t says
  pub fence : FenceIsAccepted says

-- Then the sentences of the demand, of every call.

-- A call that takes the slot's turn: its step, or its care.
abbrev pub TurnOf : ℕ → AnyCall → Type 0
TurnOf i o = (o ≡ Base (Step i)) ⊎ (o ≡ Care i)

abbrev pub NotRefused : Answer → Type 0
NotRefused a = (x : ℕ) → a ≡ Refused x → ⊥

-- Demand D3.2: A step that draws a ticket is one of a slot that asks, neither refused nor told full. It is granted if all earlier tickets of its
-- record that conflict with its own are released, and only then. A care of such a slot frees it (`CareTells`).
abbrev pub AnyDrawnIsGrantedExactly : Ledger → (AnyCall → Answer) → Type 0
AnyDrawnIsGrantedExactly L says =
    (i : ℕ) →
    (L.seats i).stage ≡ Asks →
    NotRefused (says (Base (Step i))) →
    (says (Base (Step i)) ≡ Told Full → ⊥) →
    (says (Base (Step i)) ≡ Told Granted) ↔ EarlierReleased (mine L i) (L.seats i).kind (length (mine L i))

-- Demand D3.3: So is a step or a care of a slot that waits, where it is not refused.
abbrev pub AnyWaitingIsGrantedExactly : Ledger → (AnyCall → Answer) → Type 0
AnyWaitingIsGrantedExactly L says =
    (i : ℕ) (o : AnyCall) →
    TurnOf i o →
    (L.seats i).stage ≡ Waits →
    NotRefused (says o) →
    (says o ≡ Told Granted) ↔ EarlierReleased (mine L i) (L.seats i).kind (L.seats i).place

-- And nobody else is granted: only the step of a slot that asks, and the step or the care of one that waits.
abbrev pub GrantedOnly : Ledger → (AnyCall → Answer) → Type 0
GrantedOnly L says =
    (o : AnyCall) →
    says o ≡ Told Granted →
    (i : ℕ) × (((o ≡ Base (Step i)) × ((L.seats i).stage ≡ Asks)) ⊎ (TurnOf i o × ((L.seats i).stage ≡ Waits)))

-- Demand D3.4: No call is answered passed.
abbrev pub NoneIsPassed : (AnyCall → Answer) → Type 0
NoneIsPassed says = (o : AnyCall) → says o ≡ Told Passed → ⊥

-- Demand D3.5: A step of a slot that asks, where it is not refused, is told full if its record has given 32,768 tickets to writers, or 32,768 to
-- readers, since begin or its last clearing, and only then; and no other call is.
abbrev pub AnyFullExactly : Ledger → (AnyCall → Answer) → Type 0
AnyFullExactly L says =
    (i : ℕ) →
    (L.seats i).stage ≡ Asks →
    NotRefused (says (Base (Step i))) →
    (says (Base (Step i)) ≡ Told Full) ↔ ((given_of Writer (mine L i) ≡ 32768) ⊎ (given_of Reader (mine L i) ≡ 32768))

abbrev pub FullOnly : Ledger → (AnyCall → Answer) → Type 0
FullOnly L says = (o : AnyCall) → says o ≡ Told Full → (i : ℕ) × (o ≡ Base (Step i)) × ((L.seats i).stage ≡ Asks)

-- Demand D3.6: A call is told cleared only if it is the step or the care of a slot that is to clear, all tickets of its record are released and
-- nobody owes a withdrawal there.
abbrev pub AnyClearedOnly : Ledger → (AnyCall → Answer) → Type 0
AnyClearedOnly L says =
    (o : AnyCall) →
    says o ≡ Told Cleared →
    (i : ℕ) × TurnOf i o × ((L.seats i).stage ≡ Clears) × AllReleased (mine L i) × NoneOwed L (L.seats i).about

-- Demand D3.8: Whoever is told to wait is a slot that steps or is cared for, and is told the number of tickets that it waits for, counted in the
-- ledger with this answer noted.
abbrev pub AnyToldHowMany : Ledger → (AnyCall → Answer) → Type 0
AnyToldHowMany L says =
    (o : AnyCall) (m : ℕ) →
    says o ≡ Told (Waiting m) →
    (i : ℕ) × TurnOf i o × (m ≡ waits_for (noted_any o (Told (Waiting m)) L) i)

-- There are 256 slots, each with its node, and 256 nodes, each fenced or not.
abbrev pub SiteIsWhole : Site → Type 0
SiteIsWhole t = (length t.slots ≡ SLOTS) × (length t.nodes ≡ SLOTS) × (length t.fenced ≡ NODES)

-- All of demand 3, of n words, a ledger, a board with nodes and fences, and what it answers next. `demand` is the demand as it stands without nodes,
-- every sentence of it, of what a call is answered where no fence stops it, and `gates` says where one does. The others but `whole` follow from these two, and
-- are written out so that a reader has them directly: D3.1 to D3.8 in order, of all seven calls.
pub record AnyDemand (n : ℕ) (L : Ledger) (t : Site) (says : AnyCall → Answer) : Type 0 where
  pub demand : Demand n L (inner t) (plain t)
  pub gates : Gates n L t says
  pub whole : SiteIsWhole t
  pub alone : WriterHoldsAlone L
  pub drawn_granted : AnyDrawnIsGrantedExactly L says
  pub waiting_granted : AnyWaitingIsGrantedExactly L says
  pub granted_only : GrantedOnly L says
  pub none_passed : NoneIsPassed says
  pub full : AnyFullExactly L says
  pub full_only : FullOnly L says
  pub cleared_only : AnyClearedOnly L says
  pub small : CountersStaySmall n (inner t)
  pub told_how_many : AnyToldHowMany L says

-- Demand D3.9: It holds on a fresh board of n words, and after whatever calls have been made on it.
abbrev pub AnyDemand3 : Type 0
AnyDemand3 = (n : ℕ) → 1 ≤ n → n ≤ 4096 → (ms : List AnyMove) → AnyDemand n (ledger_at n ms) (site_at n ms) (answer_at n ms)

-- Why the demand carries over: whatever calls have been made, there are calls without nodes and fences that lead to the same words, the same
-- slots and the same ledger.
abbrev pub HistoriesGoInward : Type 0
HistoriesGoInward =
    (n : ℕ) (ms : List AnyMove) →
    (inside : List Move) × (inner (site_at n ms) ≡ board_after n inside) × (ledger_at n ms ≡ ledger_after n inside)

-- A fresh board is what an accepted begin leaves, whatever was before: no slot is in use, and no node is fenced.
abbrev pub BegunIsFreshSite : Type 0
BegunIsFreshSite =
    (t : Site) →
    (begun_at t).answer ≡ Begun →
    (1 ≤ length t.words) × (length t.words ≤ 4096) × (site_of (begun_at t) ≡ fresh_site (length t.words))

-- A slot that a care has freed unasked was still to ask, and had drawn no ticket: no word has changed, no ticket was drawn or released, and its seat is free.
abbrev pub UnaskedWasNeverDrawn : Type 0
UnaskedWasNeverDrawn =
    (n : ℕ) → 1 ≤ n → n ≤ 4096 → (ms : List AnyMove) (i : ℕ) →
    answer_at n ms (Care i) ≡ Told FreedUnasked →
    (((ledger_at n ms).seats i).stage ≡ Asks) ×
    ((site_at n (ms ++ Do (Care i) ∷ [])).words ≡ (site_at n ms).words) ×
    ((ledger_at n (ms ++ Do (Care i) ∷ [])).tickets ≡ (ledger_at n ms).tickets) ×
    ((ledger_at n (ms ++ Do (Care i) ∷ [])).seats i ≡ free)

-- Last, which slots and nodes the fences are of. Rule 4.12: After a call a node is fenced exactly if the call has fenced it or it was fenced before. So
-- it stays fenced until an accepted begin, which leaves a fresh board.
abbrev pub FencedExactly : Type 0
FencedExactly =
    (o : AnyCall) (t : Site) (k : ℕ) →
    length t.fenced ≡ NODES →
    k < NODES →
    (fenced_at (site_of (played_at o t)) k ≡ true) ↔ ((o ≡ Fence k) ⊎ (fenced_at t k ≡ true))

-- Rule 4.10: A slot that is in use before a call and after it keeps its node. Whose node it gets is `OpenedIsOfItsNode` (`board_nodes`).
abbrev pub SlotKeepsItsNode : Type 0
SlotKeepsItsNode =
    (o : AnyCall) (t : Site) (i : ℕ) →
    in_use (slot_at (inner t) i) ≡ true →
    in_use (slot_at (inner (site_of (played_at o t))) i) ≡ true →
    node_at (site_of (played_at o t)) i ≡ node_at t i
