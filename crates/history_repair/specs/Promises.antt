-- What a repair leaves (D3.10 of docs/RULES.md): whatever calls have been made on a fresh board, after the repair a slot of a fenced node is still in
-- use only because of a node that lives. Statements only: proofs/ has why each holds.
use Rattle.std.specs.Prelude.{ℕ, ◌<◌, ◌≤◌, ◌≡◌, true, false, ◌⊎◌, List, ◌++◌, map}
use Rattle.agent_request.specs.Request.{phase_of, in_use}
use Rattle.agent_request.specs.declared.Phase.TheVariants.{Waiting, Clearing}
use Rattle.board_call.specs.declared.AnyCall.TheVariants.{Care}
use Rattle.board_rules.specs.Board.{slot_at}
use Rattle.board_nodes.specs.Site.{Site, inner, shut_at}
use Rattle.repair_rules.specs.Repair.{Cared, is_lost, repair_of}
use Rattle.history_promises.specs.Tickets.{Given, ticket_at, EarlierReleased}
use Rattle.history_promises.specs.Ledger.{Ledger, mine}
use Rattle.history_promises.specs.Ledger.Stage.{Waits, Owes, Clears}
use Rattle.history_nodes.specs.History.{AnyMove, ledger_at, site_at}
use Rattle.history_nodes.specs.History.AnyMove.{Do}

-- The cares of a repair are calls. These they are, in order;
abbrev pub cares_made : Site → List AnyMove
cares_made t = map (λ (c : Cared). Do (Care c.slot)) (repair_of t).cares

-- the history with the repair of the board that it leads to;
abbrev pub repaired : ℕ → List AnyMove → List AnyMove
repaired n ms = ms ++ cares_made (site_at n ms)

-- and this history leads to what the repair leaves. So demand 3 (`AnyDemand3`) holds of it, with the ledger that has every care noted.
abbrev pub RepairIsAHistory : Type 0
RepairIsAHistory = (n : ℕ) (ms : List AnyMove) → site_at n (repaired n ms) ≡ (repair_of (site_at n ms)).site

-- Of a ledger L and the site u that it belongs to:

-- A lost slot, in use and of a fenced node, waits or clears. None asks, holds or owes.
abbrev pub LostSlotsRest : Ledger → Site → Type 0
LostSlotsRest L u = (i : ℕ) → is_lost u i ≡ true → ((L.seats i).stage ≡ Waits) ⊎ ((L.seats i).stage ≡ Clears)

-- And so its request is kept: in phase Waiting or Clearing.
abbrev pub LostSlotsAreKeptSo : Site → Type 0
LostSlotsAreKeptSo u =
    (i : ℕ) → is_lost u i ≡ true → (phase_of (slot_at (inner u) i).phase ≡ Waiting) ⊎ (phase_of (slot_at (inner u) i).phase ≡ Clearing)

-- A ticket of a list that has not been released, and whose slot is of a node that is not fenced.
abbrev pub Lives : Site → List Given → ℕ → Type 0
Lives u l j = ((ticket_at l j).released ≡ false) × (shut_at u (ticket_at l j).slot ≡ false)

-- On each record the oldest ticket that is not released is of a node that is not fenced.
abbrev pub OldestLives : ℕ → Ledger → Site → Type 0
OldestLives n L u =
    (r p : ℕ) →
    r < n →
    (ticket_at (L.tickets r) p).released ≡ false →
    ((j : ℕ) → j < p → (ticket_at (L.tickets r) j).released ≡ true) →
    Lives u (L.tickets r) p

-- So a lost slot that waits does so behind a ticket that lives. That one need not conflict with its own: a lost reader waits behind a lost writer,
-- which waits for a reader that lives.
abbrev pub WaiterWaitsForTheLiving : Ledger → Site → Type 0
WaiterWaitsForTheLiving L u =
    (i : ℕ) → is_lost u i ≡ true → (L.seats i).stage ≡ Waits → (j : ℕ) × (j < (L.seats i).place) × Lives u (mine L i) j

-- Nor does any other slot wait for the lost alone: if it waits, whatever its node, it is granted when it looks next, since every earlier conflicting
-- ticket has been released, or it is behind a ticket that lives.
abbrev pub NoneWaitsForTheLostAlone : Ledger → Site → Type 0
NoneWaitsForTheLostAlone L u =
    (i : ℕ) →
    (L.seats i).stage ≡ Waits →
    EarlierReleased (mine L i) (L.seats i).kind (L.seats i).place ⊎ ((j : ℕ) × (j < (L.seats i).place) × Lives u (mine L i) j)

-- A lost slot that clears does not because a ticket of its record lives, or a slot of a node that is not fenced owes a withdrawal there.
abbrev pub ClearerWaitsForTheLiving : Ledger → Site → Type 0
ClearerWaitsForTheLiving L u =
    (i : ℕ) →
    is_lost u i ≡ true →
    (L.seats i).stage ≡ Clears →
    ((j : ℕ) × Lives u (mine L i) j) ⊎
    ((j : ℕ) × ((L.seats j).stage ≡ Owes) × ((L.seats j).about ≡ (L.seats i).about) × (shut_at u j ≡ false))

pub record AtRest (n : ℕ) (L : Ledger) (u : Site) : Type 0 where
  pub lost_slots_rest : LostSlotsRest L u
  pub kept_so : LostSlotsAreKeptSo u
  pub oldest_lives : OldestLives n L u
  pub waiter_waits : WaiterWaitsForTheLiving L u
  pub none_waits : NoneWaitsForTheLostAlone L u
  pub clearer_waits : ClearerWaitsForTheLiving L u

-- Demand D3.10: All of it holds after the repair, whatever calls had been made on a fresh board of n words.
abbrev pub RepairLeaves : Type 0
RepairLeaves =
    (n : ℕ) → 1 ≤ n → n ≤ 4096 → (ms : List AnyMove) →
    AtRest n (ledger_at n (repaired n ms)) (repair_of (site_at n ms)).site

-- Every slot in use is of a fenced node.
abbrev pub AllLost : Site → Type 0
AllLost t = (i : ℕ) → in_use (slot_at (inner t) i) ≡ true → shut_at t i ≡ true

-- Demand D3.10: Where no node that lives has a slot, the repair leaves none in use.
abbrev pub NothingIsLeft : Type 0
NothingIsLeft =
    (n : ℕ) → 1 ≤ n → n ≤ 4096 → (ms : List AnyMove) →
    AllLost (site_at n ms) → (i : ℕ) → in_use (slot_at (inner (repair_of (site_at n ms)).site) i) ≡ false
