-- Why what the ceiling brings is reached. A reader that opens, steps and lets go leaves nobody seated and one ticket more. So 32,767 such
-- rounds, by induction and none of them computed, leave one ticket to give. Slot 0 draws it; slot 1 is turned away and owes; slot 0 lets
-- go and is to clear; slot 1 withdraws; slot 0 clears. What each is told follows from what holds of every history: demand 3.
-- Assumes nothing.
use Prim.Native.Nat.{ℕ, zero, suc, ◌+◌, ◌<◌}
use mathlib.Core.Path.{◌≡◌, refl, ap, sym, subst, ◌∙◌}
use mathlib.Core.Bool.{Bool, true, false}
use mathlib.Core.Logic.{inr, ⊎_elim}
use mathlib.Core.List.{List, [], ◌∷◌, ◌++◌}
use native.Mathlib.Omega.{arith}
use borrow.Author.Tests.{lt-leb, ltb-true, ltb-false, ne_eqb}
use lib.Dec.{eqb, ltb}
use lib.ListN.{length, get_or, length-append, get_or-eq_default}
use Rattle.std.proofs.lemmas.Bool.{cases_Bool}
use Rattle.agent_ticket.specs.declared.Mode.{Mode}
use Rattle.agent_ticket.specs.declared.Mode.TheVariants.{Reader, Writer}
use Rattle.agent_request.specs.Request.{in_use, free_request}
use Rattle.agent_request.specs.declared.Request.{Request}
use Rattle.agent_rules.specs.declared.Answer.TheVariants.{Granted, Full, Withdrawn, Released, ClearingDue, Cleared, NotYetClear}
use Rattle.board_slots.specs.Slots.{SLOTS, lowest_free}
use Rattle.board_call.specs.declared.Call.{Call}
use Rattle.board_call.specs.declared.Call.TheVariants.{Open, Step, Release}
use Rattle.board_rules.specs.declared.Answer.{Answer}
use Rattle.board_rules.specs.declared.Answer.TheVariants.{Opened, Told}
use Rattle.board_rules.specs.Board.{State, slot_at, opened}
use Rattle.history_promises.specs.Tickets.{Given, past_the_last, ticket_at, same_kind, counted, given_of, AllReleased}
use Rattle.history_promises.specs.Ledger.{Seat, Ledger, blank, free, seated, staged, drawn, ticket_released, released_at, noted_call, one, is_owing}
use Rattle.history_promises.specs.Ledger.Stage.{Nobody, Asks, Holds, Owes, Clears}
use Rattle.history_promises.specs.History.{Move, fresh, events, read_off, ledger_after, board_after, answer_after}
use Rattle.history_promises.specs.History.Move.{Do}
use Rattle.history_promises.specs.Promises.{ToldByStage, Demand}
use Rattle.history_reached.specs.Reached.{FullIsReached, OwesIsReached, ClearingDueIsReached}
use Rattle.history_reached.specs.Reached.{ClearsIsReached, NotYetClearIsReached, ClearedIsReached}
use Rattle.history_promises.proofs.Counts.{clash, counted_append, counted_one}
use Rattle.history_promises.proofs.Order.{given_set}
use Rattle.history_promises.proofs.Tied.{Tied, has_ticket, keeps_at}
use Rattle.history_promises.proofs.Kept.{tied, ledger_then}
use Rattle.history_promises.proofs.Demand.{demand}

-- an open takes the slot below which all are in use
lowest :
    (l : List Request) (k : ℕ) → k < length l → in_use (get_or l k free_request) ≡ false →
    ((i : ℕ) → i < k → in_use (get_or l i free_request) ≡ true) → lowest_free l ≡ k
unfolding lowest_free
lowest [] k h f u = absurd (omega arith)
lowest (q ∷ l) zero h f u = let first : in_use q ≡ false = f in rw first refl
lowest (q ∷ l) (suc k) h f u =
    let first : in_use q ≡ true = u zero (omega arith) in
    rw (first, lowest l k (omega arith) f (λ i m. u (suc i) (omega arith))) refl

opens_at :
    {s : State} {L : Ledger} → Tied 1 s L → (k : ℕ) → k < SLOTS → (L.seats k).stage ≡ Nobody →
    ((i : ℕ) → i < k → in_use (slot_at s i) ≡ true) → (opened 0 0 s).answer ≡ Opened k
unfolding opened
opens_at {s} T k h e u =
    let n = T.words_long in
    let z = lowest s.slots k (omega (arith, T.slots_long)) (ap in_use (keeps_at T k h Nobody e)) u in
    rw (n, z, lt-leb SLOTS k h) refl

-- some history leads to this ledger
record Reached (L : Ledger) : Type 0 where
  moves : List Move
  ledger : ledger_after 1 moves ≡ L

module _ {L : Ledger} (R : Reached L) where
  abbrev board : State
  board = board_after 1 R.moves

  abbrev says : Call → Answer
  says = answer_after 1 R.moves

  is_tied : Tied 1 board L
  is_tied = subst (Tied 1 board) R.ledger (tied 1 (omega arith) (omega arith) R.moves)

  -- what holds of every history
  demands : Demand 1 L board says
  demands = demand is_tied

  tells : ToldByStage L says
  tells = demands.told_by_stage

  -- a call more, whose answer is known
  then : (c : Call) (a : Answer) → says c ≡ a → Reached (noted_call c a L)
  unfolding events read_off
  then c a e =
      record {
        moves = R.moves ++ Do c ∷ [];
        ledger = ledger_then (Do c) R.moves [] (fresh 1) blank ∙ rw (e, R.ledger) refl;
      }

  -- where nobody has a ticket, all are released
  all_released : ((i : ℕ) → has_ticket (L.seats i).stage ≡ false) → AllReleased (L.tickets 0)
  all_released none i = ⊎_elim inside past (cases_Bool (ltb i (length (L.tickets 0))))
    where
      inside : ltb i (length (L.tickets 0)) ≡ true → (ticket_at (L.tickets 0) i).released ≡ true
      inside h =
          ⊎_elim (λ e. e)
          (λ e. let o = is_tied.owner 0 i (omega arith) (ltb-true _ _ h) e in clash _ o.has (none (ticket_at (L.tickets 0) i).slot))
          (cases_Bool (ticket_at (L.tickets 0) i).released)

      past : ltb i (length (L.tickets 0)) ≡ false → (ticket_at (L.tickets 0) i).released ≡ true
      past h = ap (λ (t : Given). t.released) (get_or-eq_default (L.tickets 0) past_the_last (ltb-false _ _ h))

-- each slot is 0, 1 or another
by_slot : (P : ℕ → Type 0) → P 0 → P 1 → ((i : ℕ) → eqb i 0 ≡ false → eqb i 1 ≡ false → P i) → (i : ℕ) → P i
by_slot P a b c zero = a
by_slot P a b c (suc zero) = b
by_slot P a b c (suc (suc i)) =
    let n = suc (suc i) in
    c n (ne_eqb n 0 (λ e. absurd (omega arith))) (ne_eqb n 1 (λ e. absurd (omega arith)))

-- nobody sits anywhere, and so many readers' tickets have been given on record 0
record Quiet (j : ℕ) : Type 0 where
  ledger : Ledger
  reached : Reached ledger
  low : j < 32768
  nobody : (i : ℕ) → (ledger.seats i).stage ≡ Nobody
  readers : given_of Reader (ledger.tickets 0) ≡ j
  writers : given_of Writer (ledger.tickets 0) ≡ 0

abbrev asker : Seat
asker = record { stage = Asks; about = 0; kind = Reader; place = 0 }

abbrev ticket : Given
ticket = record { kind = Reader; slot = 0; released = false }

-- A round, and at the last ticket all that follows: L0, L1 .. are the ledgers after each call, R0, R1 .. that each is reached.
module _ {j : ℕ} (Q : Quiet j) where
  -- Slot 0 opens,
  abbrev L0 : Ledger
  L0 = Q.ledger

  R0 : Reached L0
  R0 = Q.reached

  opens : says R0 (Open 0 0) ≡ Opened 0
  opens = opens_at (is_tied R0) 0 (omega arith) (Q.nobody 0) (λ i h. absurd (omega arith))

  abbrev L1 : Ledger
  L1 = seated L0 0 asker

  R1 : Reached L1
  R1 = then R0 (Open 0 0) (Opened 0) opens

  -- and is granted: it is not full, and nobody has a ticket.
  not_full : says R1 (Step 0) ≡ Told Full → ⊥
  not_full e = ⊎_elim (λ w. omega (arith, Q.writers)) (λ r. omega (arith, Q.readers, Q.low)) (((demands R1).full 0 refl).0 e)

  grants : says R1 (Step 0) ≡ Told Granted
  grants = ((demands R1).drawn_granted 0 refl not_full).1 (λ i h c. all_released R0 (λ k. ap has_ticket (Q.nobody k)) i)

  abbrev L2 : Ledger
  L2 = drawn 0 Holds L1

  R2 : Reached L2
  R2 = then R1 (Step 0) (Told Granted) grants

  -- The tickets with its own, and with its own released.
  abbrev old : List Given
  old = L0.tickets 0

  abbrev more : List Given
  more = old ++ ticket ∷ []

  abbrev back : List Given
  back = released_at more (length old)

  given_more : (k : Mode) → given_of k more ≡ given_of k old + one (same_kind k Reader)
  given_more k =
      let f : Given → Bool = λ t. same_kind k t.kind in
      omega (arith, counted_append f old (ticket ∷ []), counted_one f ticket)

  given_back : (k : Mode) → given_of k back ≡ given_of k old + one (same_kind k Reader)
  given_back k = given_set more (length old) k (omega (arith, length-append old (ticket ∷ []))) ∙ given_more k

  -- Below the ceiling its release is told as one, and all is quiet again.
  only_at_the_top : says R2 (Release 0) ≡ Told ClearingDue → suc j ≡ 32768
  only_at_the_top e = let d = ((demands R2).due_exactly 0 refl).0 e in by d.1.0 d.1.1
    where
      by : (k : Mode) → given_of k more ≡ 32768 → suc j ≡ 32768
      by Writer w = absurd (omega (arith, given_more Writer, Q.writers))
      by Reader r = omega (arith, given_more Reader, Q.readers)

  next : suc j < 32768 → Quiet (suc j)
  next h =
      let e : says R2 (Release 0) ≡ Told Released = ⊎_elim (λ e. e) (λ e. absurd (omega (arith, only_at_the_top e))) (tells R2 0).1 in
      record {
        ledger = ticket_released 0 free L2;
        reached = then R2 (Release 0) (Told Released) e;
        low = h;
        nobody = by_slot (λ i. ((ticket_released 0 free L2).seats i).stage ≡ Nobody) refl (Q.nobody 1) (λ i e f. rw e (Q.nobody i));
        readers = omega (arith, given_back Reader, Q.readers);
        writers = omega (arith, given_back Writer, Q.writers);
      }

  -- Where its ticket is the last,
  module _ (last : suc j ≡ 32768) where
    -- slot 1 opens,
    opens_second : says R2 (Open 0 0) ≡ Opened 1
    opens_second = opens_at (is_tied R2) 1 (omega arith) (Q.nobody 1) in_use_law
      where
        in_use_law : (i : ℕ) → i < 1 → in_use (slot_at (board R2) i) ≡ true
        in_use_law zero h = ap in_use (keeps_at (is_tied R2) 0 (omega arith) Holds refl)
        in_use_law (suc i) h = absurd (omega arith)

    abbrev L3 : Ledger
    L3 = seated L2 1 asker

    R3 : Reached L3
    R3 = then R2 (Open 0 0) (Opened 1) opens_second

    -- and is turned away;
    full : says R3 (Step 1) ≡ Told Full
    full = ((demands R3).full 1 refl).1 (inr (omega (arith, given_more Reader, Q.readers)))

    abbrev L4 : Ledger
    L4 = seated L3 1 (staged Owes asker)

    R4 : Reached L4
    R4 = then R3 (Step 1) (Told Full) full

    -- slot 0 lets go, and is to clear: its ticket is the youngest, and the last that is given;
    due : says R4 (Release 0) ≡ Told ClearingDue
    due = ((demands R4).due_exactly 0 refl).1 (omega (arith, length-append old (ticket ∷ [])), (Reader, omega (arith, given_more Reader, Q.readers)))

    abbrev L5 : Ledger
    L5 = ticket_released 0 (staged Clears (L4.seats 0)) L4

    R5 : Reached L5
    R5 = then R4 (Release 0) (Told ClearingDue) due

    -- it is not yet clear, since slot 1 owes, though nobody has a ticket;
    not_yet : says R5 (Step 0) ≡ Told NotYetClear
    not_yet = ⊎_elim (λ e. absurd (((demands R5).cleared_only 0 e).2 1 refl refl)) (λ e. e) (tells R5 0).0

    released_by_then : AllReleased (L5.tickets 0)
    released_by_then = all_released R5 (by_slot _ refl refl (λ i e f. rw (e, f, Q.nobody i) refl))

    -- slot 1 withdraws,
    abbrev L6 : Ledger
    L6 = seated L5 1 free

    R6 : Reached L6
    R6 = then R5 (Step 1) (Told Withdrawn) (tells R5 1).0

    -- and slot 0 clears: nobody has a ticket, and nobody owes.
    cleared : says R6 (Step 0) ≡ Told Cleared
    cleared = (demands R6).cleared_then 0 refl (all_released R6 none_has) (λ i e a. clash _ (ap is_owing e) (none_owes i))
      where
        none_has : (i : ℕ) → has_ticket (L6.seats i).stage ≡ false
        none_has = by_slot _ refl refl (λ i e f. rw (e, f, Q.nobody i) refl)

        none_owes : (i : ℕ) → is_owing (L6.seats i).stage ≡ false
        none_owes = by_slot _ refl refl (λ i e f. rw (e, f, Q.nobody i) refl)

-- the rounds, by induction
climb : (j : ℕ) → j < 32768 → Quiet j
unfolding counted events read_off
climb zero h =
    record {
      ledger = blank;
      reached = record { moves = []; ledger = refl };
      low = h;
      nobody = λ i. refl;
      readers = refl;
      writers = refl;
    }
climb (suc j) h = next (climb j (omega arith)) h

top : Quiet 32767
top = climb 32767 (omega arith)

pub full_is_reached : FullIsReached
full_is_reached = ((R3 top refl).moves, full top refl)

pub owes_is_reached : OwesIsReached
owes_is_reached = ((R4 top refl).moves, ap (λ (L : Ledger). (L.seats 1).stage) (R4 top refl).ledger)

pub clearing_due_is_reached : ClearingDueIsReached
clearing_due_is_reached = ((R4 top refl).moves, due top refl)

pub clears_is_reached : ClearsIsReached
clears_is_reached = ((R5 top refl).moves, ap (λ (L : Ledger). (L.seats 0).stage) (R5 top refl).ledger)

pub not_yet_clear_is_reached : NotYetClearIsReached
not_yet_clear_is_reached =
    let R = R5 top refl in
    (R.moves, not_yet top refl, subst (λ (L : Ledger). AllReleased (L.tickets 0)) (sym R.ledger) (released_by_then top refl), ap (λ (L : Ledger). (L.seats 1).stage) R.ledger)

pub cleared_is_reached : ClearedIsReached
cleared_is_reached = ((R6 top refl).moves, cleared top refl)
