-- Why a repair stops only at nodes that live. After it no care of a lost slot brings anything on, so demand 3 says at what stages such a slot can be:
-- one that asks, holds or owes would be brought on. The oldest unreleased ticket of a record waits for nobody: were its slot lost, its care would
-- be granted or release it. So that ticket lives, and whoever waits or clears on the record does so behind it.
-- Assumes nothing.
use Prim.Native.Nat.{ℕ, zero, suc, ◌<◌, ◌≤◌}
use mathlib.Core.Path.{◌≡◌, refl, ap, sym, subst, ◌∙◌}
use mathlib.Core.Bool.{Bool, true, false, not, ◌&&◌}
use mathlib.Core.Logic.{◌⊎◌, inl, inr, ⊎_elim}
use mathlib.Core.List.{List}
use native.Mathlib.Nat.{eq-or-lt_of_le}
use native.Mathlib.Omega.{arith}
use borrow.Author.Tests.{ltb-true, ltb-false, eqb-true, eq-eqb}
use lib.Dec.{eqb, ltb}
use lib.ListN.{length, get_or-eq_default}
use Rattle.std.proofs.lemmas.Bool.{cases_Bool, and_parts, and_from, not-true, not-false}
use Rattle.agent_request.specs.declared.Request.{Request}
use Rattle.agent_request.specs.Request.{phase_of, in_use, free_request}
use Rattle.agent_rules.specs.declared.Answer.TheVariants as tells
use Rattle.board_slots.specs.Slots.{SLOTS}
use Rattle.board_call.specs.declared.Call.TheVariants.{Step, Release}
use Rattle.board_call.specs.declared.AnyCall.TheVariants.{Care}
use Rattle.board_rules.specs.declared.Answer.{Answer}
use Rattle.board_rules.specs.declared.Answer.TheVariants.{Told}
use Rattle.board_rules.specs.Board.{State, slot_at}
use Rattle.board_nodes.specs.Site.{Site, inner, shut_at, played_at}
use Rattle.board_nodes.specs.Answers.{said_of_any}
use Rattle.repair_rules.specs.Repair.{is_lost, brings_on, told_of, repair_of}
use Rattle.repair_rules.proofs.Ends.{repair_rests}
use Rattle.history_promises.specs.Tickets.{Given, past_the_last, ticket_at, AllReleased}
use Rattle.history_promises.specs.Ledger.{Stage, Ledger, mine, is_owing}
use Rattle.history_promises.specs.Ledger.Stage.{Nobody, Asks, Waits, Holds, Owes, Clears}
use Rattle.history_promises.specs.Promises.{HasTicket, StepTells, ReleaseTells, CareTells, NoneOwed}
use Rattle.history_promises.proofs.Counts.{clash}
use Rattle.history_promises.proofs.Tied.{is_nobody, has_ticket, Tied, keeps_at}
use Rattle.history_promises.proofs.Seats.{in_board, lent_to_law}
use Rattle.history_promises.proofs.Demand.{demand}
use Rattle.history_nodes.specs.History.{AnyMove, ledger_at, site_at}
use Rattle.history_nodes.specs.Promises.{plain}
use Rattle.history_nodes.proofs.Gates.{in_use_law, gates}
use Rattle.history_nodes.proofs.Demand.{tied_at, whole_at_law}
use Rattle.history_repair.specs.Promises.{LostSlotsAreKeptSo, repaired, LostSlotsRest, Lives, OldestLives, WaiterWaitsForTheLiving, NoneWaitsForTheLostAlone}
use Rattle.history_repair.specs.Promises.{ClearerWaitsForTheLiving, AtRest, RepairLeaves, AllLost, NothingIsLeft}
use Rattle.history_repair.proofs.Cares.{repair_is_a_history, repair_lost}

-- the least number below p that passes a test, if one does
abbrev Least : (ℕ → Bool) → ℕ → Type 0
Least f p = (j : ℕ) × (j < p) × (f j ≡ true) × ((k : ℕ) → k < j → f k ≡ false)

least : (f : ℕ → Bool) (p : ℕ) → ((j : ℕ) → j < p → f j ≡ false) ⊎ Least f p
least f zero = inl (λ j h. absurd (omega arith))
least f (suc p) =
    ⊎_elim
    (λ none_yet.
    ⊎_elim
    (λ e. inr (p, omega arith, e, none_yet))
    (λ e. inl (λ j h. ⊎_elim (λ q. ap f q ∙ e) (λ l. none_yet j l) (last j h)))
    (cases_Bool (f p)))
    (λ w. inr (w.0, omega (arith, w.1), w.2, w.3))
    (least f p)
  where
    last : (j : ℕ) → j < suc p → (j ≡ p) ⊎ (j < p)
    last j h = let le : j ≤ p = omega (arith, h) in eq-or-lt_of_le le

-- a ticket that is not released, as a test
abbrev is_open : List Given → ℕ → Bool
is_open l j = not (ticket_at l j).released

-- past the last there is none
inside : (l : List Given) (p : ℕ) → (ticket_at l p).released ≡ false → p < length l
inside l p e = by (ltb p (length l)) refl
  where
    by : (x : Bool) → ltb p (length l) ≡ x → p < length l
    by true h = ltb-true p (length l) h
    by false h = clash (ticket_at l p).released (ap (λ (g : Given). g.released) (get_or-eq_default l past_the_last (ltb-false p (length l) h))) e

-- a care with this answer brings something on
abbrev bringing : ℕ → ℕ → Answer → Bool
bringing i p a = brings_on (record { slot = i; phase = p; outcome = (said_of_any (Care i) a).outcome })

-- where nobody sits the slot is free
nobody_free : {n : ℕ} {s : State} {L : Ledger} → Tied n s L → (i : ℕ) → (L.seats i).stage ≡ Nobody → in_use (slot_at s i) ≡ false
nobody_free {n} {s} {L} T i e = by (ltb i SLOTS) refl
  where
    by : (x : Bool) → ltb i SLOTS ≡ x → in_use (slot_at s i) ≡ false
    by true h = ap in_use (keeps_at T i (ltb-true i SLOTS h) Nobody e)
    by false h =
        let past : length s.slots ≤ i = omega (arith, ltb-false i SLOTS h, T.slots_long) in
        ap in_use (get_or-eq_default s.slots free_request past)

busy : (g h : Stage) → g ≡ h → is_nobody h ≡ false → g ≡ Nobody → ⊥
busy g h e f q = clash (is_nobody h) (sym (ap is_nobody e) ∙ ap is_nobody q) f

module _ {n : ℕ} (u : Site) {L : Ledger} (T : Tied n (inner u) L) (rests : (i : ℕ) → is_lost u i ≡ true → brings_on (told_of i u) ≡ false) where
  abbrev Sat : ℕ → Type 0
  Sat i = (L.seats i).stage ≡ Nobody → ⊥

  lost_sat : (i : ℕ) → is_lost u i ≡ true → Sat i
  lost_sat i lost e = clash (in_use (slot_at (inner u) i)) (and_parts (in_use (slot_at (inner u) i)) (shut_at u i) lost).0 (nobody_free T i e)

  sat_lost : (i : ℕ) → Sat i → shut_at u i ≡ true → is_lost u i ≡ true
  sat_lost i d h = and_from (in_use (slot_at (inner u) i)) (shut_at u i) (in_use_law T i d) h

  -- what the care of a lost slot is told, and that it is nothing that brings it on
  lost_told : (i : ℕ) → is_lost u i ≡ true → CareTells (L.seats i).stage (played_at (Care i) u).answer (plain u (Step i)) (plain u (Release i))
  lost_told i lost = ((gates u T).fenced_slot i (lost_sat i lost) (and_parts (in_use (slot_at (inner u) i)) (shut_at u i) lost).1).2

  not_told : {X : Type 0} (i : ℕ) → is_lost u i ≡ true → (a : Answer) → (played_at (Care i) u).answer ≡ a → bringing i (slot_at (inner u) i).phase a ≡ true → X
  not_told i lost a e b = clash (brings_on (told_of i u)) (ap (bringing i (slot_at (inner u) i).phase) e ∙ b) (rests i lost)

  lost_slots_rest : LostSlotsRest L u
  lost_slots_rest i lost =
      let d = (demand T).told_by_stage i in
      by (L.seats i).stage refl (lost_told i lost) d.0 d.1
    where
      by :
          (g : Stage) → (L.seats i).stage ≡ g → CareTells g (played_at (Care i) u).answer (plain u (Step i)) (plain u (Release i)) →
          StepTells g (plain u (Step i)) → ReleaseTells g (plain u (Release i)) → (g ≡ Waits) ⊎ (g ≡ Clears)
      by Nobody e c s r = absurd (lost_sat i lost e)
      by Asks e c s r = not_told i lost _ c refl
      by Waits e c s r = inl refl
      by Holds e c s r = ⊎_elim (λ q. not_told i lost _ (c ∙ q) refl) (λ q. not_told i lost _ (c ∙ q) refl) r
      by Owes e c s r = not_told i lost _ (c ∙ s) refl
      by Clears e c s r = inr refl

  -- a lost slot that waits is not granted, and one that clears is not cleared
  lost_waits : {X : Type 0} (i : ℕ) → is_lost u i ≡ true → (L.seats i).stage ≡ Waits → plain u (Step i) ≡ Told tells.Granted → X
  lost_waits i lost e q =
      let c = subst (λ (g : Stage). CareTells g (played_at (Care i) u).answer (plain u (Step i)) (plain u (Release i))) e (lost_told i lost) in
      not_told i lost (Told tells.Granted) (c ∙ q) refl

  lost_clears : {X : Type 0} (i : ℕ) → is_lost u i ≡ true → (L.seats i).stage ≡ Clears → plain u (Step i) ≡ Told tells.Cleared → X
  lost_clears i lost e q =
      let c = subst (λ (g : Stage). CareTells g (played_at (Care i) u).answer (plain u (Step i)) (plain u (Release i))) e (lost_told i lost) in
      not_told i lost (Told tells.Cleared) (c ∙ q) refl

  -- a seat with a ticket is none that clears
  has_sat : (g : Stage) → HasTicket g → g ≡ Nobody → ⊥
  has_sat g h = ⊎_elim (λ e. busy g Waits e refl) (λ e. busy g Holds e refl) h

  has_test : (g : Stage) → HasTicket g → has_ticket g ≡ true
  has_test g h = ⊎_elim (λ e. ap has_ticket e) (λ e. ap has_ticket e) h

  -- the oldest unreleased ticket is that of a slot that lives
  oldest_lives : OldestLives n L u
  oldest_lives r p lent unreleased earlier = (unreleased, ⊎_elim shut (λ e. e) (cases_Bool (shut_at u i)))
    where
      i : ℕ
      i = (ticket_at (L.tickets r) p).slot

      seat : HasTicket (L.seats i).stage × ((L.seats i).about ≡ r) × ((L.seats i).place ≡ p)
      seat = (demand T).ticket_has_its_seat r p lent (inside (L.tickets r) p unreleased) unreleased

      granted : (L.seats i).stage ≡ Waits → plain u (Step i) ≡ Told tells.Granted
      granted e =
          ((demand T).waiting_granted i e).1
          (λ j h c.
          subst (λ (x : ℕ). (ticket_at (L.tickets x) j).released ≡ true) (sym seat.1)
          (earlier j (subst (λ (x : ℕ). j < x) seat.2 h)))

      shut : shut_at u i ≡ true → shut_at u i ≡ false
      shut h =
          let lost = sat_lost i (has_sat (L.seats i).stage seat.0) h in
          ⊎_elim (λ e. lost_waits i lost e (granted e))
          (λ e. clash (has_ticket (L.seats i).stage) (has_test (L.seats i).stage seat.0) (ap has_ticket e))
          (lost_slots_rest i lost)

  -- the oldest among the tickets before a place
  oldest : (r p : ℕ) → r < n → Least (is_open (L.tickets r)) p → (j : ℕ) × (j < p) × Lives u (L.tickets r) j
  oldest r p lent w = (
    w.0,
    w.1,
    oldest_lives r w.0 lent (not-true (ticket_at (L.tickets r) w.0).released w.2)
        (λ k h. not-false (ticket_at (L.tickets r) k).released (w.3 k h)),
  )

  none_waits : NoneWaitsForTheLostAlone L u
  none_waits i e =
      ⊎_elim
      (λ none_open. inl (λ j h c. not-false (ticket_at (mine L i) j).released (none_open j h)))
      (λ w. inr (oldest (L.seats i).about (L.seats i).place (lent_to_law T i Waits e refl) w))
      (least (is_open (mine L i)) (L.seats i).place)

  waiter_waits : WaiterWaitsForTheLiving L u
  waiter_waits i lost e =
      ⊎_elim (λ all. lost_waits i lost e (((demand T).waiting_granted i e).1 all)) (λ w. w) (none_waits i e)

  -- who owes on a record
  abbrev owing : ℕ → ℕ → Bool
  owing i j = is_owing (L.seats j).stage && eqb (L.seats j).about (L.seats i).about

  owes : (g : Stage) → is_owing g ≡ true → g ≡ Owes
  owes Nobody e = clash false e refl
  owes Asks e = clash false e refl
  owes Waits e = clash false e refl
  owes Holds e = clash false e refl
  owes Owes e = refl
  owes Clears e = clash false e refl

  -- a slot that owes there
  owing_one : (i j : ℕ) → owing i j ≡ true → ((L.seats j).stage ≡ Owes) × ((L.seats j).about ≡ (L.seats i).about)
  owing_one i j h =
      let x = is_owing (L.seats j).stage in
      let y = eqb (L.seats j).about (L.seats i).about in
      (owes (L.seats j).stage (and_parts x y h).0, eqb-true (L.seats j).about (L.seats i).about (and_parts x y h).1)

  owes_lives : (j : ℕ) → (L.seats j).stage ≡ Owes → shut_at u j ≡ false
  owes_lives j e = ⊎_elim shut (λ h. h) (cases_Bool (shut_at u j))
    where
      shut : shut_at u j ≡ true → shut_at u j ≡ false
      shut h =
          ⊎_elim
          (λ q. clash (is_owing (L.seats j).stage) (ap is_owing e) (ap is_owing q))
          (λ q. clash (is_owing (L.seats j).stage) (ap is_owing e) (ap is_owing q))
          (lost_slots_rest j (sat_lost j (busy (L.seats j).stage Owes e refl) h))

  clearer_waits : ClearerWaitsForTheLiving L u
  clearer_waits i lost e =
      ⊎_elim
      (λ none_open.
      ⊎_elim
      (λ none_owes. lost_clears i lost e ((demand T).cleared_then i e (all none_open) (none_owed none_owes)))
      (λ w. let o = owing_one i w.0 w.2 in inr (w.0, o.0, o.1, owes_lives w.0 o.0))
      (least (owing i) SLOTS))
      (λ w. let o = oldest (L.seats i).about (length (mine L i)) (lent_to_law T i Clears e refl) w in inl (o.0, o.2))
      (least (is_open (mine L i)) (length (mine L i)))
    where
      all : ((j : ℕ) → j < length (mine L i) → is_open (mine L i) j ≡ false) → AllReleased (mine L i)
      all h j =
          let x = (ticket_at (mine L i) j).released in
          ⊎_elim (λ o. o) (λ o. not-false x (h j (inside (mine L i) j o))) (cases_Bool x)

      none_owed : ((j : ℕ) → j < SLOTS → owing i j ≡ false) → NoneOwed L (L.seats i).about
      none_owed h j o a =
          clash (owing i j)
          (and_from (is_owing (L.seats j).stage) (eqb (L.seats j).about (L.seats i).about) (ap is_owing o) (eq-eqb (L.seats j).about (L.seats i).about a))
          (h j (in_board T j Owes o refl))

  kept_so : LostSlotsAreKeptSo u
  kept_so i lost =
      ⊎_elim
      (λ e. inl (ap (λ (q : Request). phase_of q.phase) (keeps_at T i (in_board T i Waits e refl) Waits e)))
      (λ e. inr (ap (λ (q : Request). phase_of q.phase) (keeps_at T i (in_board T i Clears e refl) Clears e)))
      (lost_slots_rest i lost)

  at_rest : AtRest n L u
  at_rest =
      record {
        lost_slots_rest = lost_slots_rest;
        kept_so = kept_so;
        oldest_lives = oldest_lives;
        waiter_waits = waiter_waits;
        none_waits = none_waits;
        clearer_waits = clearer_waits;
      }

  -- where only the lost are in use nobody lives, and so nobody is in use
  module _ (only : AllLost u) where
    none_lives : {X : Type 0} (r j : ℕ) → r < n → Lives u (L.tickets r) j → X
    none_lives r j lent l =
        let i = (ticket_at (L.tickets r) j).slot in
        let seat = (demand T).ticket_has_its_seat r j lent (inside (L.tickets r) j l.0) l.0 in
        clash (shut_at u i) (only i (in_use_law T i (has_sat (L.seats i).stage seat.0))) l.1

    none_left : (i : ℕ) → in_use (slot_at (inner u) i) ≡ false
    none_left i = ⊎_elim still (λ e. e) (cases_Bool (in_use (slot_at (inner u) i)))
      where
        still : in_use (slot_at (inner u) i) ≡ true → in_use (slot_at (inner u) i) ≡ false
        still h =
            let lost = and_from (in_use (slot_at (inner u) i)) (shut_at u i) h (only i h) in
            ⊎_elim
            (λ e. let w = waiter_waits i lost e in none_lives (L.seats i).about w.0 (lent_to_law T i Waits e refl) w.2)
            (λ e.
            ⊎_elim
            (λ w. none_lives (L.seats i).about w.0 (lent_to_law T i Clears e refl) w.1)
            (λ w. clash (shut_at u w.0) (only w.0 (in_use_law T w.0 (busy (L.seats w.0).stage Owes w.1 refl))) w.3)
            (clearer_waits i lost e))
            (lost_slots_rest i lost)

-- the board and the ledger after a repair are tied, being those of a history
module _ (n : ℕ) (some : 1 ≤ n) (most : n ≤ 4096) (ms : List AnyMove) where
  abbrev left : Site
  left = (repair_of (site_at n ms)).site

  tied_left : Tied n (inner left) (ledger_at n (repaired n ms))
  tied_left = subst (λ (t : Site). Tied n (inner t) (ledger_at n (repaired n ms))) (repair_is_a_history n ms) (tied_at n some most (repaired n ms))

  rests_left : (i : ℕ) → is_lost left i ≡ true → brings_on (told_of i left) ≡ false
  rests_left i lost = (repair_rests (site_at n ms) (whole_at_law n some most ms).0 i lost).0

pub repair_leaves : RepairLeaves
repair_leaves n some most ms = at_rest (left n some most ms) (tied_left n some most ms) (rests_left n some most ms)

pub nothing_is_left : NothingIsLeft
nothing_is_left n some most ms all =
    none_left (left n some most ms) (tied_left n some most ms) (rests_left n some most ms) (repair_lost (site_at n ms) all)
