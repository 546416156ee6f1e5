-- What ties a board to its ledger, and the one lemma for a call that changes at most one slot and one record.
-- Assumes nothing.
use Prim.Native.Nat.{ℕ, suc, ◌<◌, ◌≤◌}
use mathlib.Core.Path.{◌≡◌, refl, ap, sym, subst, ◌∙◌}
use mathlib.Core.Bool.{Bool, true, false}
use mathlib.Core.Logic.{◌⊎◌, inl, inr, ⊎_elim}
use mathlib.Core.List.{List}
use native.Mathlib.Omega.{arith}
use borrow.Author.Tests.{ne_eqb}
use lib.ListN.{length, get_or}
use Rattle.std.proofs.lemmas.Bool.{cases_Bool}
use Rattle.common.proofs.Choices.{same_or_not}
use Rattle.agent_ticket.specs.declared.Mode.{Mode}
use Rattle.agent_ticket.specs.declared.Mode.TheVariants.{Reader, Writer}
use Rattle.agent_request.specs.Request.{phase_number, free_request, opened_request, in_phase}
use Rattle.agent_request.specs.declared.Request.{Request}
use Rattle.agent_request.specs.declared.Phase.{Phase}
use Rattle.agent_request.specs.declared.Phase.TheVariants.{Waiting, Held, Owing, Clearing}
use Rattle.board_slots.specs.Slots.{SLOTS}
use Rattle.board_rules.specs.Board.{State, slot_at}
use Rattle.history_promises.specs.Tickets.{Given, ticket_at, EarlierReleased}
use Rattle.history_promises.specs.Ledger.{Stage, Seat, Ledger, mine, owes_on, owed}
use Rattle.history_promises.specs.Ledger.Stage.{Nobody, Asks, Waits, Holds, Owes, Clears}
use Rattle.history_promises.proofs.Counts.{clash, below_lt, below_same}
use Rattle.history_promises.proofs.Turns.{ticket_of}
use Rattle.history_promises.proofs.Words.{Agrees, agrees_same, topped, clearing_for}

abbrev pub mode_number : Mode → ℕ
mode_number Reader = 0
mode_number Writer = 1

-- The request that a slot keeps, told from its seat and its record's tickets.
abbrev pub with_ticket : Phase → Seat → List Given → Request
with_ticket p t l =
    record { «record» = t.about; mode = mode_number t.kind; phase = phase_number p; ticket = ticket_of l t.place; clearing = clearing_for l t.place }

abbrev pub request_for : Stage → Seat → List Given → Request
request_for Nobody t l = free_request
request_for Asks t l = opened_request t.about (mode_number t.kind)
request_for Waits t l = with_ticket Waiting t l
request_for Holds t l = with_ticket Held t l
request_for Owes t l = in_phase Owing (opened_request t.about (mode_number t.kind))
request_for Clears t l = with_ticket Clearing t l

-- A ticket of one's own that is not released.
pub record Owns (t : Seat) (l : List Given) (i : ℕ) : Type 0 where
  pub inside : t.place < length l
  pub open_now : (ticket_at l t.place).released ≡ false
  pub kind : (ticket_at l t.place).kind ≡ t.kind
  pub slot : (ticket_at l t.place).slot ≡ i

-- The last ticket of a record that has reached the ceiling.
pub record Closes (t : Seat) (l : List Given) (i : ℕ) : Type 0 where
  pub top : topped l ≡ true
  pub final : suc t.place ≡ length l
  pub slot : (ticket_at l t.place).slot ≡ i

abbrev pub Facts : Stage → Seat → List Given → ℕ → Type 0
Facts Nobody t l i = Unit {0}
Facts Asks t l i = Unit {0}
Facts Waits t l i = Owns t l i
Facts Holds t l i = Owns t l i × EarlierReleased l t.kind t.place
Facts Owes t l i = Unit {0}
Facts Clears t l i = Closes t l i

abbrev pub is_nobody : Stage → Bool
is_nobody Nobody = true
is_nobody Asks = false
is_nobody Waits = false
is_nobody Holds = false
is_nobody Owes = false
is_nobody Clears = false

abbrev pub has_ticket : Stage → Bool
has_ticket Nobody = false
has_ticket Asks = false
has_ticket Waits = true
has_ticket Holds = true
has_ticket Owes = false
has_ticket Clears = false

abbrev pub may_clear : Stage → Bool
may_clear Nobody = false
may_clear Asks = false
may_clear Waits = true
may_clear Holds = true
may_clear Owes = false
may_clear Clears = true

pub record Sits (n : ℕ) (t : Seat) (l : List Given) (i : ℕ) (q : Request) : Type 0 where
  pub keeps : q ≡ request_for t.stage t l
  pub lent : (is_nobody t.stage ≡ true) ⊎ (t.about < n)
  pub facts : Facts t.stage t l i

-- The slot that a ticket names has it.
pub record Owner (seats : ℕ → Seat) (l : List Given) (r p : ℕ) : Type 0 where
  pub small : (ticket_at l p).slot < SLOTS
  pub about : (seats (ticket_at l p).slot).about ≡ r
  pub place : (seats (ticket_at l p).slot).place ≡ p
  pub has : has_ticket (seats (ticket_at l p).slot).stage ≡ true

-- Some slot has the last ticket, and is to clear the record.
pub record Last (seats : ℕ → Seat) (l : List Given) (r : ℕ) : Type 0 where
  pub slot : ℕ
  pub small : slot < SLOTS
  pub about : (seats slot).about ≡ r
  pub final : suc (seats slot).place ≡ length l
  pub may : may_clear (seats slot).stage ≡ true

pub record Tied (n : ℕ) (s : State) (L : Ledger) : Type 0 where
  pub some : 1 ≤ n
  pub most : n ≤ 4096
  pub slots_long : length s.slots ≡ SLOTS
  pub words_long : length s.words ≡ n
  pub beyond : (i : ℕ) → SLOTS ≤ i → (L.seats i).stage ≡ Nobody
  pub sits : (i : ℕ) → i < SLOTS → Sits n (L.seats i) (L.tickets (L.seats i).about) i (get_or s.slots i free_request)
  pub agrees : (r : ℕ) → r < n → Agrees (L.tickets r) (owed L.seats r) (get_or s.words r 0)
  pub owner : (r p : ℕ) → r < n → p < length (L.tickets r) → (ticket_at (L.tickets r) p).released ≡ false → Owner L.seats (L.tickets r) r p
  pub last : (r : ℕ) → r < n → topped (L.tickets r) ≡ true → Last L.seats (L.tickets r) r

-- what a slot keeps, at the stage that its seat has
module _ {n : ℕ} {s : State} {L : Ledger} (T : Tied n s L) (i : ℕ) (here : i < SLOTS) where
  pub keeps_at : (g : Stage) → (L.seats i).stage ≡ g → slot_at s i ≡ request_for g (L.seats i) (mine L i)
  keeps_at g e = (T.sits i here).keeps ∙ ap (λ (x : Stage). request_for x (L.seats i) (mine L i)) e

  pub lent_at : (g : Stage) → (L.seats i).stage ≡ g → is_nobody g ≡ false → (L.seats i).about < n
  lent_at g e f = ⊎_elim (λ h. clash (is_nobody (L.seats i).stage) h (ap is_nobody e ∙ f)) (λ h. h) (T.sits i here).lent

-- a slot that may clear a record owes nothing there
may_not_owe : (r : ℕ) (k : Mode) (t : Seat) → may_clear t.stage ≡ true → owes_on r k t ≡ false
may_not_owe r k t e = by t.stage refl
  where
    by : (g : Stage) → t.stage ≡ g → owes_on r k t ≡ false
    by Nobody q = clash (may_clear t.stage) e (ap may_clear q)
    by Asks q = clash (may_clear t.stage) e (ap may_clear q)
    by Waits q = rw q refl
    by Holds q = rw q refl
    by Owes q = clash (may_clear t.stage) e (ap may_clear q)
    by Clears q = rw q refl

-- at most 255 withdrawals of a kind are owed: one slot has the last ticket
pub few_owed : {n : ℕ} {s : State} {L : Ledger} → Tied n s L → (r : ℕ) → r < n → (k : Mode) → owed L.seats r k ≤ 255
few_owed {n} {s} {L} T r h k = ⊎_elim topmost lower (cases_Bool (topped (L.tickets r)))
  where
    topmost : topped (L.tickets r) ≡ true → owed L.seats r k ≤ 255
    topmost e =
        let f = T.last r h e in
        let b = below_lt (λ i. owes_on r k (L.seats i)) SLOTS f.slot f.small (may_not_owe r k (L.seats f.slot) f.may) in
        omega arith

    lower : topped (L.tickets r) ≡ false → owed L.seats r k ≤ 255
    lower e = omega (arith, (T.agrees r h).owing e k)

-- A slot has to do with the record r or with none.
abbrev pub OnlyOn : ℕ → Seat → Type 0
OnlyOn r t = (is_nobody t.stage ≡ true) ⊎ (t.about ≡ r)

-- What changed: the slot i, and the record r.
pub record Change (n : ℕ) (s : State) (L : Ledger) (s' : State) (L' : Ledger) (i r : ℕ) : Type 0 where
  pub here : i < SLOTS
  pub lent : r < n
  pub slots_long : length s'.slots ≡ SLOTS
  pub words_long : length s'.words ≡ n
  pub slots_other : (j : ℕ) → (j ≡ i → ⊥) → get_or s'.slots j free_request ≡ get_or s.slots j free_request
  pub words_other : (x : ℕ) → (x ≡ r → ⊥) → get_or s'.words x 0 ≡ get_or s.words x 0
  pub tickets_other : (x : ℕ) → (x ≡ r → ⊥) → L'.tickets x ≡ L.tickets x
  pub seats_other : (j : ℕ) → (j ≡ i → ⊥) → L'.seats j ≡ L.seats j
  pub before_on : OnlyOn r (L.seats i)
  pub after_on : OnlyOn r (L'.seats i)
  pub own : Sits n (L'.seats i) (L'.tickets (L'.seats i).about) i (get_or s'.slots i free_request)
  pub others : (j : ℕ) → (j ≡ i → ⊥) → j < SLOTS → (L.seats j).about ≡ r → (q : Request) → Sits n (L.seats j) (L.tickets r) j q → Sits n (L.seats j) (L'.tickets r) j q
  pub agrees : Agrees (L'.tickets r) (owed L'.seats r) (get_or s'.words r 0)
  pub owner : (p : ℕ) → p < length (L'.tickets r) → (ticket_at (L'.tickets r) p).released ≡ false → Owner L'.seats (L'.tickets r) r p
  pub last : topped (L'.tickets r) ≡ true → Last L'.seats (L'.tickets r) r

module _ {n : ℕ} {s : State} {L : Ledger} (T : Tied n s L) (s' : State) (L' : Ledger) (i r : ℕ) (C : Change n s L s' L' i r) where
  -- the slot has nothing to do with another record
  not_on : (t : Seat) → OnlyOn r t → (x : ℕ) → (x ≡ r → ⊥) → t.about ≡ x → is_nobody t.stage ≡ true
  not_on t (inl e) x d q = e
  not_on t (inr e) x d q = absurd (d (sym q ∙ e))

  owes_not : (t : Seat) → OnlyOn r t → (x : ℕ) → (x ≡ r → ⊥) → (k : Mode) → owes_on x k t ≡ false
  owes_not t m x d k = by t.stage refl (same_or_not t.about x)
    where
      by : (g : Stage) → t.stage ≡ g → (t.about ≡ x) ⊎ (t.about ≡ x → ⊥) → owes_on x k t ≡ false
      by Nobody q c = rw q refl
      by Asks q c = rw q refl
      by Waits q c = rw q refl
      by Holds q c = rw q refl
      by Clears q c = rw q refl
      by Owes q (inl c) = clash (is_nobody t.stage) (not_on t m x d c) (ap is_nobody q)
      by Owes q (inr c) = rw (q, ne_eqb t.about x c) refl

  owed_other : (x : ℕ) → (x ≡ r → ⊥) → (k : Mode) → owed L'.seats x k ≡ owed L.seats x k
  owed_other x d k = below_same (λ j. owes_on x k (L.seats j)) (λ j. owes_on x k (L'.seats j)) SLOTS (λ j m. each j (same_or_not j i))
    where
      each : (j : ℕ) → (j ≡ i) ⊎ (j ≡ i → ⊥) → owes_on x k (L'.seats j) ≡ owes_on x k (L.seats j)
      each j (inl e) = rw e (owes_not (L'.seats i) C.after_on x d k ∙ sym (owes_not (L.seats i) C.before_on x d k))
      each j (inr e) = ap (owes_on x k) (C.seats_other j e)

  -- a slot that has something to do with another record is another slot
  other_slot : (j x : ℕ) → (x ≡ r → ⊥) → (L.seats j).about ≡ x → is_nobody (L.seats j).stage ≡ false → j ≡ i → ⊥
  other_slot j x d a b e =
      let at : (L.seats i).about ≡ x = rw (sym e) a in
      let nobody : is_nobody (L.seats i).stage ≡ true = not_on (L.seats i) C.before_on x d at in
      clash (is_nobody (L.seats j).stage) (rw e nobody) b

  somebody : (g : Stage) → may_clear g ≡ true → is_nobody g ≡ false
  somebody Nobody e = clash false e refl
  somebody Asks e = refl
  somebody Waits e = refl
  somebody Holds e = refl
  somebody Owes e = refl
  somebody Clears e = refl

  owner_may : (g : Stage) → has_ticket g ≡ true → may_clear g ≡ true
  owner_may Nobody e = e
  owner_may Asks e = e
  owner_may Waits e = refl
  owner_may Holds e = refl
  owner_may Owes e = e
  owner_may Clears e = refl

  owner_other : (x p : ℕ) → (x ≡ r → ⊥) → Owner L.seats (L.tickets x) x p → Owner L'.seats (L.tickets x) x p
  owner_other x p d o =
      let j = (ticket_at (L.tickets x) p).slot in
      let apart = other_slot j x d o.about (somebody (L.seats j).stage (owner_may (L.seats j).stage o.has)) in
      let same = C.seats_other j apart in
      record { small = o.small; about = rw same o.about; place = rw same o.place; has = rw same o.has }

  last_other : (x : ℕ) → (x ≡ r → ⊥) → Last L.seats (L.tickets x) x → Last L'.seats (L.tickets x) x
  last_other x d f =
      let apart = other_slot f.slot x d f.about (somebody (L.seats f.slot).stage f.may) in
      let same = C.seats_other f.slot apart in
      record { slot = f.slot; small = f.small; about = rw same f.about; final = rw same f.final; may = rw same f.may }

  sits_other : (j : ℕ) → (j ≡ i → ⊥) → j < SLOTS → Sits n (L'.seats j) (L'.tickets (L'.seats j).about) j (get_or s'.slots j free_request)
  sits_other j d m = rw (C.seats_other j d, C.slots_other j d) (by (same_or_not (L.seats j).about r))
    where
      q : Request
      q = get_or s.slots j free_request

      by : ((L.seats j).about ≡ r) ⊎ ((L.seats j).about ≡ r → ⊥) → Sits n (L.seats j) (L'.tickets (L.seats j).about) j q
      by (inl e) = subst (λ (x : ℕ). Sits n (L.seats j) (L'.tickets x) j q) (sym e) (C.others j d m e q (subst (λ (x : ℕ). Sits n (L.seats j) (L.tickets x) j q) e (T.sits j m)))
      by (inr e) = rw (C.tickets_other (L.seats j).about e) (T.sits j m)

  pub tied_after : Tied n s' L'
  tied_after =
      record {
        some = T.some;
        most = T.most;
        slots_long = C.slots_long;
        words_long = C.words_long;
        beyond = λ j m. ap (λ (t : Seat). t.stage) (C.seats_other j (λ e. absurd (omega (arith, C.here)))) ∙ T.beyond j m;
        sits = λ j m. ⊎_elim (λ e. rw e C.own) (λ e. sits_other j e m) (same_or_not j i);
        agrees = λ x m. ⊎_elim (λ e. rw e C.agrees) (λ e. rw (C.tickets_other x e, C.words_other x e) (agrees_same (T.agrees x m) (owed L'.seats x) (owed_other x e))) (same_or_not x r);
        owner =
            λ x p m. ⊎_elim
            (λ e. rw e (C.owner p))
            (λ e. rw (C.tickets_other x e) (λ h o. owner_other x p e (T.owner x p m h o)))
            (same_or_not x r);
        last = λ x m. ⊎_elim (λ e. rw e C.last) (λ e. rw (C.tickets_other x e) (λ h. last_other x e (T.last x m h))) (same_or_not x r);
      }
