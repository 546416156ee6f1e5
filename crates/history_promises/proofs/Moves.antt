-- Every accepted step and release keeps board and ledger tied, and so does the care of a slot that asks.
-- Assumes nothing.
use Prim.Native.Nat.{ℕ, suc, ◌+◌, ◌<◌, ◌≤◌}
use mathlib.Core.Path.{◌≡◌, refl, ap, sym, subst, ◌∙◌}
use mathlib.Core.Bool.{Bool, true, false}
use mathlib.Core.Logic.{inl, inr, ⊎_elim}
use mathlib.Core.List.{List, [], ◌∷◌, ◌++◌}
use native.Mathlib.Nat.{eq-or-lt_of_le}
use native.Mathlib.Omega.{arith}
use borrow.Author.Tests.{eqb-true, eq-eqb, ne_eqb}
use lib.Dec.{eqb}
use lib.ListN.{length, get_or, length-set, length-append, get_or-append}
use lib.Seq.{get_or-append_seam, get_or-set_same, get_or-set_other}
use Rattle.word_layout.specs.Word.{step_of, back_of, add_of}
use Rattle.common.proofs.Choices.{same_or_not}
use Rattle.agent_ticket.specs.declared.Mode.{Mode}
use Rattle.agent_ticket.specs.declared.Mode.TheVariants.{Reader, Writer}
use Rattle.agent_request.specs.Request.{free_request}
use Rattle.agent_request.specs.declared.Request.{Request}
use Rattle.agent_request.specs.declared.Phase.TheVariants.{Waiting, Held, Clearing}
use Rattle.agent_rules.specs.Life.{ticket_counter, release_counter}
use Rattle.board_slots.specs.Slots.{SLOTS}
use Rattle.board_rules.specs.Board.{State}
use Rattle.history_promises.specs.Tickets.{Given, past_the_last, ticket_at, same_kind, EarlierReleased}
use Rattle.history_promises.specs.Ledger.{Stage, Seat, Ledger, free, put, seated, staged, mine, drawn, ticket_released, tickets_now, released_at, one, is_owing, owes_on, owed}
use Rattle.history_promises.specs.Ledger.Stage.{Asks, Waits, Holds, Owes, Clears}
use Rattle.history_promises.proofs.Counts.{clash, counted_nil, below_put}
use Rattle.history_promises.proofs.Words.{Agrees, topped, clearing_for, word_at_rest, agrees_same, agrees_drawn, agrees_owed, agrees_back, agrees_released, agrees_empty, topped_set, at_rest, rest_is_some}
use Rattle.history_promises.proofs.Tied.{with_ticket, request_for, Owns, Closes, Facts, is_nobody, has_ticket, may_clear, Sits, Owner, Last, Tied, few_owed, OnlyOn, tied_after}
use Rattle.history_promises.proofs.Others.{others_given, others_released, others_cleared, other_at, this_at, long_at, closes_released}
use Rattle.history_promises.proofs.Sent.{went_to}

pub put_same : {A : Type 0} (f : ℕ → A) (k : ℕ) (a : A) → put f k a k ≡ a
put_same f k a = rw (eq-eqb k k refl) refl

pub put_other : {A : Type 0} (f : ℕ → A) (k : ℕ) (a : A) (x : ℕ) → (x ≡ k → ⊥) → put f k a x ≡ f x
put_other f k a x d = rw (ne_eqb x k d) refl

-- who owes on a record
pub owes_nothing : (r : ℕ) (k : Mode) (t : Seat) → is_owing t.stage ≡ false → owes_on r k t ≡ false
owes_nothing r k t e = rw e refl

pub owes_here : (k : Mode) (t : Seat) → is_owing t.stage ≡ true → owes_on t.about k t ≡ same_kind k t.kind
owes_here k t e = rw (e, eq-eqb t.about t.about refl) refl

-- a ticket of one's own at another stage
own_again : {g : Stage} {t : Seat} {l : List Given} {i : ℕ} → Owns t l i → Owns (staged g t) l i
own_again o = record { inside = o.inside; open_now = o.open_now; kind = o.kind; slot = o.slot }

pub none_topped : topped [] ≡ false
none_topped = rw (counted_nil (λ (t : Given). same_kind Writer t.kind), counted_nil (λ (t : Given). same_kind Reader t.kind)) refl

-- the word of the record that a slot is about
abbrev pub word_now : State → Ledger → ℕ → ℕ
word_now s L i = get_or s.words (L.seats i).about 0

-- the clearing word of the last ticket
pub clearing_last : (l : List Given) (p : ℕ) → suc p ≡ length l → topped l ≡ true → clearing_for l p ≡ word_at_rest l
clearing_last l p f top = rw (top, eq-eqb (suc p) (length l) f) refl

pub clearing_closes : (l : List Given) (p : ℕ) → (clearing_for l p ≡ 0 → ⊥) → (topped l ≡ true) × (suc p ≡ length l)
clearing_closes l p h = by (topped l) (eqb (suc p) (length l)) refl refl
  where
    by : (x y : Bool) → topped l ≡ x → eqb (suc p) (length l) ≡ y → (topped l ≡ true) × (suc p ≡ length l)
    by true true a b = (a, eqb-true (suc p) (length l) b)
    by true false a b = absurd (h (rw (a, b) refl))
    by false y a b = absurd (h (rw a refl))

-- what a move of the slot i leaves of the ledger: the slot's seat, and the tickets of its record
pub record Moved (n : ℕ) (L L' : Ledger) (i : ℕ) (q : Request) (w : ℕ) : Type 0 where
  pub tickets_other : (x : ℕ) → (x ≡ (L.seats i).about → ⊥) → L'.tickets x ≡ L.tickets x
  pub seats_other : (j : ℕ) → (j ≡ i → ⊥) → L'.seats j ≡ L.seats j
  pub after_on : OnlyOn (L.seats i).about (L'.seats i)
  pub own : Sits n (L'.seats i) (L'.tickets (L'.seats i).about) i q
  pub others : (j : ℕ) → (j ≡ i → ⊥) → (x : Request) → Sits n (L.seats j) (mine L i) j x → Sits n (L.seats j) (L'.tickets (L.seats i).about) j x
  pub agrees : Agrees (L'.tickets (L.seats i).about) (owed L'.seats (L.seats i).about) w
  pub owner : (p : ℕ) → p < length (L'.tickets (L.seats i).about) → (ticket_at (L'.tickets (L.seats i).about) p).released ≡ false → Owner L'.seats (L'.tickets (L.seats i).about) (L.seats i).about p
  pub last : topped (L'.tickets (L.seats i).about) ≡ true → Last L'.seats (L'.tickets (L.seats i).about) (L.seats i).about

module _ {n : ℕ} {s : State} {L : Ledger} (T : Tied n s L) (i : ℕ) (here : i < SLOTS) (lent : (L.seats i).about < n) where
  pub tied_went : (L' : Ledger) (q : Request) (w : ℕ) → Moved n L L' i q w → Tied n (went_to s i (L.seats i).about q w) L'
  tied_went L' q w m =
      tied_after T (went_to s i (L.seats i).about q w) L' i (L.seats i).about
      (record {
        here = here;
        lent = lent;
        slots_long = length-set s.slots i q ∙ T.slots_long;
        words_long = length-set s.words (L.seats i).about w ∙ T.words_long;
        slots_other = λ j d. get_or-set_other s.slots i j q free_request d;
        words_other = λ x d. get_or-set_other s.words (L.seats i).about x w 0 d;
        tickets_other = m.tickets_other;
        seats_other = m.seats_other;
        before_on = inr refl;
        after_on = m.after_on;
        own = rw (get_or-set_same s.slots i q free_request (omega (arith, T.slots_long))) m.own;
        others = λ j d h e x. m.others j d x;
        agrees = rw (get_or-set_same s.words (L.seats i).about w 0 (omega (arith, T.words_long))) m.agrees;
        owner = m.owner;
        last = m.last;
      })

  -- what is owed on the record, where the slot's seat changes
  owed_moved : (seats : ℕ → Seat) → ((j : ℕ) → (j ≡ i → ⊥) → seats j ≡ L.seats j) → (r : ℕ) (k : Mode) → owed seats r k + one (owes_on r k (L.seats i)) ≡ owed L.seats r k + one (owes_on r k (seats i))
  owed_moved seats other r k = below_put (λ j. owes_on r k (L.seats j)) (λ j. owes_on r k (seats j)) SLOTS i here (λ j d. ap (owes_on r k) (other j d))

  -- a seat with a ticket, where the slot's own seat keeps its ticket
  abbrev KeepsTicket : (Stage → Bool) → Seat → Type 0
  KeepsTicket test t = test (L.seats i).stage ≡ true → (t.about ≡ (L.seats i).about) × (t.place ≡ (L.seats i).place) × (test t.stage ≡ true)

  seat_kept :
      (test : Stage → Bool) (seats : ℕ → Seat) → ((j : ℕ) → (j ≡ i → ⊥) → seats j ≡ L.seats j) → KeepsTicket test (seats i) →
      (j r p : ℕ) → (L.seats j).about ≡ r → (L.seats j).place ≡ p → test (L.seats j).stage ≡ true →
      ((seats j).about ≡ r) × ((seats j).place ≡ p) × (test (seats j).stage ≡ true)
  seat_kept test seats other keep j r p a b c = ⊎_elim same apart (same_or_not j i)
    where
      same : j ≡ i → ((seats j).about ≡ r) × ((seats j).place ≡ p) × (test (seats j).stage ≡ true)
      same e =
          let k = keep (subst (λ (x : ℕ). test (L.seats x).stage ≡ true) e c) in
          subst (λ (x : ℕ). ((seats x).about ≡ r) × ((seats x).place ≡ p) × (test (seats x).stage ≡ true)) (sym e)
          (k.0 ∙ subst (λ (x : ℕ). (L.seats x).about ≡ r) e a, k.1 ∙ subst (λ (x : ℕ). (L.seats x).place ≡ p) e b, k.2)

      apart : (j ≡ i → ⊥) → ((seats j).about ≡ r) × ((seats j).place ≡ p) × (test (seats j).stage ≡ true)
      apart d = let e = other j d in (ap (λ (t : Seat). t.about) e ∙ a, ap (λ (t : Seat). t.place) e ∙ b, ap (λ (t : Seat). test t.stage) e ∙ c)

  module _ (seats : ℕ → Seat) (other : (j : ℕ) → (j ≡ i → ⊥) → seats j ≡ L.seats j) where
    owner_kept : KeepsTicket has_ticket (seats i) → (p : ℕ) → Owner L.seats (mine L i) (L.seats i).about p → Owner seats (mine L i) (L.seats i).about p
    owner_kept keep p o =
        let v = seat_kept has_ticket seats other keep (ticket_at (mine L i) p).slot (L.seats i).about p o.about o.place o.has in
        record { small = o.small; about = v.0; place = v.1; has = v.2 }

    last_kept : KeepsTicket may_clear (seats i) → Last L.seats (mine L i) (L.seats i).about → Last seats (mine L i) (L.seats i).about
    last_kept keep f =
        let v = seat_kept may_clear seats other keep f.slot (L.seats i).about (L.seats f.slot).place f.about refl f.may in
        record { slot = f.slot; small = f.small; about = v.0; final = ap suc v.1 ∙ f.final; may = v.2 }

  -- a move that changes the seat alone
  module _ (t : Seat) (only : OnlyOn (L.seats i).about t) (q : Request) (w : ℕ) where
    pub seat_moved :
        Sits n t (L.tickets t.about) i q →
        Agrees (mine L i) (owed (put L.seats i t) (L.seats i).about) w →
        KeepsTicket has_ticket t → KeepsTicket may_clear t →
        Moved n L (seated L i t) i q w
    seat_moved sits agrees keep-has keep-may =
        let at = put_same L.seats i t in
        let other = put_other L.seats i t in
        record {
          tickets_other = λ x d. refl;
          seats_other = other;
          after_on = rw at only;
          own = rw at sits;
          others = λ j d x sit. sit;
          agrees = agrees;
          owner = λ p h o. owner_kept (put L.seats i t) other (rw at keep-has) p (T.owner (L.seats i).about p lent h o);
          last = λ h. last_kept (put L.seats i t) other (rw at keep-may) (T.last (L.seats i).about lent h);
        }

  -- what is owed, by what the slot owes before and after
  module _ (t : Seat) where
    owed_same : is_owing (L.seats i).stage ≡ false → is_owing t.stage ≡ false → (k : Mode) → owed (put L.seats i t) (L.seats i).about k ≡ owed L.seats (L.seats i).about k
    owed_same e f k =
        let m = owed_moved (put L.seats i t) (put_other L.seats i t) (L.seats i).about k in
        omega (arith, ap one (owes_nothing (L.seats i).about k (L.seats i) e), ap one (ap (owes_on (L.seats i).about k) (put_same L.seats i t) ∙ owes_nothing (L.seats i).about k t f))

    owed_more : is_owing (L.seats i).stage ≡ false → is_owing t.stage ≡ true → t.about ≡ (L.seats i).about → t.kind ≡ (L.seats i).kind → (k : Mode) → owed (put L.seats i t) (L.seats i).about k ≡ owed L.seats (L.seats i).about k + one (same_kind k (L.seats i).kind)
    owed_more e f a b k =
        let m = owed_moved (put L.seats i t) (put_other L.seats i t) (L.seats i).about k in
        let here_owes : owes_on (L.seats i).about k t ≡ same_kind k (L.seats i).kind = subst (λ (r : ℕ). owes_on r k t ≡ same_kind k (L.seats i).kind) a (owes_here k t f ∙ ap (same_kind k) b) in
        omega (arith, ap one (owes_nothing (L.seats i).about k (L.seats i) e), ap one (ap (owes_on (L.seats i).about k) (put_same L.seats i t) ∙ here_owes))

    owed_less : is_owing (L.seats i).stage ≡ true → is_owing t.stage ≡ false → (k : Mode) → owed (put L.seats i t) (L.seats i).about k + one (same_kind k (L.seats i).kind) ≡ owed L.seats (L.seats i).about k
    owed_less e f k =
        let m = owed_moved (put L.seats i t) (put_other L.seats i t) (L.seats i).about k in
        omega (arith, ap one (owes_here k (L.seats i) e), ap one (ap (owes_on (L.seats i).about k) (put_same L.seats i t) ∙ owes_nothing (L.seats i).about k t f))

  own_sits : Sits n (L.seats i) (mine L i) i (get_or s.slots i free_request)
  own_sits = T.sits i here

  -- the seat's facts, at the stage that it has
  pub facts_at : (g : Stage) → (L.seats i).stage ≡ g → Facts g (L.seats i) (mine L i) i
  facts_at g e = subst (λ (x : Stage). Facts x (L.seats i) (mine L i) i) e own_sits.facts

  -- an ask that is turned away
  pub full_moved : (L.seats i).stage ≡ Asks → topped (mine L i) ≡ true → Moved n L (seated L i (staged Owes (L.seats i))) i (request_for Owes (L.seats i) (mine L i)) (add_of (word_now s L i) (step_of (ticket_counter (L.seats i).kind)))
  full_moved e top =
      seat_moved (staged Owes (L.seats i)) (inr refl) (request_for Owes (L.seats i) (mine L i)) (add_of (word_now s L i) (step_of (ticket_counter (L.seats i).kind)))
      (record { keeps = refl; lent = inr lent; facts = tt })
      (agrees_owed (T.agrees (L.seats i).about lent) (L.seats i).kind (few_owed T (L.seats i).about lent (L.seats i).kind) top (owed (put L.seats i (staged Owes (L.seats i))) (L.seats i).about) (owed_more (staged Owes (L.seats i)) (ap is_owing e) refl refl refl))
      (λ h. clash (has_ticket (L.seats i).stage) h (ap has_ticket e))
      (λ h. clash (may_clear (L.seats i).stage) h (ap may_clear e))

  -- a slot that has no ticket is freed
  freed_moved :
      (g : Stage) → (L.seats i).stage ≡ g → has_ticket g ≡ false → may_clear g ≡ false →
      (w : ℕ) → Agrees (mine L i) (owed (put L.seats i free) (L.seats i).about) w →
      Moved n L (seated L i free) i free_request w
  freed_moved g e has may w agrees =
      seat_moved free (inl refl) free_request w (record { keeps = refl; lent = inl refl; facts = tt }) agrees
      (λ h. clash (has_ticket (L.seats i).stage) h (ap has_ticket e ∙ has))
      (λ h. clash (may_clear (L.seats i).stage) h (ap may_clear e ∙ may))

  -- by a withdrawal
  pub withdrawn_moved : (L.seats i).stage ≡ Owes → Moved n L (seated L i free) i free_request (add_of (word_now s L i) (back_of (ticket_counter (L.seats i).kind)))
  withdrawn_moved e =
      freed_moved Owes e refl refl (add_of (word_now s L i) (back_of (ticket_counter (L.seats i).kind)))
      (agrees_back (T.agrees (L.seats i).about lent) (L.seats i).kind (owed (put L.seats i free) (L.seats i).about) (owed_less free (ap is_owing e) refl))

  -- by a care, before it has asked
  pub unasked_moved : (L.seats i).stage ≡ Asks → Moved n L (seated L i free) i free_request (word_now s L i)
  unasked_moved e =
      freed_moved Asks e refl refl (word_now s L i)
      (agrees_same (T.agrees (L.seats i).about lent) (owed (put L.seats i free) (L.seats i).about) (owed_same free (ap is_owing e) refl))

  -- a waiting slot looks again
  pub waits_moved : (L.seats i).stage ≡ Waits → Moved n L (seated L i (staged Waits (L.seats i))) i (with_ticket Waiting (L.seats i) (mine L i)) (word_now s L i)
  waits_moved e =
      seat_moved (staged Waits (L.seats i)) (inr refl) (with_ticket Waiting (L.seats i) (mine L i)) (word_now s L i)
      (record { keeps = refl; lent = inr lent; facts = own_again (facts_at Waits e) })
      (agrees_same (T.agrees (L.seats i).about lent) (owed (put L.seats i (staged Waits (L.seats i))) (L.seats i).about) (owed_same (staged Waits (L.seats i)) (ap is_owing e) refl))
      (λ h. (refl, refl, refl))
      (λ h. (refl, refl, refl))

  pub granted_moved : (L.seats i).stage ≡ Waits → EarlierReleased (mine L i) (L.seats i).kind (L.seats i).place → Moved n L (seated L i (staged Holds (L.seats i))) i (with_ticket Held (L.seats i) (mine L i)) (word_now s L i)
  granted_moved e turn =
      seat_moved (staged Holds (L.seats i)) (inr refl) (with_ticket Held (L.seats i) (mine L i)) (word_now s L i)
      (record { keeps = refl; lent = inr lent; facts = (own_again (facts_at Waits e), turn) })
      (agrees_same (T.agrees (L.seats i).about lent) (owed (put L.seats i (staged Holds (L.seats i))) (L.seats i).about) (owed_same (staged Holds (L.seats i)) (ap is_owing e) refl))
      (λ h. (refl, refl, refl))
      (λ h. (refl, refl, refl))

  -- a slot that asked is given a ticket
  module _ (e : (L.seats i).stage ≡ Asks) (low : topped (mine L i) ≡ false) (g : Stage) (has : has_ticket g ≡ true) (may : may_clear g ≡ true) (no : is_owing g ≡ false) where
    abbrev fresh_one : Given
    fresh_one = record { kind = (L.seats i).kind; slot = i; released = false }

    abbrev longer : List Given
    longer = mine L i ++ fresh_one ∷ []

    abbrev seat_then : Seat
    seat_then = record { stage = g; about = (L.seats i).about; kind = (L.seats i).kind; place = length (mine L i) }

    mine_at : ticket_at longer (length (mine L i)) ≡ fresh_one
    mine_at = get_or-append_seam (mine L i) fresh_one [] past_the_last

    long : length longer ≡ suc (length (mine L i))
    long = omega (arith, length-append (mine L i) (fresh_one ∷ []))

    drawn_owner : (p : ℕ) → p < length longer → (ticket_at longer p).released ≡ false → Owner (put L.seats i seat_then) longer (L.seats i).about p
    drawn_owner p h o = ⊎_elim newest older (eq-or-lt_of_le (le_of (omega (arith, long))))
      where
        le_of : p ≤ length (mine L i) → p ≤ length (mine L i)
        le_of h = h

        newest : p ≡ length (mine L i) → Owner (put L.seats i seat_then) longer (L.seats i).about p
        newest q =
            let slot : (ticket_at longer p).slot ≡ i = rw q (ap (λ (t : Given). t.slot) mine_at) in
            let at : put L.seats i seat_then (ticket_at longer p).slot ≡ seat_then = ap (put L.seats i seat_then) slot ∙ put_same L.seats i seat_then in
            record { small = rw slot here; about = ap (λ (t : Seat). t.about) at; place = ap (λ (t : Seat). t.place) at ∙ sym q; has = ap (λ (t : Seat). has_ticket t.stage) at ∙ has }

        older : p < length (mine L i) → Owner (put L.seats i seat_then) longer (L.seats i).about p
        older q =
            let same : ticket_at longer p ≡ ticket_at (mine L i) p = get_or-append (mine L i) (fresh_one ∷ []) past_the_last p q in
            let own = T.owner (L.seats i).about p lent q (rw same at o) in
            let kept = owner_kept (put L.seats i seat_then) (put_other L.seats i seat_then) (λ h. clash (has_ticket (L.seats i).stage) h (ap has_ticket e)) p own in
            record {
              small = rw same kept.small;
              about = rw same kept.about;
              place = rw same kept.place;
              has = rw same kept.has;
            }

    drawn_last : topped longer ≡ true → Last (put L.seats i seat_then) longer (L.seats i).about
    drawn_last top =
        let at = put_same L.seats i seat_then in
        record { slot = i; small = here; about = ap (λ (t : Seat). t.about) at; final = ap (λ (t : Seat). suc t.place) at ∙ sym long; may = ap (λ (t : Seat). may_clear t.stage) at ∙ may }

    drawn_agrees : Agrees longer (owed (put L.seats i seat_then) (L.seats i).about) (add_of (word_now s L i) (step_of (ticket_counter (L.seats i).kind)))
    drawn_agrees = agrees_drawn (T.agrees (L.seats i).about lent) fresh_one refl low (owed (put L.seats i seat_then) (L.seats i).about) (owed_same seat_then (ap is_owing e) no)

    pub drawn_moved : Facts g seat_then longer i → Moved n L (drawn i g L) i (request_for g seat_then longer) (add_of (word_now s L i) (step_of (ticket_counter (L.seats i).kind)))
    drawn_moved facts =
        let at = put_same L.seats i seat_then in
        let list = put_same L.tickets (L.seats i).about longer in
        record {
          tickets_other = put_other L.tickets (L.seats i).about longer;
          seats_other = put_other L.seats i seat_then;
          after_on = rw at (inr refl);
          own = rw (at, list) (record { keeps = refl; lent = inr lent; facts = facts });
          others = λ j d x sit. rw list (others_given (mine L i) fresh_one low n (L.seats j) j x sit);
          agrees = rw list drawn_agrees;
          owner = rw list drawn_owner;
          last = rw list drawn_last;
        }

    pub drawn_owns : Owns seat_then longer i
    drawn_owns = record { inside = omega (arith, long); open_now = ap (λ (t : Given). t.released) mine_at; kind = ap (λ (t : Given). t.kind) mine_at; slot = ap (λ (t : Given). t.slot) mine_at }

  -- a slot that holds lets go
  module _ (e : (L.seats i).stage ≡ Holds) (t : Seat) where
    abbrev let_go_list : List Given
    let_go_list = released_at (mine L i) (L.seats i).place

    held : Owns (L.seats i) (mine L i) i
    held = (facts_at Holds e).0

    turn : EarlierReleased (mine L i) (L.seats i).kind (L.seats i).place
    turn = (facts_at Holds e).1

    let_go_owner : (p : ℕ) → p < length let_go_list → (ticket_at let_go_list p).released ≡ false → Owner (put L.seats i t) let_go_list (L.seats i).about p
    let_go_owner p h o =
        let inside = held.inside in
        let apart : p ≡ (L.seats i).place → ⊥ = λ q. clash (ticket_at let_go_list p).released (rw q (this_at (mine L i) (L.seats i).place inside)) o in
        let same = other_at (mine L i) (L.seats i).place inside p apart in
        let own = T.owner (L.seats i).about p lent (omega (arith, long_at (mine L i) (L.seats i).place inside)) (rw same at o) in
        let else_where : (ticket_at (mine L i) p).slot ≡ i → ⊥ = λ q. apart (sym own.place ∙ ap (λ (j : ℕ). (L.seats j).place) q) in
        let seat = put_other L.seats i t (ticket_at (mine L i) p).slot else_where in
        record {
          small = rw same own.small;
          about = rw same (ap (λ (u : Seat). u.about) seat ∙ own.about);
          place = rw same (ap (λ (u : Seat). u.place) seat ∙ own.place);
          has = rw same (ap (λ (u : Seat). has_ticket u.stage) seat ∙ own.has);
        }

    -- the slot with the last ticket clears, and no other lets go for good
    let_go_last :
        (suc (L.seats i).place ≡ length (mine L i) → topped (mine L i) ≡ true → (t.about ≡ (L.seats i).about) × (t.place ≡ (L.seats i).place) × (may_clear t.stage ≡ true)) →
        topped let_go_list ≡ true → Last (put L.seats i t) let_go_list (L.seats i).about
    let_go_last keep top =
        let inside = held.inside in
        let before : topped (mine L i) ≡ true = sym (topped_set (T.agrees (L.seats i).about lent) (L.seats i).place inside held.open_now) ∙ top in
        let f = T.last (L.seats i).about lent before in
        ⊎_elim (mine_last before f) (another f) (same_or_not f.slot i)
      where
        long : length let_go_list ≡ length (mine L i)
        long = long_at (mine L i) (L.seats i).place held.inside

        mine_last : topped (mine L i) ≡ true → (f : Last L.seats (mine L i) (L.seats i).about) → f.slot ≡ i → Last (put L.seats i t) let_go_list (L.seats i).about
        mine_last before f q =
            let final = subst (λ (j : ℕ). suc (L.seats j).place ≡ length (mine L i)) q f.final in
            let k = keep final before in
            let at = put_same L.seats i t in
            record { slot = i; small = here; about = ap (λ (u : Seat). u.about) at ∙ k.0; final = ap (λ (u : Seat). suc u.place) at ∙ ap suc k.1 ∙ final ∙ sym long; may = ap (λ (u : Seat). may_clear u.stage) at ∙ k.2 }

        another : (f : Last L.seats (mine L i) (L.seats i).about) → (f.slot ≡ i → ⊥) → Last (put L.seats i t) let_go_list (L.seats i).about
        another f d =
            let seat = put_other L.seats i t f.slot d in
            record { slot = f.slot; small = f.small; about = ap (λ (u : Seat). u.about) seat ∙ f.about; final = ap (λ (u : Seat). suc u.place) seat ∙ f.final ∙ sym long; may = ap (λ (u : Seat). may_clear u.stage) seat ∙ f.may }

    pub let_go_moved :
        OnlyOn (L.seats i).about t → (q : Request) → Sits n t (put L.tickets (L.seats i).about let_go_list t.about) i q → is_owing t.stage ≡ false →
        (suc (L.seats i).place ≡ length (mine L i) → topped (mine L i) ≡ true → (t.about ≡ (L.seats i).about) × (t.place ≡ (L.seats i).place) × (may_clear t.stage ≡ true)) →
        Moved n L (ticket_released i t L) i q (add_of (word_now s L i) (step_of (release_counter (L.seats i).kind)))
    let_go_moved only q sits unowed keep =
        let at = put_same L.seats i t in
        let list = put_same L.tickets (L.seats i).about let_go_list in
        let inside = held.inside in
        record {
          tickets_other = put_other L.tickets (L.seats i).about let_go_list;
          seats_other = put_other L.seats i t;
          after_on = rw at only;
          own = rw at sits;
          others = λ j d x sit. rw list (others_released (mine L i) (L.seats i).place inside n (L.seats j) j (λ q. d (sym q ∙ held.slot)) x sit);
          agrees = rw list (let_go_agrees unowed);
          owner = rw list let_go_owner;
          last = rw list (let_go_last keep);
        }
      where
        let_go_agrees : is_owing t.stage ≡ false → Agrees let_go_list (owed (put L.seats i t) (L.seats i).about) (add_of (word_now s L i) (step_of (release_counter (L.seats i).kind)))
        let_go_agrees unowed =
            subst (λ (k : Mode). Agrees let_go_list (owed (put L.seats i t) (L.seats i).about) (add_of (word_now s L i) (step_of (release_counter k)))) held.kind
            (agrees_released (T.agrees (L.seats i).about lent) (L.seats i).place held.inside held.open_now (subst (λ (k : Mode). EarlierReleased (mine L i) k (L.seats i).place) (sym held.kind) turn)
            (owed (put L.seats i t) (L.seats i).about) (owed_same t (ap is_owing e) unowed))

    -- released for good: it has not the last ticket
    pub released_moved : t ≡ free → clearing_for (mine L i) (L.seats i).place ≡ 0 → Moved n L (ticket_released i t L) i free_request (add_of (word_now s L i) (step_of (release_counter (L.seats i).kind)))
    released_moved f none_kept =
        let_go_moved (inl (ap (λ (u : Seat). is_nobody u.stage) f)) free_request (rw f (record { keeps = refl; lent = inl refl; facts = tt })) (ap (λ (u : Seat). is_owing u.stage) f)
        (λ final top. absurd (rest_is_some (mine L i) top (sym (clearing_last (mine L i) (L.seats i).place final top) ∙ none_kept)))

    -- or clearing is due
    pub due_moved : t ≡ staged Clears (L.seats i) → (clearing_for (mine L i) (L.seats i).place ≡ 0 → ⊥) → Moved n L (ticket_released i t L) i (with_ticket Clearing (L.seats i) (mine L i)) (add_of (word_now s L i) (step_of (release_counter (L.seats i).kind)))
    due_moved f kept =
        let c = clearing_closes (mine L i) (L.seats i).place kept in
        let closing : Closes (staged Clears (L.seats i)) (mine L i) i = record { top = c.0; final = c.1; slot = held.slot } in
        let stays = closes_released (mine L i) (L.seats i).place held.inside (staged Clears (L.seats i)) i closing in
        let_go_moved (rw f (inr refl)) (with_ticket Clearing (L.seats i) (mine L i))
        (rw (f, put_same L.tickets (L.seats i).about let_go_list) (record { keeps = stays.0; lent = inr lent; facts = stays.1 }))
        (ap (λ (u : Seat). is_owing u.stage) f)
        (λ final top. rw f (refl, refl, refl))

  -- the record is cleared
  pub cleared_moved : (L.seats i).stage ≡ Clears → word_now s L i ≡ word_at_rest (mine L i) → Moved n L (seated (tickets_now L (L.seats i).about []) i free) i free_request 0
  cleared_moved e rest =
      let at = put_same L.seats i free in
      let list = put_same L.tickets (L.seats i).about [] in
      let closing = facts_at Clears e in
      let r = at_rest (T.agrees (L.seats i).about lent) rest in
      record {
        tickets_other = put_other L.tickets (L.seats i).about [];
        seats_other = put_other L.seats i free;
        after_on = rw at (inl refl);
        own = rw at (record { keeps = refl; lent = inl refl; facts = tt });
        others = λ j d x sit. rw list (others_cleared n (L.seats j) (mine L i) j i (L.seats i).place r.0 closing.final closing.slot d x sit);
        agrees = rw list (agrees_empty (owed (put L.seats i free) (L.seats i).about) (λ k. owed_same free (ap is_owing e) refl k ∙ r.1 k));
        owner = rw list (λ p h o. absurd (omega arith));
        last = rw list (λ top. clash (topped []) top none_topped);
      }
