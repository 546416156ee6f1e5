-- What the other slots of a record see of a change of its tickets: nothing that concerns them, where one is given, one is released, or the
-- record is cleared.
-- Assumes nothing.
use Prim.Native.Nat.{ℕ, suc, ◌<◌, ◌≤◌}
use mathlib.Core.Path.{◌≡◌, refl, ap, sym, ◌∙◌}
use mathlib.Core.Bool.{Bool, true, false, ◌&&◌}
use mathlib.Core.Logic.{◌⊎◌, inl, inr, ⊎_elim}
use mathlib.Core.List.{List, [], ◌∷◌, ◌++◌}
use native.Mathlib.Omega.{arith}
use borrow.Author.Tests.{ltb-true, ltb-false, ne_eqb}
use lib.Dec.{eqb, ltb}
use lib.ListN.{length, take, length-append, length-set, get_or-append}
use lib.Seq.{take-append-le, take-set-le, take-set-lt, get_or-take, get_or-set_same, get_or-set_other, length-take-le}
use Rattle.common.proofs.Choices.{same_or_not}
use Rattle.common.specs.Choice.{when◌then◌else◌}
use Rattle.agent_ticket.specs.declared.Mode.{Mode}
use Rattle.agent_ticket.specs.declared.Mode.TheVariants.{Reader, Writer}
use Rattle.agent_request.specs.declared.Request.{Request}
use Rattle.agent_request.specs.declared.Phase.{Phase}
use Rattle.agent_request.specs.declared.Phase.TheVariants.{Waiting, Held, Clearing}
use Rattle.history_promises.specs.Tickets.{Given, past_the_last, ticket_at, given_of, EarlierReleased, AllReleased}
use Rattle.history_promises.specs.Ledger.{Stage, Seat, as_released, released_at}
use Rattle.history_promises.specs.Ledger.Stage.{Nobody, Asks, Waits, Holds, Owes, Clears}
use Rattle.history_promises.proofs.Counts.{clash}
use Rattle.history_promises.proofs.Order.{given_set}
use Rattle.history_promises.proofs.Turns.{ticket_of}
use Rattle.history_promises.proofs.Words.{topped, clearing_for}
use Rattle.history_promises.proofs.Tied.{with_ticket, request_for, Owns, Closes, Facts, Sits}

-- a request with a ticket is told by two numbers of its list
same_ticket : (p : Phase) (t : Seat) (l m : List Given) → ticket_of m t.place ≡ ticket_of l t.place → clearing_for m t.place ≡ clearing_for l t.place → with_ticket p t l ≡ with_ticket p t m
same_ticket p t l m e f = cc

-- what a slot sees of its list
pub record Seen (t : Seat) (l m : List Given) (j : ℕ) : Type 0 where
  pub numbers : ticket_of m t.place ≡ ticket_of l t.place
  pub clearing : clearing_for m t.place ≡ clearing_for l t.place
  pub owns : Owns t l j → Owns t m j
  pub earlier : Owns t l j → EarlierReleased l t.kind t.place → EarlierReleased m t.kind t.place

-- a slot that sees nothing of a change keeps its request and what is known of it
abbrev pub Stays : Stage → Seat → List Given → List Given → ℕ → Type 0
Stays g t l m j = (request_for g t l ≡ request_for g t m) × Facts g t m j

stays :
    (t : Seat) (l m : List Given) (j : ℕ) → (Owns t l j → Seen t l m j) → (Closes t l j → Stays Clears t l m j) →
    (g : Stage) → Facts g t l j → Stays g t l m j
stays t l m j see closes Nobody f = (refl, tt)
stays t l m j see closes Asks f = (refl, tt)
stays t l m j see closes Waits f = let v = see f in (same_ticket Waiting t l m v.numbers v.clearing, v.owns f)
stays t l m j see closes Holds f = let v = see f.0 in (same_ticket Held t l m v.numbers v.clearing, (v.owns f.0, v.earlier f.0 f.1))
stays t l m j see closes Owes f = (refl, tt)
stays t l m j see closes Clears f = closes f

sits_on : (n : ℕ) (t : Seat) (l m : List Given) (j : ℕ) → (Facts t.stage t l j → Stays t.stage t l m j) → (q : Request) → Sits n t l j q → Sits n t m j q
sits_on n t l m j stay q s = let v = stay s.facts in record { keeps = s.keeps ∙ v.0; lent = s.lent; facts = v.1 }

-- two numbers of tickets before a place
same_numbers : (l m : List Given) (p : ℕ) → ((k : Mode) → given_of k (take p m) ≡ given_of k (take p l)) → ticket_of m p ≡ ticket_of l p
same_numbers l m p e = let w = e Writer in let r = e Reader in cc

never : (x : Bool) (w : ℕ) → (when x && false then w else 0) ≡ 0
never true w = refl
never false w = refl

-- the other tickets stay where one is given
module _ (l : List Given) (g : Given) (low : topped l ≡ false) where
  same_at : (p : ℕ) → p < length l → ticket_at (l ++ g ∷ []) p ≡ ticket_at l p
  same_at p h = get_or-append l (g ∷ []) past_the_last p h

  seen_given : (t : Seat) (j : ℕ) → Owns t l j → Seen t l (l ++ g ∷ []) j
  seen_given t j o =
      let at = same_at t.place o.inside in
      let far : eqb (suc t.place) (length (l ++ g ∷ [])) ≡ false = ne_eqb (suc t.place) (length (l ++ g ∷ [])) (λ e. absurd (omega (arith, o.inside, length-append l (g ∷ [])))) in
      record {
        numbers = rw (take-append-le t.place l (g ∷ []) (omega (arith, o.inside))) refl;
        clearing = rw (low, far) (never (topped (l ++ g ∷ [])) _);
        owns = λ w. record { inside = omega (arith, o.inside, length-append l (g ∷ [])); open_now = rw at o.open_now; kind = rw at o.kind; slot = rw at o.slot };
        earlier = λ w r x h c. let same = same_at x (omega (arith, o.inside)) in rw same (r x h (rw same at c));
      }

  pub others_given : (n : ℕ) (t : Seat) (j : ℕ) (q : Request) → Sits n t l j q → Sits n t (l ++ g ∷ []) j q
  others_given n t j q s = sits_on n t l (l ++ g ∷ []) j (stays t l (l ++ g ∷ []) j (seen_given t j) (λ c. clash (topped l) c.top low) t.stage) q s

-- the other tickets stay where one is released
lt_or_le : (a b : ℕ) → (a < b) ⊎ (b ≤ a)
lt_or_le a b = by (ltb a b) refl
  where
    by : (x : Bool) → ltb a b ≡ x → (a < b) ⊎ (b ≤ a)
    by true e = inl (ltb-true a b e)
    by false e = inr (ltb-false a b e)

module _ (l : List Given) (p : ℕ) (inside : p < length l) where
  given_take : (x : ℕ) (k : Mode) → x ≤ length l → given_of k (take x (released_at l p)) ≡ given_of k (take x l)
  given_take x k h = ⊎_elim after_it before_it (lt_or_le p x)
    where
      after_it : p < x → given_of k (take x (released_at l p)) ≡ given_of k (take x l)
      after_it m =
          let at : ticket_at (take x l) p ≡ ticket_at l p = get_or-take x l p past_the_last m in
          let long : length (take x l) ≡ x = length-take-le x l h in
          rw (take-set-lt x l p (as_released (ticket_at l p)) m, sym at) (given_set (take x l) p k (omega arith))

      before_it : x ≤ p → given_of k (take x (released_at l p)) ≡ given_of k (take x l)
      before_it m = rw (take-set-le x l p (as_released (ticket_at l p)) m) refl

  -- kind and slot stay, and released stays released
  pub kind_at : (x : ℕ) → (ticket_at (released_at l p) x).kind ≡ (ticket_at l x).kind
  kind_at x = ⊎_elim (λ e. rw e (ap (λ (t : Given). t.kind) (get_or-set_same l p _ past_the_last inside))) (λ e. ap (λ (t : Given). t.kind) (get_or-set_other l p x _ past_the_last e)) (same_or_not x p)

  pub slot_at : (x : ℕ) → (ticket_at (released_at l p) x).slot ≡ (ticket_at l x).slot
  slot_at x = ⊎_elim (λ e. rw e (ap (λ (t : Given). t.slot) (get_or-set_same l p _ past_the_last inside))) (λ e. ap (λ (t : Given). t.slot) (get_or-set_other l p x _ past_the_last e)) (same_or_not x p)

  pub other_at : (x : ℕ) → (x ≡ p → ⊥) → ticket_at (released_at l p) x ≡ ticket_at l x
  other_at x d = get_or-set_other l p x _ past_the_last d

  pub this_at : (ticket_at (released_at l p) p).released ≡ true
  this_at = ap (λ (t : Given). t.released) (get_or-set_same l p (as_released (ticket_at l p)) past_the_last inside)

  stays_released : (x : ℕ) → (ticket_at l x).released ≡ true → (ticket_at (released_at l p) x).released ≡ true
  stays_released x r = ⊎_elim (λ e. rw e this_at) (λ e. rw (other_at x e) r) (same_or_not x p)

  pub long_at : length (released_at l p) ≡ length l
  long_at = length-set l p _

  topped_at : topped (released_at l p) ≡ topped l
  topped_at = rw (given_set l p Writer inside, given_set l p Reader inside) refl

  pub clearing_at : (x : ℕ) → clearing_for (released_at l p) x ≡ clearing_for l x
  clearing_at x = rw (given_set l p Writer inside, given_set l p Reader inside, long_at) refl

  seen_released : (t : Seat) (j : ℕ) → ((ticket_at l p).slot ≡ j → ⊥) → Owns t l j → Seen t l (released_at l p) j
  seen_released t j d o =
      let apart : t.place ≡ p → ⊥ = λ e. d (rw (sym e) o.slot) in
      let at = other_at t.place apart in
      record {
        numbers = same_numbers l (released_at l p) t.place (λ k. given_take t.place k (omega (arith, o.inside)));
        clearing = clearing_at t.place;
        owns = λ w. record { inside = rw long_at o.inside; open_now = rw at o.open_now; kind = rw at o.kind; slot = rw at o.slot };
        earlier = λ w r x h c. stays_released x (r x h (rw (kind_at x) at c));
      }

  pub closes_released : (t : Seat) (j : ℕ) → Closes t l j → Stays Clears t l (released_at l p) j
  closes_released t j c = (
    same_ticket Clearing t l (released_at l p) (same_numbers l (released_at l p) t.place (λ k. given_take t.place k (omega (arith, c.final)))) (clearing_at t.place),
    record { top = topped_at ∙ c.top; final = rw long_at c.final; slot = slot_at t.place ∙ c.slot },
  )

  pub others_released : (n : ℕ) (t : Seat) (j : ℕ) → ((ticket_at l p).slot ≡ j → ⊥) → (q : Request) → Sits n t l j q → Sits n t (released_at l p) j q
  others_released n t j d q s = sits_on n t l (released_at l p) j (stays t l (released_at l p) j (seen_released t j d) (closes_released t j) t.stage) q s

-- where a record is cleared no other slot has to do with it but those that are to ask
pub others_cleared :
    (n : ℕ) (t : Seat) (l : List Given) (j i p : ℕ) → AllReleased l → suc p ≡ length l → (ticket_at l p).slot ≡ i → (j ≡ i → ⊥) →
    (q : Request) → Sits n t l j q → Sits n t [] j q
others_cleared n t l j i p all final slot d q s = sits_on n t l [] j (λ f. by t.stage refl f) q s
  where
    gone : {X : Type 0} → Owns t l j → X
    gone o = clash (ticket_at l t.place).released (all t.place) o.open_now

    by : (g : Stage) → t.stage ≡ g → Facts g t l j → Stays g t l [] j
    by Nobody e f = (refl, tt)
    by Asks e f = (refl, tt)
    by Waits e f = gone f
    by Holds e f = gone f.0
    by Owes e f = (refl, tt)
    by Clears e f =
        let same : t.place ≡ p = omega (arith, f.final) in
        absurd (d (sym f.slot ∙ rw same slot))
