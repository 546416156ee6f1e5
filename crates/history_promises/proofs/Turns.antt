-- The turn test on a record in order: never passed, and behind as many tickets as are earlier, conflict and have not been released. For what
-- is released of a kind that conflicts is all earlier (`before_open`), so what was drawn before, less what is released, is what is left.
-- Assumes nothing.
use Prim.Native.Nat.{ℕ, ◌+◌, ◌<◌, ◌≤◌}
use mathlib.Core.Path.{◌≡◌, refl, ap, sym, ◌∙◌}
use mathlib.Core.Bool.{Bool, true, false, not, ◌&&◌}
use mathlib.Core.Logic.{◌⊎◌, inl, inr, ⊎_elim}
use mathlib.Core.List.{List, [], ◌∷◌}
use native.Mathlib.Omega.{arith}
use borrow.Author.Tests.{ltb-true, ltb-false}
use lib.Dec.{ltb}
use lib.ListN.{length, take, get_or-eq_default}
use lib.Seq.{take-length}
use Rattle.word_layout.specs.declared.Counters.{Counters}
use Rattle.agent_ticket.specs.Turn.{turn_of}
use Rattle.agent_ticket.specs.Promises.{behind}
use Rattle.agent_ticket.specs.declared.Ticket.{Ticket}
use Rattle.agent_ticket.specs.declared.Mode.{Mode}
use Rattle.agent_ticket.specs.declared.Mode.TheVariants.{Reader, Writer}
use Rattle.agent_ticket.proofs.Behind.{reader_waits_for_writers, writer_waits_for_both}
use Rattle.history_promises.specs.Tickets.{Given, conflicts, past_the_last, ticket_at, same_kind, counted, given_of, released_of, EarlierReleased, stands_in_the_way, unreleased_before, AllReleased}
use Rattle.history_promises.specs.Ledger.{one}
use Rattle.history_promises.proofs.Counts.{clash, counted_cons, counted_nil, counted_take, none_each, each_none}
use Rattle.history_promises.proofs.Order.{is_open, open_of, all_split, Ordered, before_open}

abbrev pub drawn_at : ℕ → ℕ → Ticket
drawn_at x s = record { 0 = record { 0 = x }; 1 = record { 0 = s } }

abbrev pub ticket_of : List Given → ℕ → Ticket
ticket_of l p = drawn_at (given_of Writer (take p l)) (given_of Reader (take p l))

abbrev pub ahead_now : Mode → List Given → ℕ → ℕ
ahead_now k l p = unreleased_before l k p

-- what stands in the way of a kind: writers' tickets, and for a writer readers' too
abbrev both : Mode → ℕ → ℕ → ℕ
both Reader a b = a
both Writer a b = a + b

one_both : (k : Mode) (t : Given) → one (stands_in_the_way k t) ≡ both k (one (is_open Writer t)) (one (is_open Reader t))
one_both k t = by k t.kind t.released
  where
    by : (k j : Mode) (x : Bool) → one (conflicts j k && not x) ≡ both k (one (same_kind Writer j && not x)) (one (same_kind Reader j && not x))
    by Reader Reader x = refl
    by Reader Writer x = refl
    by Writer Reader true = refl
    by Writer Reader false = refl
    by Writer Writer true = refl
    by Writer Writer false = refl

in_the_way : (k : Mode) (l : List Given) → counted (stands_in_the_way k) l ≡ both k (open_of Writer l) (open_of Reader l)
in_the_way Reader [] = counted_nil (stands_in_the_way Reader) ∙ sym (counted_nil (is_open Writer))
in_the_way Writer [] = omega (arith, counted_nil (stands_in_the_way Writer), counted_nil (is_open Writer), counted_nil (is_open Reader))
in_the_way Reader (t ∷ l) =
    let i = in_the_way Reader l in
    omega (arith, one_both Reader t, counted_cons (stands_in_the_way Reader) t l, counted_cons (is_open Writer) t l)
in_the_way Writer (t ∷ l) =
    let i = in_the_way Writer l in
    omega (arith, one_both Writer t, counted_cons (stands_in_the_way Writer) t l, counted_cons (is_open Writer) t l, counted_cons (is_open Reader) t l)

-- never more than were given
pub few_ahead : (k : Mode) (l : List Given) (p : ℕ) → given_of Writer l ≤ 32768 → given_of Reader l ≤ 32768 → ahead_now k l p ≤ 65536
few_ahead Reader l p w r = omega (arith, in_the_way Reader (take p l), counted_take (is_open Writer) l p, all_split Writer l)
few_ahead Writer l p w r =
    omega (arith, in_the_way Writer (take p l), counted_take (is_open Writer) l p, counted_take (is_open Reader) l p, all_split Writer l, all_split Reader l)

pub turn_law :
    (k : Mode) (l : List Given) (p : ℕ) (v : Counters) → Ordered l → p < length l → (ticket_at l p).released ≡ false → (ticket_at l p).kind ≡ k →
    v.nx.0 ≡ released_of Writer l → v.ns.0 ≡ released_of Reader l →
    turn_of k (ticket_of l p) v ≡ behind (ahead_now k l p)
turn_law Reader l p v o h e m a b =
    let w = before_open l o p h e Writer (rw m refl) in
    reader_waits_for_writers (ahead_now Reader l p) (ticket_of l p) v (omega (arith, in_the_way Reader (take p l)))
turn_law Writer l p v o h e m a b =
    let w = before_open l o p h e Writer (rw m refl) in
    let r = before_open l o p h e Reader (rw m refl) in
    writer_waits_for_both (open_of Writer (take p l)) (open_of Reader (take p l)) (ticket_of l p) v (omega arith) (omega arith) ∙
    ap behind (sym (in_the_way Writer (take p l)))

same_self : (k : Mode) → same_kind k k ≡ true
same_self Reader = refl
same_self Writer = refl

-- a ticket of a kind that is not open is released
shut : (t : Given) → is_open t.kind t ≡ false → t.released ≡ true
shut t e = by t.released refl
  where
    by : (x : Bool) → t.released ≡ x → t.released ≡ true
    by true q = q
    by false q = clash (is_open t.kind t) (rw (same_self t.kind, q) refl) e

not_open : (j : Mode) (t : Given) → (same_kind j t.kind ≡ true → t.released ≡ true) → is_open j t ≡ false
not_open j t h = by (same_kind j t.kind) refl
  where
    by : (x : Bool) → same_kind j t.kind ≡ x → is_open j t ≡ false
    by true q = rw (q, h q) refl
    by false q = rw q refl

-- none stands in the way exactly when every earlier conflicting one is released
pub ahead_earlier : (k : Mode) (l : List Given) (p : ℕ) → p ≤ length l → ahead_now k l p ≡ 0 → EarlierReleased l k p
ahead_earlier k l p h z j m c = by (conflicts (ticket_at l j).kind k) (ticket_at l j).released c (none_each (stands_in_the_way k) l p past_the_last z j m (omega arith))
  where
    by : (x y : Bool) → x ≡ true → (x && not y) ≡ false → y ≡ true
    by x true c e = refl
    by true false c e = clash true refl e
    by false false c e = clash false c refl

pub earlier_ahead : (k : Mode) (l : List Given) (p : ℕ) → EarlierReleased l k p → ahead_now k l p ≡ 0
earlier_ahead k l p r = each_none (stands_in_the_way k) l p past_the_last (λ j m n. by (conflicts (ticket_at l j).kind k) (ticket_at l j).released (r j m))
  where
    by : (x y : Bool) → (x ≡ true → y ≡ true) → (x && not y) ≡ false
    by true true h = refl
    by true false h = clash false (h refl) refl
    by false y h = refl

-- no ticket unreleased
pub all_released_none : (l : List Given) → AllReleased l → (k : Mode) → open_of k l ≡ 0
all_released_none l a k =
    let z = each_none (is_open k) l (length l) past_the_last (λ i m n. not_open k (ticket_at l i) (λ s. a i)) in
    rw take-length at z

pub none_all_released : (l : List Given) → ((k : Mode) → open_of k l ≡ 0) → AllReleased l
none_all_released l h j = ⊎_elim (λ m. inside m) (λ m. ap (λ (t : Given). t.released) (get_or-eq_default l past_the_last m)) (cases j (length l))
  where
    cases : (a b : ℕ) → (a < b) ⊎ (b ≤ a)
    cases a b = by (ltb a b) refl
      where
        by : (x : Bool) → ltb a b ≡ x → (a < b) ⊎ (b ≤ a)
        by true e = inl (omega (arith, ltb-true a b e))
        by false e = inr (omega (arith, ltb-false a b e))

    inside : j < length l → (ticket_at l j).released ≡ true
    inside m = shut (ticket_at l j) (none_each (is_open (ticket_at l j).kind) l (length l) past_the_last (rw take-length (h (ticket_at l j).kind)) j m m)
