-- One record: its tickets, what is owed, and its word. Each verb keeps that the four counters are the numbers of releases and of tickets, with
-- what is owed added to the tickets.
-- Assumes nothing.
use Prim.Native.Nat.{ℕ, suc, ◌+◌, ◌-◌, ◌<◌, ◌≤◌, ◌^◌}
use mathlib.Core.Path.{◌≡◌, refl, ap, sym, ◌∙◌}
use mathlib.Core.Bool.{Bool, true, false, ◌&&◌, ◌||◌}
use mathlib.Core.Logic.{◌⊎◌, inl, inr, ⊎_elim}
use mathlib.Core.List.{List, [], ◌∷◌, ◌++◌}
use native.Mathlib.Nat.{eq-or-lt_of_le}
use native.Mathlib.Omega.{arith}
use borrow.Author.Tests.{leb-true, leb-false, le-leb, lt-leb, eqb-true, eqb-false, eq-eqb}
use lib.Dec.{eqb, leb}
use lib.ListN.{length, length-append}
use Rattle.std.proofs.lemmas.Bool.{or_parts, or_right}
use Rattle.common.specs.Choice.{when◌then◌else◌}
use Rattle.word_layout.specs.Word.{step_of, back_of, held_by, split_of, join_of, add_of}
use Rattle.word_layout.specs.Promises.{Narrow, changed}
use Rattle.word_layout.specs.declared.Counters.{Counters}
use Rattle.word_layout.specs.declared.Counter.{Counter}
use Rattle.word_layout.specs.declared.Counter.TheVariants.{NX, NS, MX, MS}
use Rattle.word_layout.proofs.RoundTrips.{word_comes_back, counters_come_back}
use Rattle.word_layout.proofs.Steps.{step_raises, back_lowers}
use Rattle.agent_ceiling.specs.Ceiling.{CEIL, LAST, full_at, rest_of, clearing_word_of}
use Rattle.agent_ticket.specs.declared.Mode.{Mode}
use Rattle.agent_ticket.specs.declared.Mode.TheVariants.{Reader, Writer}
use Rattle.agent_rules.specs.Life.{ticket_counter, release_counter}
use Rattle.history_promises.specs.Tickets.{Given, ticket_at, same_kind, given_of, is_released, released_of, EarlierReleased, AllReleased}
use Rattle.history_promises.specs.Ledger.{released_at, one}
use Rattle.history_promises.specs.Promises.{counters_of}
use Rattle.history_promises.proofs.Counts.{one_le, clash, counted_append, counted_one, counted_nil}
use Rattle.history_promises.proofs.Order.{released_one, open_of, Ordered, empty, append_ordered, release_ordered, released_set, given_set, all_split}
use Rattle.history_promises.proofs.Turns.{all_released_none, none_all_released}

abbrev pub four : ℕ → ℕ → ℕ → ℕ → Counters
four a b c d = record { nx = record { 0 = a }; ns = record { 0 = b }; mx = record { 0 = c }; ms = record { 0 = d } }

four_same : {a b c d a' b' c' d' : ℕ} → a ≡ a' → b ≡ b' → c ≡ c' → d ≡ d' → four a b c d ≡ four a' b' c' d'
four_same p q r s = cc

-- the ceiling of either kind is reached
abbrev pub topped : List Given → Bool
topped l = leb CEIL (given_of Writer l) || leb CEIL (given_of Reader l)

pub record Agrees (l : List Given) (o : Mode → ℕ) (w : ℕ) : Type 0 where
  pub order : Ordered l
  pub fits : w < 2 ^ 64
  pub word : split_of w ≡ counters_of l o
  pub cap : (k : Mode) → given_of k l ≤ CEIL
  pub owing : topped l ≡ false → (k : Mode) → o k ≡ 0

-- below the ceiling
pub not_topped : (l : List Given) → topped l ≡ false → (k : Mode) → given_of k l < CEIL
not_topped l e Writer = leb-false CEIL (given_of Writer l) (or_parts (leb CEIL (given_of Writer l)) (leb CEIL (given_of Reader l)) e).0
not_topped l e Reader = leb-false CEIL (given_of Reader l) (or_parts (leb CEIL (given_of Writer l)) (leb CEIL (given_of Reader l)) e).1

pub topped_or : (l : List Given) → topped l ≡ true → (CEIL ≤ given_of Writer l) ⊎ (CEIL ≤ given_of Reader l)
topped_or l e = by (leb CEIL (given_of Writer l)) (leb CEIL (given_of Reader l)) refl refl e
  where
    by : (x y : Bool) → leb CEIL (given_of Writer l) ≡ x → leb CEIL (given_of Reader l) ≡ y → (x || y) ≡ true → (CEIL ≤ given_of Writer l) ⊎ (CEIL ≤ given_of Reader l)
    by true y p q z = inl (leb-true CEIL (given_of Writer l) p)
    by false true p q z = inr (leb-true CEIL (given_of Reader l) q)
    by false false p q z = clash false z refl

pub or_topped : (l : List Given) (k : Mode) → CEIL ≤ given_of k l → topped l ≡ true
or_topped l Writer h = rw (le-leb CEIL (given_of Writer l) h) refl
or_topped l Reader h = or_right (leb CEIL (given_of Writer l)) _ (le-leb CEIL (given_of Reader l) h)

-- what a counter of four is
abbrev pub held_in : Counter → Counters → ℕ
held_in NX c = c.nx.0
held_in NS c = c.ns.0
held_in MX c = c.mx.0
held_in MS c = c.ms.0

pub mod_fits : (w k : ℕ) → add_of w k < 2 ^ 64
mod_fits w k = omega arith

-- one more in a counter, or one less, of a word whose four counters are known
module _ (w : ℕ) (fits : w < 2 ^ 64) (c : Counters) (e : split_of w ≡ c) where
  held : (k : Counter) → held_by k w ≡ held_in k c
  held NX = ap (λ (v : Counters). v.nx.0) e
  held NS = ap (λ (v : Counters). v.ns.0) e
  held MX = ap (λ (v : Counters). v.mx.0) e
  held MS = ap (λ (v : Counters). v.ms.0) e

  pub raised : (k : Counter) → held_in k c < 65535 → split_of (add_of w (step_of k)) ≡ changed k (λ n. n + 1) c
  raised k h = step_raises k w fits (omega (arith, held k)) ∙ ap (changed k (λ n. n + 1)) e

  pub lowered : (k : Counter) → 0 < held_in k c → split_of (add_of w (back_of k)) ≡ changed k (λ n. n - 1) c
  lowered k h = back_lowers k w fits (omega (arith, held k)) ∙ ap (changed k (λ n. n - 1)) e

-- The three verbs, for either kind: one more ticket, one less, one more release, told by what each kind counts before and after.
abbrev pub per_kind : (Mode → ℕ) → (Mode → ℕ) → Counters
per_kind n m = four (n Writer) (n Reader) (m Writer) (m Reader)

pub same_counts : {n n' m m' : Mode → ℕ} → ((j : Mode) → n j ≡ n' j) → ((j : Mode) → m j ≡ m' j) → per_kind n m ≡ per_kind n' m'
same_counts e f = four_same (e Writer) (e Reader) (f Writer) (f Reader)

module _ (w : ℕ) (fits : w < 2 ^ 64) (n m : Mode → ℕ) (e : split_of w ≡ per_kind n m) where
  ticket_more :
      (k : Mode) → m k < 65535 → (n' m' : Mode → ℕ) → ((j : Mode) → n j ≡ n' j) → ((j : Mode) → m j + one (same_kind j k) ≡ m' j) →
      split_of (add_of w (step_of (ticket_counter k))) ≡ per_kind n' m'
  ticket_more Reader h n' m' a b = raised w fits (per_kind n m) e MS h ∙ four_same (a Writer) (a Reader) (omega (arith, b Writer)) (omega (arith, b Reader))
  ticket_more Writer h n' m' a b = raised w fits (per_kind n m) e MX h ∙ four_same (a Writer) (a Reader) (omega (arith, b Writer)) (omega (arith, b Reader))

  ticket_less :
      (k : Mode) → (n' m' : Mode → ℕ) → ((j : Mode) → n j ≡ n' j) → ((j : Mode) → m' j + one (same_kind j k) ≡ m j) →
      split_of (add_of w (back_of (ticket_counter k))) ≡ per_kind n' m'
  ticket_less Reader n' m' a b = lowered w fits (per_kind n m) e MS (omega (arith, b Reader)) ∙ four_same (a Writer) (a Reader) (omega (arith, b Writer)) (omega (arith, b Reader))
  ticket_less Writer n' m' a b = lowered w fits (per_kind n m) e MX (omega (arith, b Writer)) ∙ four_same (a Writer) (a Reader) (omega (arith, b Writer)) (omega (arith, b Reader))

  release_more :
      (k : Mode) → n k < 65535 → (n' m' : Mode → ℕ) → ((j : Mode) → n j + one (same_kind j k) ≡ n' j) → ((j : Mode) → m j ≡ m' j) →
      split_of (add_of w (step_of (release_counter k))) ≡ per_kind n' m'
  release_more Reader h n' m' a b = raised w fits (per_kind n m) e NS h ∙ four_same (omega (arith, a Writer)) (omega (arith, a Reader)) (b Writer) (b Reader)
  release_more Writer h n' m' a b = raised w fits (per_kind n m) e NX h ∙ four_same (omega (arith, a Writer)) (omega (arith, a Reader)) (b Writer) (b Reader)

module _ {l : List Given} {o : Mode → ℕ} {w : ℕ} (a : Agrees l o w) where
  -- what each kind counts
  abbrev releases : Mode → ℕ
  releases k = released_of k l

  abbrev tickets : Mode → ℕ
  tickets k = given_of k l + o k

  -- a ticket more
  module _ (t : Given) (open_now : t.released ≡ false) (low : topped l ≡ false) where
    pub released_more : (k : Mode) → released_of k (l ++ t ∷ []) ≡ released_of k l
    released_more k = omega (arith, counted_append (is_released k) l (t ∷ []), counted_one (is_released k) t, released_one k t open_now)

    pub given_more : (k : Mode) → given_of k (l ++ t ∷ []) ≡ given_of k l + one (same_kind k t.kind)
    given_more k = omega (arith, counted_append (λ (u : Given). same_kind k u.kind) l (t ∷ []), counted_one (λ (u : Given). same_kind k u.kind) t)

    pub agrees_drawn : (o' : Mode → ℕ) → ((j : Mode) → o' j ≡ o j) → Agrees (l ++ t ∷ []) o' (add_of w (step_of (ticket_counter t.kind)))
    agrees_drawn o' same =
        record {
          order = append_ordered l t open_now a.order;
          fits = mod_fits w (step_of (ticket_counter t.kind));
          word =
              ticket_more w a.fits releases tickets a.word t.kind (omega (arith, not_topped l low t.kind, a.owing low t.kind))
              (λ k. released_of k (l ++ t ∷ [])) (λ k. given_of k (l ++ t ∷ []) + o' k) (λ j. sym (released_more j)) (λ j. omega (arith, given_more j, same j));
          cap = λ k. omega (arith, given_more k, not_topped l low k, one_le (same_kind k t.kind));
          owing = λ e k. omega (arith, same k, a.owing low k);
        }

  -- the same with what is owed told otherwise
  pub agrees_same : (o' : Mode → ℕ) → ((j : Mode) → o' j ≡ o j) → Agrees l o' w
  agrees_same o' same =
      record {
        order = a.order;
        fits = a.fits;
        word = a.word ∙ same_counts {n = releases} {n' = releases} {m = tickets} {m' = λ k. given_of k l + o' k} (λ j. refl) (λ j. omega (arith, same j));
        cap = a.cap;
        owing = λ e k. omega (arith, same k, a.owing e k);
      }

  -- one more owed, by an ask that was turned away
  pub agrees_owed : (k : Mode) → o k ≤ 255 → topped l ≡ true → (o' : Mode → ℕ) → ((j : Mode) → o' j ≡ o j + one (same_kind j k)) → Agrees l o' (add_of w (step_of (ticket_counter k)))
  agrees_owed k few top o' more =
      record {
        order = a.order;
        fits = mod_fits w (step_of (ticket_counter k));
        word = ticket_more w a.fits releases tickets a.word k (omega (arith, a.cap k)) releases (λ j. given_of j l + o' j) (λ j. refl) (λ j. omega (arith, more j));
        cap = a.cap;
        owing = λ e. clash (topped l) top e;
      }

  -- one less owed, by a withdrawal
  pub agrees_back : (k : Mode) (o' : Mode → ℕ) → ((j : Mode) → o' j + one (same_kind j k) ≡ o j) → Agrees l o' (add_of w (back_of (ticket_counter k)))
  agrees_back k o' less =
      record {
        order = a.order;
        fits = mod_fits w (back_of (ticket_counter k));
        word = ticket_less w a.fits releases tickets a.word k releases (λ j. given_of j l + o' j) (λ j. refl) (λ j. omega (arith, less j));
        cap = a.cap;
        owing = λ e j. omega (arith, less j, a.owing e j);
      }

  -- a ticket released
  module _ (p : ℕ) (here : p < length l) (open_now : (ticket_at l p).released ≡ false) where
    pub topped_set : topped (released_at l p) ≡ topped l
    topped_set = rw (given_set l p Writer here, given_set l p Reader here) refl

    pub agrees_released : EarlierReleased l (ticket_at l p).kind p → (o' : Mode → ℕ) → ((j : Mode) → o' j ≡ o j) → Agrees (released_at l p) o' (add_of w (step_of (release_counter (ticket_at l p).kind)))
    agrees_released turn o' same =
        let k = (ticket_at l p).kind in
        record {
          order = release_ordered l p here open_now turn a.order;
          fits = mod_fits w (step_of (release_counter k));
          word =
              release_more w a.fits releases tickets a.word k (omega (arith, all_split k l, a.cap k))
              (λ j. released_of j (released_at l p)) (λ j. given_of j (released_at l p) + o' j)
              (λ j. sym (released_set l p j here open_now)) (λ j. omega (arith, given_set l p j here, same j));
          cap = λ j. omega (arith, given_set l p j here, a.cap j);
          owing = λ e j. omega (arith, same j, a.owing (sym topped_set ∙ e) j);
        }

  -- full is told exactly where the ceiling of a kind is reached
  pub full_topped : full_at (split_of w) ≡ topped l
  full_topped = ap full_at a.word ∙ by (topped l) refl
    where
      by : (x : Bool) → topped l ≡ x → full_at (counters_of l o) ≡ topped l
      by true e = ⊎_elim (λ h. rw e (full_writers (omega arith))) (λ h. rw e (full_readers (omega arith))) (topped_or l e)
        where
          full_writers : CEIL ≤ given_of Writer l + o Writer → full_at (counters_of l o) ≡ true
          full_writers h = rw (le-leb CEIL (given_of Writer l + o Writer) h) refl

          full_readers : CEIL ≤ given_of Reader l + o Reader → full_at (counters_of l o) ≡ true
          full_readers h = or_right (leb CEIL (given_of Writer l + o Writer)) _ (le-leb CEIL (given_of Reader l + o Reader) h)
      by false e =
          rw (
            e,
            lt-leb CEIL (given_of Writer l + o Writer) (omega (arith, not_topped l e Writer, a.owing e Writer)),
            lt-leb CEIL (given_of Reader l + o Reader) (omega (arith, not_topped l e Reader, a.owing e Reader)),
          )
          refl

-- a cleared record
pub agrees_empty : (o : Mode → ℕ) → ((k : Mode) → o k ≡ 0) → Agrees [] o 0
agrees_empty o nil =
    record {
      order = empty;
      fits = omega arith;
      word = four_same (sym (counted_nil (is_released Writer))) (sym (counted_nil (is_released Reader))) (omega (arith, nil Writer, counted_nil (λ (t : Given). same_kind Writer t.kind))) (omega (arith, nil Reader, counted_nil (λ (t : Given). same_kind Reader t.kind)));
      cap = λ k. omega (arith, counted_nil (λ (t : Given). same_kind k t.kind));
      owing = λ e k. nil k;
    }

-- The clearing word of the ticket at a place: only the last one of a record that has reached the ceiling has one.
abbrev pub clearing_for : List Given → ℕ → ℕ
clearing_for l p = when topped l && eqb (suc p) (length l) then rest_of (record { 0 = given_of Writer l }) (record { 0 = given_of Reader l }) else 0

-- it is the one that the rules give with a ticket
module _ (l : List Given) (t : Given) (low : topped l ≡ false) where
  more : (k : Mode) → given_of k (l ++ t ∷ []) ≡ given_of k l + one (same_kind k t.kind)
  more k = omega (arith, counted_append (λ (u : Given). same_kind k u.kind) l (t ∷ []), counted_one (λ (u : Given). same_kind k u.kind) t)

  last_place : eqb (suc (length l)) (length (l ++ t ∷ [])) ≡ true
  last_place = eq-eqb (suc (length l)) (length (l ++ t ∷ [])) (omega (arith, length-append l (t ∷ [])))

  -- the ceiling is reached by this ticket, or it is not
  now_topped : (k : Mode) → t.kind ≡ k → given_of k l ≡ LAST → topped (l ++ t ∷ []) ≡ true
  now_topped k e h = or_topped (l ++ t ∷ []) k (omega (arith, more k, ap one (ap (same_kind k) e ∙ self k)))
    where
      self : (j : Mode) → same_kind j j ≡ true
      self Reader = refl
      self Writer = refl

  still_low : (k : Mode) → t.kind ≡ k → (given_of k l ≡ LAST → ⊥) → topped (l ++ t ∷ []) ≡ false
  still_low k e h =
      rw (
        lt-leb CEIL (given_of Writer (l ++ t ∷ [])) (under Writer k e h),
        lt-leb CEIL (given_of Reader (l ++ t ∷ [])) (under Reader k e h),
      )
      refl
    where
      apart : (n : ℕ) → n < CEIL → (n ≡ LAST → ⊥) → n < LAST
      apart n m z = ⊎_elim (λ q. absurd (z q)) (λ q. q) (eq-or-lt_of_le (lt_le n m))
        where
          lt_le : (n : ℕ) → n < CEIL → n ≤ LAST
          lt_le n m = omega arith

      under : (j k : Mode) → t.kind ≡ k → (given_of k l ≡ LAST → ⊥) → given_of j (l ++ t ∷ []) < CEIL
      under Writer Writer e h = let n = apart (given_of Writer l) (not_topped l low Writer) h in omega (arith, more Writer, one_le (same_kind Writer t.kind))
      under Reader Reader e h = let n = apart (given_of Reader l) (not_topped l low Reader) h in omega (arith, more Reader, one_le (same_kind Reader t.kind))
      under Writer Reader e h = omega (arith, more Writer, not_topped l low Writer, ap one (ap (same_kind Writer) e))
      under Reader Writer e h = omega (arith, more Reader, not_topped l low Reader, ap one (ap (same_kind Reader) e))

  pub clearing_drawn : (v : Counters) → v.mx.0 ≡ given_of Writer l → v.ms.0 ≡ given_of Reader l → clearing_word_of t.kind v ≡ clearing_for (l ++ t ∷ []) (length l)
  unfolding clearing_word_of
  clearing_drawn v x s = by t.kind refl
    where
      by : (k : Mode) → t.kind ≡ k → clearing_word_of k v ≡ clearing_for (l ++ t ∷ []) (length l)
      by Reader e = at (eqb v.ms.0 LAST) refl
        where
          at : (z : Bool) → eqb v.ms.0 LAST ≡ z → clearing_word_of Reader v ≡ clearing_for (l ++ t ∷ []) (length l)
          at true q =
              let h : given_of Reader l ≡ LAST = sym s ∙ eqb-true v.ms.0 LAST q in
              let w : given_of Writer (l ++ t ∷ []) ≡ v.mx.0 = omega (arith, more Writer, ap one (ap (same_kind Writer) e)) in
              let r : given_of Reader (l ++ t ∷ []) ≡ CEIL = omega (arith, more Reader, ap one (ap (same_kind Reader) e)) in
              rw (q, now_topped Reader e h, last_place, w, r) refl
          at false q = rw (q, still_low Reader e (λ h. eqb-false v.ms.0 LAST q (s ∙ h))) refl
      by Writer e = at (eqb v.mx.0 LAST) refl
        where
          at : (z : Bool) → eqb v.mx.0 LAST ≡ z → clearing_word_of Writer v ≡ clearing_for (l ++ t ∷ []) (length l)
          at true q =
              let h : given_of Writer l ≡ LAST = sym x ∙ eqb-true v.mx.0 LAST q in
              let w : given_of Writer (l ++ t ∷ []) ≡ CEIL = omega (arith, more Writer, ap one (ap (same_kind Writer) e)) in
              let r : given_of Reader (l ++ t ∷ []) ≡ v.ms.0 = omega (arith, more Reader, ap one (ap (same_kind Reader) e)) in
              rw (q, now_topped Writer e h, last_place, w, r) refl
          at false q = rw (q, still_low Writer e (λ h. eqb-false v.mx.0 LAST q (x ∙ h))) refl

-- the swap succeeds exactly when all are released and nothing is owed
abbrev pub word_at_rest : List Given → ℕ
word_at_rest l = rest_of (record { 0 = given_of Writer l }) (record { 0 = given_of Reader l })

module _ {l : List Given} {o : Mode → ℕ} {w : ℕ} (a : Agrees l o w) where
  narrow : Narrow (four (given_of Writer l) (given_of Reader l) (given_of Writer l) (given_of Reader l))
  narrow = record { nx = omega (arith, a.cap Writer); ns = omega (arith, a.cap Reader); mx = omega (arith, a.cap Writer); ms = omega (arith, a.cap Reader) }

  pub at_rest : w ≡ word_at_rest l → AllReleased l × ((k : Mode) → o k ≡ 0)
  at_rest e =
      let c : counters_of l o ≡ four (given_of Writer l) (given_of Reader l) (given_of Writer l) (given_of Reader l) = sym a.word ∙ ap split_of e ∙ counters_come_back (four (given_of Writer l) (given_of Reader l) (given_of Writer l) (given_of Reader l)) narrow in
      let nx = ap (λ (v : Counters). v.nx.0) c in
      let ns = ap (λ (v : Counters). v.ns.0) c in
      let mx = ap (λ (v : Counters). v.mx.0) c in
      let ms = ap (λ (v : Counters). v.ms.0) c in
      (none_all_released l (opens nx ns), owes mx ms)
    where
      opens : released_of Writer l ≡ given_of Writer l → released_of Reader l ≡ given_of Reader l → (k : Mode) → open_of k l ≡ 0
      opens p q Writer = omega (arith, all_split Writer l)
      opens p q Reader = omega (arith, all_split Reader l)

      owes : given_of Writer l + o Writer ≡ given_of Writer l → given_of Reader l + o Reader ≡ given_of Reader l → (k : Mode) → o k ≡ 0
      owes p q Writer = omega arith
      owes p q Reader = omega arith

  pub rests : AllReleased l → ((k : Mode) → o k ≡ 0) → w ≡ word_at_rest l
  rests r n =
      sym (word_comes_back w a.fits) ∙
      ap join_of
      (a.word ∙
      four_same
      (omega (arith, all_split Writer l, all_released_none l r Writer)) (omega (arith, all_split Reader l, all_released_none l r Reader))
      (omega (arith, n Writer)) (omega (arith, n Reader)))

  -- the word is what is counted
  pub word_counted : w ≡ join_of (counters_of l o)
  word_counted = sym (word_comes_back w a.fits) ∙ ap join_of a.word

  -- no counter exceeds 33,023
  pub counters_small : ((k : Mode) → o k ≤ 255) → (c : Counter) → held_by c w ≤ 33023
  counters_small few NX = omega (arith, ap (λ (v : Counters). v.nx.0) a.word, all_split Writer l, a.cap Writer)
  counters_small few NS = omega (arith, ap (λ (v : Counters). v.ns.0) a.word, all_split Reader l, a.cap Reader)
  counters_small few MX = omega (arith, ap (λ (v : Counters). v.mx.0) a.word, few Writer, a.cap Writer)
  counters_small few MS = omega (arith, ap (λ (v : Counters). v.ms.0) a.word, few Reader, a.cap Reader)

-- such a clearing word is not the number kept for none
pub rest_is_some : (l : List Given) → topped l ≡ true → word_at_rest l ≡ 0 → ⊥
rest_is_some l top e = ⊎_elim (λ h. absurd (omega arith)) (λ h. absurd (omega arith)) (topped_or l top)
