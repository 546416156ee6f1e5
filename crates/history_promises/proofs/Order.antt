-- The tickets of one record in order: an unreleased ticket has no released one behind it that conflicts with it. Then what stands before an
-- unreleased ticket, of a kind that conflicts with it, is what has been released in all and what is still ahead.
-- Assumes nothing.
use Prim.Native.Nat.{ℕ, zero, suc, ◌+◌, ◌<◌}
use mathlib.Core.Path.{◌≡◌, refl, ap, sym, ◌∙◌}
use mathlib.Core.Bool.{Bool, true, false, not, ◌&&◌}
use mathlib.Core.Logic.{◌⊎◌, inl, inr}
use mathlib.Core.List.{List, [], ◌∷◌, ◌++◌}
use native.Mathlib.Omega.{arith}
use lib.ListN.{length, take}
use Rattle.std.proofs.lemmas.Bool.{cases_Bool}
use Rattle.agent_ticket.specs.declared.Mode.{Mode}
use Rattle.agent_ticket.specs.declared.Mode.TheVariants.{Reader, Writer}
use Rattle.history_promises.specs.Tickets.{Given, conflicts, past_the_last, ticket_at, same_kind, counted, given_of, is_released, released_of, EarlierReleased}
use Rattle.history_promises.specs.Ledger.{as_released, released_at, one}
use Rattle.history_promises.proofs.Counts.{clash, counted_cons, counted_nil, counted_append, counted_one, counted_set}

-- unreleased ones of a kind
abbrev pub is_open : Mode → Given → Bool
is_open k t = same_kind k t.kind && not t.released

abbrev pub open_of : Mode → List Given → ℕ
open_of k l = counted (is_open k) l

abbrev of_kind : Mode → Given → Bool
of_kind k t = same_kind k t.kind

one_split : (x y : Bool) → one x ≡ one (x && y) + one (x && not y)
one_split true true = refl
one_split true false = refl
one_split false true = refl
one_split false false = refl

pub kind_split : (k : Mode) (t : Given) → one (of_kind k t) ≡ one (is_released k t) + one (is_open k t)
kind_split k t = one_split (same_kind k t.kind) t.released

-- every ticket of a kind is released or not
pub all_split : (k : Mode) (l : List Given) → given_of k l ≡ released_of k l + open_of k l
all_split k [] = omega (arith, counted_nil (of_kind k), counted_nil (is_released k), counted_nil (is_open k))
all_split k (t ∷ l) =
    let i = all_split k l in
    omega (arith, kind_split k t, counted_cons (of_kind k) t l, counted_cons (is_released k) t l, counted_cons (is_open k) t l)

-- none behind a ticket is released that conflicts with it, if it is not released itself
pub record Before (t : Given) (l : List Given) : Type 0 where
  pub behind : t.released ≡ false → (j : Mode) → conflicts j t.kind ≡ true → released_of j l ≡ 0

pub data Ordered : List Given → Type 0 where
  empty : Ordered []
  first : {t : Given} {l : List Given} → Before t l → Ordered l → Ordered (t ∷ l)

pub released_one : (j : Mode) (t : Given) → t.released ≡ false → one (is_released j t) ≡ 0
released_one j t e = rw e (by (same_kind j t.kind))
  where
    by : (x : Bool) → one (x && false) ≡ 0
    by true = refl
    by false = refl

-- the one equation
pub before_open :
    (l : List Given) → Ordered l → (p : ℕ) → p < length l → (ticket_at l p).released ≡ false →
    (j : Mode) → conflicts j (ticket_at l p).kind ≡ true →
    given_of j (take p l) ≡ released_of j l + open_of j (take p l)
before_open [] o p h e j c = absurd (omega arith)
before_open (t ∷ l) (first b o) zero h e j c =
    let none-behind = b.behind e j c in
    omega (arith, counted_nil (of_kind j), counted_nil (is_open j), counted_cons (is_released j) t l, released_one j t e)
before_open (t ∷ l) (first b o) (suc p) h e j c =
    let i = before_open l o p (omega arith) e j c in
    omega (arith, kind_split j t, counted_cons (of_kind j) t (take p l), counted_cons (is_released j) t l, counted_cons (is_open j) t (take p l))

-- a ticket that is not released, behind all others
pub append_ordered : (l : List Given) (t : Given) → t.released ≡ false → Ordered l → Ordered (l ++ t ∷ [])
append_ordered [] t e o = first (record { behind = λ u j c. counted_nil (is_released j) }) empty
append_ordered (a ∷ l) t e (first b o) =
    first {l = l ++ t ∷ []}
    (record { behind = λ u j c. let n = b.behind u j c in omega (arith, counted_append (is_released j) l (t ∷ []), counted_one (is_released j) t, released_one j t e) })
    (append_ordered l t e o)

-- kinds
conflict_sym : (j k : Mode) → conflicts j k ≡ conflicts k j
conflict_sym Reader Reader = refl
conflict_sym Reader Writer = refl
conflict_sym Writer Reader = refl
conflict_sym Writer Writer = refl

pub same_eq : (j k : Mode) → same_kind j k ≡ true → j ≡ k
same_eq Reader Reader e = refl
same_eq Reader Writer e = clash false e refl
same_eq Writer Reader e = clash false e refl
same_eq Writer Writer e = refl

-- what a release counts
pub released_set :
    (l : List Given) (p : ℕ) (j : Mode) → p < length l → (ticket_at l p).released ≡ false →
    released_of j (released_at l p) ≡ released_of j l + one (same_kind j (ticket_at l p).kind)
released_set l p j h e =
    let s = counted_set (is_released j) l p (as_released (ticket_at l p)) past_the_last h in
    let z = released_one j (ticket_at l p) e in
    omega (arith, and_true (same_kind j (ticket_at l p).kind))
  where
    and_true : (x : Bool) → one (x && true) ≡ one x
    and_true true = refl
    and_true false = refl

-- the kinds stay
pub given_set : (l : List Given) (p : ℕ) (j : Mode) → p < length l → given_of j (released_at l p) ≡ given_of j l
given_set l p j h =
    let s = counted_set (of_kind j) l p (as_released (ticket_at l p)) past_the_last h in
    omega arith

-- a ticket whose turn it is may be released
pub release_ordered :
    (l : List Given) (p : ℕ) → p < length l → (ticket_at l p).released ≡ false →
    EarlierReleased l (ticket_at l p).kind p → Ordered l → Ordered (released_at l p)
release_ordered [] p h e r o = absurd (omega arith)
release_ordered (t ∷ l) zero h e r (first b o) = first (record { behind = λ u. clash true refl u }) o
release_ordered (t ∷ l) (suc p) h e r (first b o) =
    let inner = release_ordered l p (omega arith) e (λ j k c. r (suc j) (omega arith) c) o in
    first {l = released_at l p} (record { behind = λ u j c. by u j c (cases_Bool (same_kind j (ticket_at l p).kind)) }) inner
  where
    by : t.released ≡ false → (j : Mode) → conflicts j t.kind ≡ true → (same_kind j (ticket_at l p).kind ≡ true) ⊎ (same_kind j (ticket_at l p).kind ≡ false) → released_of j (released_at l p) ≡ 0
    by u j c (inl s) =
        let same = same_eq j (ticket_at l p).kind s in
        let meets : conflicts t.kind (ticket_at l p).kind ≡ true = rw (sym same) (conflict_sym t.kind j ∙ c) in
        clash t.released (r zero (omega arith) meets) u
    by u j c (inr s) =
        let n = b.behind u j c in
        omega (arith, released_set l p j (omega arith) e, ap one s)
