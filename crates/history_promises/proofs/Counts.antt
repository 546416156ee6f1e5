-- How many pass a test: of the elements of a list, and of the numbers below one.
-- Assumes nothing.
use Prim.Native.Nat.{ℕ, zero, suc, ◌+◌, ◌<◌, ◌≤◌}
use mathlib.Core.Path.{◌≡◌, refl, ap, sym, ◌∙◌}
use mathlib.Core.Bool.{Bool, true, false}
use mathlib.Core.Logic.{⊎_elim}
use mathlib.Core.List.{List, [], ◌∷◌, ◌++◌}
use native.Mathlib.Nat.{eq-or-lt_of_le}
use native.Mathlib.Omega.{arith}
use lib.ListN.{length, get_or, set, take}
use Rattle.std.proofs.lemmas.Bool.{cases_Bool}
use Rattle.common.specs.Choice.{when◌then◌else◌}
use Rattle.history_promises.specs.Tickets.{counted}
use Rattle.history_promises.specs.Ledger.{one, below}

pub one_le : (x : Bool) → one x ≤ 1
one_le true = omega arith
one_le false = omega arith

-- never both
pub clash : {X : Type 0} (x : Bool) → x ≡ true → x ≡ false → X
clash x p q = absurd (omega (arith, ap one (sym p ∙ q)))

module _ {A : Type 0} (f : A → Bool) where
  -- the head of a list counts one or none
  pub counted_cons : (a : A) (l : List A) → counted f (a ∷ l) ≡ one (f a) + counted f l
  unfolding counted
  counted_cons a l = by (f a) refl
    where
      by : (x : Bool) → f a ≡ x → (when f a then suc (counted f l) else counted f l) ≡ one (f a) + counted f l
      by true e = rw e (omega arith)
      by false e = rw e (omega arith)

  pub counted_nil : counted f [] ≡ 0
  unfolding counted
  counted_nil = refl

  pub counted_append : (l m : List A) → counted f (l ++ m) ≡ counted f l + counted f m
  counted_append [] m = omega (arith, counted_nil)
  counted_append (a ∷ l) m = let i = counted_append l m in omega (arith, counted_cons a l, counted_cons a (l ++ m))

  pub counted_one : (a : A) → counted f (a ∷ []) ≡ one (f a)
  counted_one a = omega (arith, counted_cons a [], counted_nil)

  -- another element at a place
  pub counted_set : (l : List A) (p : ℕ) (a d : A) → p < length l → counted f (set l p a) + one (f (get_or l p d)) ≡ counted f l + one (f a)
  counted_set [] p a d h = absurd (omega arith)
  counted_set (b ∷ l) zero a d h = omega (arith, counted_cons b l, counted_cons a l)
  counted_set (b ∷ l) (suc p) a d h =
      let i = counted_set l p a d (omega arith) in
      omega (arith, counted_cons b l, counted_cons b (set l p a))

  pub counted_le : (l : List A) → counted f l ≤ length l
  counted_le [] = omega (arith, counted_nil)
  counted_le (a ∷ l) = let i = counted_le l in let b = one_le (f a) in omega (arith, counted_cons a l)

  -- no more pass before a place than in all
  pub counted_take : (l : List A) (p : ℕ) → counted f (take p l) ≤ counted f l
  counted_take [] zero = omega arith
  counted_take [] (suc p) = omega arith
  counted_take (a ∷ l) zero = omega (arith, counted_nil)
  counted_take (a ∷ l) (suc p) = let i = counted_take l p in omega (arith, counted_cons a l, counted_cons a (take p l))

  -- none passes before a place exactly when each fails there
  pub none_each : (l : List A) (p : ℕ) (d : A) → counted f (take p l) ≡ 0 → (j : ℕ) → j < p → j < length l → f (get_or l j d) ≡ false
  none_each [] p d h j k m = absurd (omega arith)
  none_each (a ∷ l) zero d h j k m = absurd (omega arith)
  none_each (a ∷ l) (suc p) d h zero k m = ⊎_elim (λ e. absurd (omega (arith, counted_cons a (take p l), ap one e))) (λ e. e) (cases_Bool (f a))
  none_each (a ∷ l) (suc p) d h (suc j) k m =
      let less : counted f (take p l) ≡ 0 = omega (arith, counted_cons a (take p l)) in
      none_each l p d less j (omega arith) (omega arith)

  pub each_none : (l : List A) (p : ℕ) (d : A) → ((j : ℕ) → j < p → j < length l → f (get_or l j d) ≡ false) → counted f (take p l) ≡ 0
  each_none [] zero d h = counted_nil
  each_none [] (suc p) d h = counted_nil
  each_none (a ∷ l) zero d h = counted_nil
  each_none (a ∷ l) (suc p) d h =
      let first = h zero (omega arith) (omega arith) in
      let i = each_none l p d (λ j k m. h (suc j) (omega arith) (omega arith)) in
      omega (arith, counted_cons a (take p l), ap one first)

le_of_suc : (i n : ℕ) → i < suc n → i ≤ n
le_of_suc i n h = omega arith

-- of the numbers below one
pub below_le : (f : ℕ → Bool) (n : ℕ) → below f n ≤ n
unfolding below
below_le f zero = omega arith
below_le f (suc n) = let i = below_le f n in let b = one_le (f n) in omega arith

pub below_same : (f g : ℕ → Bool) (n : ℕ) → ((j : ℕ) → j < n → g j ≡ f j) → below g n ≡ below f n
unfolding below
below_same f g zero h = refl
below_same f g (suc n) h =
    let i = below_same f g n (λ j k. h j (omega arith)) in
    let t = h n (omega arith) in
    omega (arith, ap one t)

-- one passes, so some do
pub pass_some : (f : ℕ → Bool) (n i : ℕ) → i < n → f i ≡ true → below f n ≡ 0 → ⊥
unfolding below
pass_some f zero i h e z = absurd (omega arith)
pass_some f (suc n) i h e z =
    let r : i < n → below f n ≡ 0 → ⊥ = λ k. pass_some f n i k e in
    ⊎_elim (λ q. omega (arith, ap one (ap f (sym q) ∙ e))) (λ k. r k (omega arith)) (eq-or-lt_of_le (le_of_suc i n h))

-- one fails, so fewer than all pass
pub below_lt : (f : ℕ → Bool) (n i : ℕ) → i < n → f i ≡ false → below f n < n
unfolding below
below_lt f zero i h e = absurd (omega arith)
below_lt f (suc n) i h e =
    let r : i < n → below f n < n = λ k. below_lt f n i k e in
    let b = below_le f n in
    let m = one_le (f n) in
    ⊎_elim (λ q. omega (arith, ap one (ap f (sym q) ∙ e))) (λ k. let t = r k in omega arith) (eq-or-lt_of_le (le_of_suc i n h))

-- another test at one point
pub below_put : (f g : ℕ → Bool) (n i : ℕ) → i < n → ((j : ℕ) → (j ≡ i → ⊥) → g j ≡ f j) → below g n + one (f i) ≡ below f n + one (g i)
unfolding below
below_put f g zero i h e = absurd (omega arith)
below_put f g (suc n) i h e =
    let r : i < n → below g n + one (f i) ≡ below f n + one (g i) = λ k. below_put f g n i k e in
    ⊎_elim
    (λ q. let s = below_same f g n (λ j k. e j (λ z. absurd (omega arith))) in omega (arith, ap (λ (x : ℕ). one (f x)) q, ap (λ (x : ℕ). one (g x)) q))
    (λ k. let t = r k in omega (arith, ap one (e n (λ z. absurd (omega arith)))))
    (eq-or-lt_of_le (le_of_suc i n h))

-- none passes exactly when each fails
pub below_none : (f : ℕ → Bool) (n : ℕ) → below f n ≡ 0 → (i : ℕ) → i < n → f i ≡ false
below_none f n h i k = ⊎_elim (λ e. absurd (pass_some f n i k e h)) (λ e. e) (cases_Bool (f i))

pub none_below : (f : ℕ → Bool) (n : ℕ) → ((i : ℕ) → i < n → f i ≡ false) → below f n ≡ 0
unfolding below
none_below f zero h = refl
none_below f (suc n) h =
    let i = none_below f n (λ j k. h j (omega arith)) in
    let t = h n (omega arith) in
    omega (arith, ap one t)
