-- The first part that has a zero has the lowest one.
-- Assumes nothing.
use Rattle.std.proofs.Common.{ℕ, zero, suc, ◌≡◌, refl, ◌+◌, ◌*◌, ◌-◌, ◌^◌, ◌<◌, Bool, true, false, not, List, [], ◌∷◌, length, get_or, arith, sym, Option, Some, None, cond}
use borrow.Author.Tests.{ltb-true, ltb-false, eq-eqb, ne_eqb, eqb-true, eqb-false}
use lib.Dec.{eqb, ltb}
use lib.Count.{count_trailing_zeros, ones}
use Rattle.std.specs.Int.{w64, trailing_zeros}
use Rattle.std.specs.List.{position_or_len, sum_by}
use Rattle.std.proofs.lemmas.Nat.Bits.{bit_at-trailing_zeros}
use Rattle.std.proofs.lemmas.Option.{none-some, cond_some}
use Rattle.std.proofs.lemmas.List.Sums.{fails_before_first, passes_at_first}
use Rattle.common.specs.Choice.{but}
use Rattle.board_slots.specs.Slots.{SLOTS}
use Rattle.board_slots.specs.Map.{ALL, lowest_zero, ones_of}

-- a part has a zero
abbrev pub has_zero : ℕ → Bool
has_zero n = not (eqb n ALL)

full : (n : ℕ) → has_zero n ≡ false → n ≡ ALL
full n e = eqb-true n ALL (by (eqb n ALL) e)
  where
    by : (x : Bool) → not x ≡ false → x ≡ true
    by true e = refl
    by false e = sym e

some : (n : ℕ) → has_zero n ≡ true → n ≡ ALL → ⊥
some n e = eqb-false n ALL (by (eqb n ALL) e)
  where
    by : (x : Bool) → not x ≡ true → x ≡ false
    by true e = sym e
    by false e = refl

module _ (m : List ℕ) where
  none_has : ((j : ℕ) → j < 4 → get_or m j 0 ≡ ALL) → lowest_zero m ≡ SLOTS
  unfolding lowest_zero
  none_has f =
      rw (eq-eqb (get_or m 0 0) ALL (f 0 (omega arith)), eq-eqb (get_or m 1 0) ALL (f 1 (omega arith)), eq-eqb (get_or m 2 0) ALL (f 2 (omega arith)), eq-eqb (get_or m 3 0) ALL (f 3 (omega arith)))
      refl

  first_has : (k : ℕ) → k < 4 → ((j : ℕ) → j < k → get_or m j 0 ≡ ALL) → (get_or m k 0 ≡ ALL → ⊥) → lowest_zero m ≡ 64 * k + count_trailing_zeros 64 (ALL - get_or m k 0)
  unfolding lowest_zero
  first_has zero h f n = rw (ne_eqb (get_or m 0 0) ALL n) refl
  first_has (suc zero) h f n = rw (eq-eqb (get_or m 0 0) ALL (f 0 (omega arith)), ne_eqb (get_or m 1 0) ALL n) refl
  first_has (suc (suc zero)) h f n =
      rw (eq-eqb (get_or m 0 0) ALL (f 0 (omega arith)), eq-eqb (get_or m 1 0) ALL (f 1 (omega arith)), ne_eqb (get_or m 2 0) ALL n) refl
  first_has (suc (suc (suc zero))) h f n =
      rw (eq-eqb (get_or m 0 0) ALL (f 0 (omega arith)), eq-eqb (get_or m 1 0) ALL (f 1 (omega arith)), eq-eqb (get_or m 2 0) ALL (f 2 (omega arith)), ne_eqb (get_or m 3 0) ALL n) refl
  first_has (suc (suc (suc (suc k)))) h f n = absurd (omega arith)

  -- which is the first with a zero
  abbrev pub first : Option ℕ
  first = cond (ltb (position_or_len has_zero m) (length m)) (Some (position_or_len has_zero m)) None

  pub lowest_none : length m ≡ 4 → first ≡ None → None ≡ but SLOTS (lowest_zero m)
  lowest_none long e = by (ltb (position_or_len has_zero m) (length m)) refl e
    where
      by : (x : Bool) → ltb (position_or_len has_zero m) (length m) ≡ x → cond x (Some (position_or_len has_zero m)) None ≡ None → None ≡ but SLOTS (lowest_zero m)
      by true e s = absurd (none-some (position_or_len has_zero m) (sym s))
      by false e s =
          let past = ltb-false (position_or_len has_zero m) (length m) e in
          let z = none_has λ j h. full (get_or m j 0) (fails_before_first has_zero m j 0 (omega arith)) in
          rw (eq-eqb (lowest_zero m) SLOTS z) refl

  pub lowest_some : (k : ℕ) → length m ≡ 4 → first ≡ Some k → get_or m k 0 < 2 ^ 64 → Some (64 * k + trailing_zeros w64 (ALL - get_or m k 0)) ≡ but SLOTS (lowest_zero m)
  lowest_some k long e fits =
      let s = cond_some (ltb (position_or_len has_zero m) (length m)) (position_or_len has_zero m) k e in
      let within : k < length m = rw s.1 at (ltb-true (position_or_len has_zero m) (length m) s.0) in
      let gap : get_or m k 0 ≡ ALL → ⊥ = some (get_or m k 0) (rw s.1 at (passes_at_first has_zero m 0 (ltb-true (position_or_len has_zero m) (length m) s.0))) in
      let z = first_has k (omega arith) (λ j h. full (get_or m j 0) (fails_before_first has_zero m j 0 (rw s.1 h))) gap in
      let t = (bit_at-trailing_zeros w64 (ALL - get_or m k 0) (omega arith) (omega arith)).0 in
      rw (ne_eqb (lowest_zero m) SLOTS (λ s. absurd (omega arith)), z) refl

-- the ones of four parts are their sum, and it is at most 256
pub ones_are : (m : List ℕ) → length m ≡ 4 → sum_by ones m ≡ ones_of m
ones_are [] h = absurd (omega arith)
ones_are (a ∷ []) h = absurd (omega arith)
ones_are (a ∷ b ∷ []) h = absurd (omega arith)
ones_are (a ∷ b ∷ c ∷ []) h = absurd (omega arith)
ones_are (a ∷ b ∷ c ∷ d ∷ []) h = omega arith
ones_are (a ∷ b ∷ c ∷ d ∷ e ∷ es) h = absurd (omega arith)
