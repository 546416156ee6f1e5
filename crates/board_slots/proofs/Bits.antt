-- Why the bits of some slots tell the lowest free one and how many are in use: the first slot's bit is the lowest digit, and the rest are
-- the digits above it, so each count goes digit by digit along the list.
-- Assumes nothing.
use Prim.Native.Nat.{ℕ, zero, suc, ◌+◌, ◌*◌, ◌-◌, ◌^◌, ◌/◌, ◌%◌, ◌<◌, ◌≤◌}
use mathlib.Core.Path.{◌≡◌, refl, ap, sym, ◌∙◌}
use mathlib.Core.Bool.{Bool, true, false}
use mathlib.Core.Logic.{◌⊎◌, inl, inr, ⊎_elim}
use mathlib.Core.List.{List, [], ◌∷◌, ◌++◌}
use native.Mathlib.Nat.{pow-suc, mul_assoc, one-mul, zero-mul, lt_of_lt_of_le}
use native.Mathlib.Omega.{arith}
use lib.Count.{count_trailing_zeros, under, ones, ones_step, ones-ones}
use lib.ListN.{length, get_or, set, take, length-take}
use lib.Pow.{pow_mono}
use Rattle.agent_request.specs.declared.Request.{Request}
use Rattle.agent_request.specs.Request.{in_use, free_request}
use Rattle.board_slots.specs.Slots.{lowest_free, used_slots}
use Rattle.board_slots.specs.Map.{bit_of, bits_of}

-- a request is in use or free
pub used_or_free : (q : Request) → (in_use q ≡ true) ⊎ (in_use q ≡ false)
used_or_free q = by (in_use q) refl
  where
    by : (x : Bool) → in_use q ≡ x → (in_use q ≡ true) ⊎ (in_use q ≡ false)
    by true e = inl e
    by false e = inr e

pub used_bit : (q : Request) → in_use q ≡ true → bit_of q ≡ 1
used_bit q e = rw e refl

pub free_bit : (q : Request) → in_use q ≡ false → bit_of q ≡ 0
free_bit q e = rw e refl

pub bit_le : (q : Request) → bit_of q ≤ 1
bit_le q = ⊎_elim (λ e. rw e (omega arith)) (λ e. rw e (omega arith)) (used_or_free q)

pub bits_lt : (l : List Request) → bits_of l < 2 ^ length l
unfolding bits_of
bits_lt [] = omega arith
bits_lt (q ∷ qs) = let b = bits_lt qs in omega (arith, bit_le q, pow-suc 2 (length qs))

-- the complement of the bits, digit by digit
rest : (q : Request) (qs : List Request) → 2 ^ length (q ∷ qs) - 1 - bits_of (q ∷ qs) ≡ (2 ^ length qs - 1 - bits_of qs) * 2 + (1 - bit_of q)
unfolding bits_of
rest q qs = let b = bits_lt qs in omega (arith, bit_le q, pow-suc 2 (length qs))

-- the zeros below the lowest one of an even number, and of an odd one
even_zeros : (k c m : ℕ) → m ≡ c * 2 → under (m % 2) (count_trailing_zeros k (m / 2)) ≡ suc (count_trailing_zeros k c)
even_zeros k c m e =
    let low : m % 2 ≡ 0 = omega arith in
    let high : m / 2 ≡ c = omega arith in
    rw (low, high)

odd_zeros : (k c m : ℕ) → m ≡ c * 2 + 1 → under (m % 2) (count_trailing_zeros k (m / 2)) ≡ 0
odd_zeros k c m e = let low : m % 2 ≡ 1 = omega arith in rw low

pub zeros_lowest : (l : List Request) → count_trailing_zeros (length l) (2 ^ length l - 1 - bits_of l) ≡ lowest_free l
unfolding count_trailing_zeros lowest_free
zeros_lowest [] = refl
zeros_lowest (q ∷ qs) =
    let i = zeros_lowest qs in
    let m = 2 ^ length (q ∷ qs) - 1 - bits_of (q ∷ qs) in
    let above = 2 ^ length qs - 1 - bits_of qs in
    ⊎_elim
    (λ e. even_zeros (length qs) above m (omega (arith, rest q qs, used_bit q e)) ∙ rw e (ap suc i))
    (λ e. odd_zeros (length qs) above m (omega (arith, rest q qs, free_bit q e)) ∙ rw e refl)
    (used_or_free q)

pub lowest_le : (l : List Request) → lowest_free l ≤ length l
unfolding lowest_free
lowest_le [] = omega arith
lowest_le (q ∷ qs) = let h = lowest_le qs in ⊎_elim (λ e. rw e (omega arith)) (λ e. rw e (omega arith)) (used_or_free q)

-- where none of some slots is free every bit is one
pub all_used : (l : List Request) → lowest_free l ≡ length l → bits_of l ≡ 2 ^ length l - 1
unfolding lowest_free bits_of
all_used [] h = omega arith
all_used (q ∷ qs) h =
    let i = all_used qs in
    let b = bits_lt qs in
    ⊎_elim
    (λ e.
    let up : suc (lowest_free qs) ≡ suc (length qs) = rw e at h in
    omega (arith, i (omega arith), used_bit q e, pow-suc 2 (length qs)))
    (λ e. let z : zero ≡ suc (length qs) = rw e at h in absurd (omega arith))
    (used_or_free q)

-- some slots and more slots after them
pub lowest_within : (l r : List Request) → lowest_free l < length l → lowest_free (l ++ r) ≡ lowest_free l
unfolding lowest_free
lowest_within [] r h = absurd (omega arith)
lowest_within (q ∷ qs) r h =
    let i = lowest_within qs r in
    ⊎_elim
    (λ e. let up : suc (lowest_free qs) < suc (length qs) = rw e at h in rw e (ap suc (i (omega arith))))
    (λ e. rw e refl)
    (used_or_free q)

pub lowest_past : (l r : List Request) → lowest_free l ≡ length l → lowest_free (l ++ r) ≡ length l + lowest_free r
unfolding lowest_free
lowest_past [] r h = omega arith
lowest_past (q ∷ qs) r h =
    let i = lowest_past qs r in
    ⊎_elim
    (λ e. let up : suc (lowest_free qs) ≡ suc (length qs) = rw e at h in let j = i (omega arith) in rw e (omega arith))
    (λ e. let z : zero ≡ suc (length qs) = rw e at h in absurd (omega arith))
    (used_or_free q)

-- ones and slots in use
used_step : (q : Request) (qs : List Request) → used_slots (q ∷ qs) ≡ bit_of q + used_slots qs
unfolding used_slots
used_step q qs = ⊎_elim (λ e. rw e (omega arith)) (λ e. rw e (omega arith)) (used_or_free q)

pub ones_used : (l : List Request) → ones (bits_of l) ≡ used_slots l
unfolding bits_of used_slots
ones_used [] = ones-ones 0
ones_used (q ∷ qs) =
    let i = ones_used qs in
    let high : bits_of (q ∷ qs) / 2 ≡ bits_of qs = omega (arith, bit_le q) in
    let low : bits_of (q ∷ qs) % 2 ≡ bit_of q = omega (arith, bit_le q) in
    let s : ones (bits_of (q ∷ qs)) ≡ bit_of q + used_slots qs = omega (arith, ones_step (bits_of (q ∷ qs)), ap ones high) in
    s ∙ sym (used_step q qs)

pub used_append : (l r : List Request) → used_slots (l ++ r) ≡ used_slots l + used_slots r
unfolding used_slots
used_append [] r = omega arith
used_append (q ∷ qs) r = let i = used_append qs r in ⊎_elim (λ e. rw e (omega arith)) (λ e. rw e i) (used_or_free q)

-- one slot stored: its bit alone changes
doubled : (b i : ℕ) → b * 2 ^ suc i ≡ b * 2 ^ i * 2
doubled b i = ap (λ (n : ℕ). b * n) (pow-suc 2 i) ∙ sym (mul_assoc b (2 ^ i) 2)

pub bits_set : (l : List Request) (i : ℕ) (q : Request) → i < length l → bits_of (set l i q) + bit_of (get_or l i free_request) * 2 ^ i ≡ bits_of l + bit_of q * 2 ^ i
unfolding bits_of
bits_set [] i q h = absurd (omega arith)
bits_set (p ∷ ps) zero q h = omega arith
bits_set (p ∷ ps) (suc i) q h =
    let r = bits_set ps i q (omega arith) in
    omega (arith, doubled (bit_of (get_or ps i free_request)) i, doubled (bit_of q) i)

-- the bits of the first slots, and of one slot more: one more digit above them
bits_more : (l : List Request) (j : ℕ) → j < length l → bits_of (take (suc j) l) ≡ bits_of (take j l) + bit_of (get_or l j free_request) * 2 ^ j
unfolding bits_of
bits_more [] j h = absurd (omega arith)
bits_more (q ∷ qs) zero h = omega arith
bits_more (q ∷ qs) (suc j) h =
    let i = bits_more qs j (omega arith) in
    omega (arith, doubled (bit_of (get_or qs j free_request)) j)

pub more_used : (l : List Request) (j : ℕ) → j < length l → in_use (get_or l j free_request) ≡ true → bits_of (take (j + 1) l) ≡ bits_of (take j l) + 2 ^ j
more_used l j h u =
    let next : j + 1 ≡ suc j = omega arith in
    let digit : bit_of (get_or l j free_request) * 2 ^ j ≡ 2 ^ j = ap (λ (b : ℕ). b * 2 ^ j) (used_bit (get_or l j free_request) u) ∙ one-mul (2 ^ j) in
    rw next (omega (arith, bits_more l j h))

pub more_free : (l : List Request) (j : ℕ) → j < length l → in_use (get_or l j free_request) ≡ false → bits_of (take (j + 1) l) ≡ bits_of (take j l)
more_free l j h u =
    let next : j + 1 ≡ suc j = omega arith in
    let digit : bit_of (get_or l j free_request) * 2 ^ j ≡ 0 = ap (λ (b : ℕ). b * 2 ^ j) (free_bit (get_or l j free_request) u) ∙ zero-mul (2 ^ j) in
    rw next (omega (arith, bits_more l j h))

-- they are so many digits
pub bits_take_lt : (l : List Request) (j : ℕ) → bits_of (take j l) < 2 ^ j
bits_take_lt l j =
    let short : length (take j l) ≤ j = simp length-take (omega arith) in
    lt_of_lt_of_le (bits_lt (take j l)) (pow_mono short)
