-- Why the map of a table tells its lowest free slot and its slots in use, and why a store changes the slot's own bit alone: the table is
-- four times 64 slots one after the other, and each part of the map has the bits of one 64.
-- Assumes nothing.
use Prim.Native.Nat.{ℕ, zero, suc, ◌+◌, ◌*◌, ◌-◌, ◌^◌, ◌/◌, ◌%◌, ◌<◌, ◌≤◌}
use mathlib.Core.Path.{◌≡◌, refl, ap, sym, ◌∙◌}
use mathlib.Core.Bool.{Bool, true, false}
use mathlib.Core.Logic.{◌⊎◌, inl, inr, ⊎_elim}
use mathlib.Core.List.{List, []}
use native.Mathlib.Nat.{eq-or-lt_of_le, zero-add, one-mul, zero-mul, lt_of_lt_of_le}
use native.Mathlib.Omega.{arith}
use borrow.Author.Tests.{eq-eqb, ne_eqb, ltb-true, ltb-false}
use lib.Count.{count_trailing_zeros, ones, trailing_of_zero}
use lib.Dec.{eqb, ltb}
use lib.Pow.{pow_mono}
use lib.ListN.{length, get_or, set, take, drop, length-take, length-drop, take-append-drop, length-set, drop_of_length-le}
use lib.Seq.{drop-drop, drop-set-add, drop-set-lt, take-set-lt, take-set-le, ext_get_or, get_or-set_same, get_or-set_other, get_or-take, get_or-drop}
use Rattle.common.specs.Choice.{when◌then◌else◌}
use Rattle.common.proofs.Choices.{same_or_not}
use Rattle.agent_request.specs.declared.Request.{Request}
use Rattle.agent_request.specs.Request.{in_use, free_request}
use Rattle.board_slots.specs.Slots.{lowest_free, used_slots}
use Rattle.board_slots.specs.Map.{bit_of, bits_of, part_of, map_of, ALL, lowest_zero, ones_of, plus, marked_of}
use Rattle.board_slots.proofs.Bits.{used_or_free, used_bit, free_bit, bits_lt, zeros_lowest, lowest_le, all_used, lowest_within, lowest_past, ones_used, used_append, bits_set}

-- 64 slots and the rest: the lowest free slot is among the 64, or after them
first_part :
    (l : List Request) (base after : ℕ) →
    64 ≤ length l →
    after ≡ base + 64 + lowest_free (drop 64 l) →
    (when eqb (bits_of (take 64 l)) ALL then after else base + count_trailing_zeros 64 (ALL - bits_of (take 64 l))) ≡ base + lowest_free l
first_part l base after h e =
    let long : length (take 64 l) ≡ 64 = simp length-take (omega arith) in
    let whole = ap lowest_free (take-append-drop 64 l) in
    let zeros : count_trailing_zeros 64 (ALL - bits_of (take 64 l)) ≡ lowest_free (take 64 l) = rw long at (zeros_lowest (take 64 l)) in
    let most = lowest_le (take 64 l) in
    ⊎_elim
    (λ full.
    let none : count_trailing_zeros 64 (ALL - bits_of (take 64 l)) ≡ 64 = rw full (trailing_of_zero 64) in
    let past = lowest_past (take 64 l) (drop 64 l) (omega arith) in
    rw (eq-eqb (bits_of (take 64 l)) ALL full) (omega arith))
    (λ gap.
    let some : lowest_free (take 64 l) ≡ 64 → ⊥ = λ e. gap (all_used (take 64 l) (e ∙ sym long) ∙ ap (λ (n : ℕ). 2 ^ n - 1) long) in
    let below : lowest_free (take 64 l) < 64 = ⊎_elim (λ e. absurd (some (e ∙ long))) (λ h. omega arith) (eq-or-lt_of_le most) in
    let within = lowest_within (take 64 l) (drop 64 l) (omega arith) in
    rw (ne_eqb (bits_of (take 64 l)) ALL gap) (omega arith))
    (same_or_not (bits_of (take 64 l)) ALL)

-- past the 256 slots nothing is left
nothing_left : (slots : List Request) → length slots ≡ 256 → drop 256 slots ≡ []
nothing_left slots long = let short : length slots ≤ 256 = omega arith in drop_of_length-le slots short

-- the slots in use of 64 and of the rest
used_parts : (l : List Request) → used_slots l ≡ ones (bits_of (take 64 l)) + used_slots (drop 64 l)
used_parts l =
    let split = ap used_slots (take-append-drop 64 l) in
    omega (arith, used_append (take 64 l) (drop 64 l), ones_used (take 64 l))

module _ (slots : List Request) (long : length slots ≡ 256) where
  pub lowest_of_map : lowest_zero (map_of slots) ≡ lowest_free slots
  unfolding lowest_zero lowest_free
  lowest_of_map =
      let d2 = drop-drop 64 64 slots in
      let d3 = drop-drop 64 128 slots in
      let d4 = drop-drop 64 192 slots in
      let none : lowest_free (drop 256 slots) ≡ 0 = ap lowest_free (nothing_left slots long) in
      let fourth = first_part (drop 192 slots) 192 256 (rw length-drop (omega arith)) (rw d4 (omega arith)) in
      let third = first_part (drop 128 slots) 128 _ (rw length-drop (omega arith)) (fourth ∙ rw d3 refl) in
      let second = first_part (drop 64 slots) 64 _ (rw length-drop (omega arith)) (third ∙ rw d2 refl) in
      first_part slots 0 _ (omega arith) second ∙ zero-add (lowest_free slots)

  pub ones_of_map : ones_of (map_of slots) ≡ used_slots slots
  unfolding used_slots
  ones_of_map =
      let first = used_parts slots in
      let second = used_parts (drop 64 slots) in
      let third = used_parts (drop 128 slots) in
      let fourth = used_parts (drop 192 slots) in
      let d2 = ap used_slots (drop-drop 64 64 slots) in
      let d3 = ap used_slots (drop-drop 64 128 slots) in
      let d4 = ap used_slots (drop-drop 64 192 slots ∙ nothing_left slots long) in
      omega arith

-- the part k of a table, and where a store falls
at_part : (slots : List Request) (n : ℕ) → n < 4 → get_or (map_of slots) n 0 ≡ part_of n slots
at_part slots zero h = refl
at_part slots (suc zero) h = refl
at_part slots (suc (suc zero)) h = refl
at_part slots (suc (suc (suc zero))) h = refl
at_part slots (suc (suc (suc (suc n)))) h = absurd (omega arith)

stored_here : (slots : List Request) (k j : ℕ) (q : Request) → j < 64 → take 64 (drop (64 * k) (set slots (64 * k + j) q)) ≡ set (take 64 (drop (64 * k) slots)) j q
stored_here slots k j q h = ap (take 64) (drop-set-add (64 * k) slots j q) ∙ take-set-lt 64 (drop (64 * k) slots) j q h

stored_below : (slots : List Request) (n i : ℕ) (q : Request) → i < 64 * n → take 64 (drop (64 * n) (set slots i q)) ≡ take 64 (drop (64 * n) slots)
stored_below slots n i q h = ap (take 64) (drop-set-lt (64 * n) slots i q h)

stored_above : (slots : List Request) (n i : ℕ) (q : Request) → 64 * n + 64 ≤ i → take 64 (drop (64 * n) (set slots i q)) ≡ take 64 (drop (64 * n) slots)
stored_above slots n i q h =
    let e : 64 * n + (i - 64 * n) ≡ i = omega arith in
    ap (λ (m : ℕ). take 64 (drop (64 * n) (set slots m q))) (sym e) ∙ ap (take 64) (drop-set-add (64 * n) slots (i - 64 * n) q) ∙
    take-set-le 64 (drop (64 * n) slots) (i - 64 * n) q (omega arith)

-- a part where the store does not fall stays
less_or_not : (m n : ℕ) → (m < n) ⊎ (n ≤ m)
less_or_not m n = by (ltb m n) refl
  where
    by : (x : Bool) → ltb m n ≡ x → (m < n) ⊎ (n ≤ m)
    by true e = inl (ltb-true m n e)
    by false e = inr (ltb-false m n e)

stays : (slots : List Request) (n i : ℕ) (q : Request) → (n ≡ i / 64 → ⊥) → part_of n (set slots i q) ≡ part_of n slots
stays slots n i q other =
    ⊎_elim
    (λ (h : n < i / 64). ap bits_of (stored_above slots n i q (omega arith)))
    (λ (h : i / 64 ≤ n). ⊎_elim (λ (e : i / 64 ≡ n). absurd (other (sym e))) (λ (l : i / 64 < n). ap bits_of (stored_below slots n i q (omega arith))) (eq-or-lt_of_le h))
    (less_or_not n (i / 64))

-- the part where it falls has the bit of the new request in the place of the old one's
changes :
    (slots : List Request) (i : ℕ) (q : Request) →
    length slots ≡ 256 →
    i < 256 →
    part_of (i / 64) (set slots i q) + bit_of (get_or slots i free_request) * 2 ^ (i % 64) ≡ part_of (i / 64) slots + bit_of q * 2 ^ (i % 64)
changes slots i q long h =
    let k = i / 64 in
    let j = i % 64 in
    let place : 64 * k + j ≡ i = omega arith in
    let small : j < 64 = omega arith in
    let part = take 64 (drop (64 * k) slots) in
    let whole : length part ≡ 64 = simp (length-take, length-drop) (omega arith) in
    let here : take 64 (drop (64 * k) (set slots i q)) ≡ set part j q = ap (λ (m : ℕ). take 64 (drop (64 * k) (set slots m q))) (sym place) ∙ stored_here slots k j q small in
    let old : get_or part j free_request ≡ get_or slots i free_request = get_or-take 64 (drop (64 * k) slots) j free_request small ∙ get_or-drop (64 * k) slots j free_request ∙ ap (λ (m : ℕ). get_or slots m free_request) place in
    ap (λ (b : ℕ). b + bit_of (get_or slots i free_request) * 2 ^ j) (ap bits_of here) ∙
    ap (λ (r : Request). bits_of (set part j q) + bit_of r * 2 ^ j) (sym old) ∙
    bits_set part j q (omega arith)

once : (b p : ℕ) → b ≡ 1 → b * p ≡ p
once b p e = rw e (one-mul p)

never : (b p : ℕ) → b ≡ 0 → b * p ≡ 0
never b p e = rw e (zero-mul p)

part_fits : (slots : List Request) (k : ℕ) → part_of k slots < 2 ^ 64
part_fits slots k =
    let short : length (take 64 (drop (64 * k) slots)) ≤ 64 = simp length-take (omega arith) in
    lt_of_lt_of_le (bits_lt (take 64 (drop (64 * k) slots))) (pow_mono short)

module _ (slots : List Request) (long : length slots ≡ 256) (i : ℕ) (h : i < 256) (q : Request) where
  -- so the map with the right number added to that part is the map of the stored table
  plus_is : (d : ℕ) → (part_of (i / 64) slots + d) % 2 ^ 64 ≡ part_of (i / 64) (set slots i q) → plus (map_of slots) i d ≡ map_of (set slots i q)
  plus_is d e =
      ext_get_or 0 (plus (map_of slots) i d) (map_of (set slots i q)) (length-set (map_of slots) (i / 64) ((get_or (map_of slots) (i / 64) 0 + d) % 2 ^ 64))
      λ n b.
      let m : n < 4 = rw length-set at b in
      let v = (get_or (map_of slots) (i / 64) 0 + d) % 2 ^ 64 in
      ⊎_elim
      (λ (s : n ≡ i / 64).
      ap (λ (r : ℕ). get_or (set (map_of slots) (i / 64) v) r 0) s ∙ get_or-set_same (map_of slots) (i / 64) v 0 (omega arith) ∙
      ap (λ (p : ℕ). (p + d) % 2 ^ 64) (at_part slots (i / 64) (omega arith)) ∙ e ∙
      sym (at_part (set slots i q) (i / 64) (omega arith)) ∙ ap (λ (r : ℕ). get_or (map_of (set slots i q)) r 0) (sym s))
      (λ (o : n ≡ i / 64 → ⊥).
      get_or-set_other (map_of slots) (i / 64) n v 0 o ∙ at_part slots n m ∙ sym (stays slots n i q o) ∙ sym (at_part (set slots i q) n m))
      (same_or_not n (i / 64))

  same_is : part_of (i / 64) slots ≡ part_of (i / 64) (set slots i q) → map_of slots ≡ map_of (set slots i q)
  same_is e =
      ext_get_or 0 (map_of slots) (map_of (set slots i q)) refl
      λ n m.
      ⊎_elim
      (λ (s : n ≡ i / 64).
      ap (λ (r : ℕ). get_or (map_of slots) r 0) s ∙ at_part slots (i / 64) (omega arith) ∙ e ∙ sym (at_part (set slots i q) (i / 64) (omega arith)) ∙
      ap (λ (r : ℕ). get_or (map_of (set slots i q)) r 0) (sym s))
      (λ (o : n ≡ i / 64 → ⊥). at_part slots n m ∙ sym (stays slots n i q o) ∙ sym (at_part (set slots i q) n m))
      (same_or_not n (i / 64))

  -- a store of q in the slot i: the map marked at i is the map of the table after it
  pub marked_is : marked_of (map_of slots) i (get_or slots i free_request) q ≡ map_of (set slots i q)
  unfolding marked_of
  marked_is =
      let c = changes slots i q long h in
      let old = get_or slots i free_request in
      let one = 2 ^ (i % 64) in
      let fits = part_fits slots (i / 64) in
      let fits' = part_fits (set slots i q) (i / 64) in
      let small : one ≤ 2 ^ 63 = pow_mono {j = 63} (omega arith) in
      ⊎_elim
      (λ (u : in_use q ≡ true).
      let s = once (bit_of q) one (used_bit q u) in
      ⊎_elim
      (λ (v : in_use old ≡ true). let r = once (bit_of old) one (used_bit old v) in rw (u, v) (same_is (omega arith)))
      (λ (v : in_use old ≡ false). let r = never (bit_of old) one (free_bit old v) in rw (u, v) (plus_is one (omega arith)))
      (used_or_free old))
      (λ (u : in_use q ≡ false).
      let s = never (bit_of q) one (free_bit q u) in
      ⊎_elim
      (λ (v : in_use old ≡ true). let r = once (bit_of old) one (used_bit old v) in rw (u, v) (plus_is (2 ^ 64 - one) (omega arith)))
      (λ (v : in_use old ≡ false). let r = never (bit_of old) one (free_bit old v) in rw (u, v) (same_is (omega arith)))
      (used_or_free old))
      (used_or_free q)
