-- All slots are in use exactly where none is free: going along the list, the first free slot is the first that is not counted.
-- Assumes nothing.
use Prim.Native.Nat.{ℕ, zero, suc, ◌≤◌}
use mathlib.Core.Path.{◌≡◌, refl}
use mathlib.Core.Bool.{Bool, true, false}
use mathlib.Core.List.{List, [], ◌∷◌}
use native.Mathlib.Omega.{arith}
use borrow.Author.Tests.{leb-true, leb-false, eq-eqb, ne_eqb}
use lib.Dec.{eqb, leb}
use lib.ListN.{length}
use Rattle.common.specs.Choice.{when◌then◌else◌}
use Rattle.agent_request.specs.Request.{in_use}
use Rattle.agent_request.specs.declared.Request.{Request}
use Rattle.board_slots.specs.Slots.{lowest_free, used_slots}
use Rattle.board_slots.proofs.Bits.{lowest_le}

used_le : (l : List Request) → used_slots l ≤ length l
unfolding used_slots
used_le [] = omega arith
used_le (q ∷ qs) = let i = used_le qs in by (in_use q) i
  where
    by : (x : Bool) → used_slots qs ≤ length qs → (when x then suc (used_slots qs) else used_slots qs) ≤ suc (length qs)
    by true i = omega arith
    by false i = omega arith

-- a slot in front of others: whether it is in use, and what is known of the others
front_all : (x : Bool) (low used n : ℕ) → used ≤ n → low ≤ n → (low ≡ n → used ≡ n) → (when x then suc low else zero) ≡ suc n → (when x then suc used else used) ≡ suc n
front_all true low used n u v i e = let j = i (omega arith) in omega arith
front_all false low used n u v i e = omega arith

front_none : (x : Bool) (low used n : ℕ) → used ≤ n → low ≤ n → (used ≡ n → low ≡ n) → (when x then suc used else used) ≡ suc n → (when x then suc low else zero) ≡ suc n
front_none true low used n u v i e = let j = i (omega arith) in omega arith
front_none false low used n u v i e = omega arith

all_of : (l : List Request) → lowest_free l ≡ length l → used_slots l ≡ length l
unfolding lowest_free used_slots
all_of [] e = refl
all_of (q ∷ qs) e = front_all (in_use q) (lowest_free qs) (used_slots qs) (length qs) (used_le qs) (lowest_le qs) (all_of qs) e

none_of : (l : List Request) → used_slots l ≡ length l → lowest_free l ≡ length l
unfolding lowest_free used_slots
none_of [] e = refl
none_of (q ∷ qs) e = front_none (in_use q) (lowest_free qs) (used_slots qs) (length qs) (used_le qs) (lowest_le qs) (none_of qs) e

-- the two tests are one
pub none_free_is_all_used : (l : List Request) (n : ℕ) → length l ≡ n → leb n (lowest_free l) ≡ eqb (used_slots l) n
none_free_is_all_used l n long = by (leb n (lowest_free l)) refl
  where
    by : (x : Bool) → leb n (lowest_free l) ≡ x → leb n (lowest_free l) ≡ eqb (used_slots l) n
    by true e =
        let h = leb-true n (lowest_free l) e in
        let low = lowest_le l in
        let u = all_of l (omega arith) in
        rw (e, eq-eqb (used_slots l) n (omega arith)) refl
    by false e =
        let h = leb-false n (lowest_free l) e in
        rw (e, ne_eqb (used_slots l) n (λ u. let f = none_of l (omega arith) in omega arith)) refl
