-- An open aims at the lowest free slot, and at slot 0 where none is free.
-- Assumes nothing.
use Rattle.std.proofs.Common.{ℕ, ◌≡◌, refl, ◌*◌, ◌+◌, ◌-◌, ◌<◌, ◌≤◌, Bool, true, false, List, get_or, arith}
use Rattle.std.specs.Option.{unwrap_or}
use Rattle.std.proofs.lemmas.Nat.{trailing_le}
use borrow.Author.Tests.{eqb-true, eqb-false, lt-leb}
use lib.Count.{count_trailing_zeros}
use lib.Dec.{eqb}
use Rattle.common.specs.Choice.{when◌then◌else◌, but}
use Rattle.board_slots.specs.Slots.{SLOTS}
use Rattle.board_slots.specs.Map.{ALL, or_after, lowest_zero}
use Rattle.board_rules.specs.Visit.{within_board}

or_after_le : (m : List ℕ) (k after : ℕ) → k < 4 → after ≤ 256 → or_after m k after ≤ 256
or_after_le m k after h a = by (eqb (get_or m k 0) ALL)
  where
    by : (x : Bool) → (when x then after else 64 * k + count_trailing_zeros 64 (ALL - get_or m k 0)) ≤ 256
    by true = a
    by false = omega (arith, trailing_le 64 (ALL - get_or m k 0))

lowest_le : (m : List ℕ) → lowest_zero m ≤ 256
unfolding lowest_zero
lowest_le m =
    or_after_le m 0 _ (omega arith) (or_after_le m 1 _ (omega arith) (or_after_le m 2 _ (omega arith) (or_after_le m 3 256 (omega arith) (omega arith))))

pub lowest_aimed : (m : List ℕ) → unwrap_or (but SLOTS (lowest_zero m)) 0 ≡ within_board (lowest_zero m)
lowest_aimed m = by (eqb (lowest_zero m) SLOTS) refl (lowest_le m)
  where
    by : (x : Bool) → eqb (lowest_zero m) SLOTS ≡ x → lowest_zero m ≤ 256 → unwrap_or (but SLOTS (lowest_zero m)) 0 ≡ within_board (lowest_zero m)
    by true e h = rw (eqb-true (lowest_zero m) SLOTS e) refl
    by false e h = let s = eqb-false (lowest_zero m) SLOTS e in rw (e, lt-leb SLOTS (lowest_zero m) (omega arith)) refl
