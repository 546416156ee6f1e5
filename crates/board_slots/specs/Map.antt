-- A mirror of `Slots`: the map of four 64-bit numbers, a one for each slot in use, slot 0 lowest in the first of them. Nothing here needs belief:
-- `MapFindsLowest`, `MapCountsUsed` and `MarkFollowsStore` (Promises) say that it tells the lowest free slot and the slots in use, and stays so.
use Rattle.std.specs.Prelude.{ℕ, zero, ◌+◌, ◌*◌, ◌-◌, ◌^◌, ◌/◌, ◌%◌, List, [], ◌∷◌, eqb, take, drop, get_or, set}
use Rattle.std.specs.Int.Count.{count_trailing_zeros, ones}
use Rattle.common.specs.Choice.{when◌then◌else◌}
use Rattle.agent_request.specs.declared.Request.{Request}
use Rattle.agent_request.specs.Request.{in_use}

-- A slot's bit.
abbrev pub bit_of : Request → ℕ
bit_of q = when in_use q then 1 else 0

-- The bits of some slots as a number, the first slot's lowest.
unfoldable pub bits_of : List Request → ℕ
bits_of [] = zero
bits_of (q ∷ qs) = bits_of qs * 2 + bit_of q

-- The part of the map for the 64 slots from 64 k on.
abbrev pub part_of : ℕ → List Request → ℕ
part_of k slots = bits_of (take 64 (drop (64 * k) slots))

abbrev pub map_of : List Request → List ℕ
map_of slots = part_of 0 slots ∷ part_of 1 slots ∷ part_of 2 slots ∷ part_of 3 slots ∷ []

-- All 64 bits.
abbrev pub ALL : ℕ
ALL = 2 ^ 64 - 1

-- The lowest zero of the part k, and what is said of the parts after it where it has none.
abbrev pub or_after : List ℕ → ℕ → ℕ → ℕ
or_after m k after = when eqb (get_or m k 0) ALL then after else 64 * k + count_trailing_zeros 64 (ALL - get_or m k 0)

-- The place of the lowest zero of a map; 256 where there is none.
unfoldable pub lowest_zero : List ℕ → ℕ
lowest_zero m = or_after m 0 (or_after m 1 (or_after m 2 (or_after m 3 256)))

-- How many ones a map has.
abbrev pub ones_of : List ℕ → ℕ
ones_of m = ones (get_or m 0 0) + ones (get_or m 1 0) + ones (get_or m 2 0) + ones (get_or m 3 0)

-- A map with d added to the part of the slot i, modulo 2^64.
abbrev pub plus : List ℕ → ℕ → ℕ → List ℕ
plus m i d = set m (i / 64) ((get_or m (i / 64) 0 + d) % 2 ^ 64)

-- A map after the request of the slot i changed: its bit is set, cleared or left.
unfoldable pub marked_of : List ℕ → ℕ → Request → Request → List ℕ
marked_of m i before after =
    when in_use after
    then (when in_use before then m else plus m i (2 ^ (i % 64)))
    else (when in_use before then plus m i (2 ^ 64 - 2 ^ (i % 64)) else m)
