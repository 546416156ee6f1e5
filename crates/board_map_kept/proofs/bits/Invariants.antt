-- After j turns it has the bits of the first j slots.
-- Assumes nothing.
use Rattle.std.specs.Prelude.{◌≡◌, take}
use Rattle.board_slots.specs.Map.{bits_of}
use Rattle.board_map_kept.proofs.bits.Given as goal

abbrev pub invariant-loop-j : goal.invariant-loop-j
invariant-loop-j l = l.bits ≡ bits_of (take l.j l.slots)
