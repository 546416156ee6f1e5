-- A turn adds one digit above the bits of the slots before, for which there is room.
-- Assumes nothing.
use Rattle.std.proofs.Common.{◌^◌, ◌<◌, ◌≤◌, arith, refl, sym}
use Rattle.std.proofs.Math.Pow.{pow_mono}
use Rattle.board_slots.specs.Map.{bits_of}
use Rattle.board_slots.proofs.Bits.{more_used, more_free, bits_take_lt}
use Rattle.board_map_kept.proofs.bits.Goals as goal
use Rattle.board_map_kept.proofs.bits.Goals.{then-in_use, else-in_use}

pub loop-j-init : goal.loop-j-init
unfolding bits_of
loop-j-init c = refl

pub overflow_add-bits : goal.overflow_add-bits
overflow_add-bits c =
    let one : 2 ^ c.loop-j.j ≤ 2 ^ 63 = pow_mono {j = 63} (omega arith) in
    let below : c.loop-j.bits < 2 ^ c.loop-j.j = rw c.loop-j.invariant (bits_take_lt c.args.slots.now c.loop-j.j) in
    omega arith

pub loop-j-preserved : goal.loop-j-preserved
loop-j-preserved c =
    let one : 2 ^ c.loop-j.j ≤ 2 ^ 63 = pow_mono {j = 63} (omega arith) in
    elim c.if-in_use.branch [
      | then-in_use w ↦ let m = more_used c.args.slots.now c.loop-j.j c.loop-j-test.true (sym w.if-in_use.ensures) in omega arith
      | else-in_use w ↦ let m = more_free c.args.slots.now c.loop-j.j c.loop-j-test.true (sym w.if-in_use.ensures) in omega arith
    ]
