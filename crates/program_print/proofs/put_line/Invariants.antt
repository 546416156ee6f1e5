use Rattle.std.proofs.Common.{◌≤◌, length, ◌*◌}
use Rattle.std.specs.Iterator.Adapters.{rev_source}
use Rattle.std.specs.Slice.Iter.{iter_rest}
use Rattle.program_print.proofs.put_line.Given as goal

-- Each number that is left has its 21 bytes.
abbrev pub invariant-loop-number : goal.invariant-loop-number
invariant-loop-number l =
    (l.from ≤ 105) ×
    (21 * length (iter_rest (rev_source l.number-iterator)) ≤ l.from)
