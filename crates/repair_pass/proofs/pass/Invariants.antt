-- While it goes on, the whole pass is what has been done so far and the pass from this slot on (`Passing`).
-- Assumes nothing.
use Rattle.board_nodes.specs.Leaves.{lent_to}
use Rattle.repair_pass.proofs.Passing.{Passing}
use Rattle.repair_pass.proofs.pass.Given as goal

abbrev pub invariant-loop-n : goal.invariant-loop-n
invariant-loop-n l =
    Passing (lent_to l.fn.b l.fn.words) l.fn.log l.at (lent_to l.b l.words) l.log l.place l.cares l.progress l.n
