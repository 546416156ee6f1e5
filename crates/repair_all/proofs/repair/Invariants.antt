-- While it goes on, all passes are those made so far and the passes from here (`Repairing`), and it is not done.
-- Assumes nothing.
use Rattle.std.proofs.Common.{◌≡◌, false}
use Rattle.board_nodes.specs.Leaves.{lent_to}
use Rattle.repair_all.proofs.Repairing.{Repairing}
use Rattle.repair_all.proofs.repair.Given as goal

abbrev pub invariant-loop : goal.invariant-loop
invariant-loop l = Repairing (lent_to l.fn.b l.fn.words) l.fn.log (lent_to l.b l.words) l.log l.cares l.counter × (l.done ≡ false)
