-- While it goes on, the whole run is what has been played so far and the run from here (`Playing`). The measure is what is left of the allowance.
-- Assumes nothing.
use Rattle.std.specs.Prelude.{◌-◌}
use Rattle.board_nodes.specs.Leaves.{lent_to}
use Rattle.run_play.proofs.Playing.{Playing}
use Rattle.run_play.proofs.run.Given as goal

abbrev pub invariant-loop-ending : goal.invariant-loop-ending
invariant-loop-ending l =
    Playing (lent_to l.fn.b l.fn.words) l.s l.at l.allowance l.fn.report (lent_to l.cur l.words) l.report l.map.parts l.place l.records l.verbs

abbrev pub decreases-loop-ending : goal.decreases-loop-ending
decreases-loop-ending l = l.allowance - l.records
