-- What the contract of a pass says: the board, the counts, the words and the log afterwards are those of the definition.
use Rattle.std.specs.Prelude.{ℕ, ◌≡◌, List, length}
use Rattle.board_slots.specs.declared.Board.{Board}
use Rattle.board_nodes.specs.Leaves.{lent_to}
use Rattle.repair_rules.specs.Repair.{pass_of, some_bring_on}
use Rattle.repair_rules.specs.Log.{logged_at}
use Rattle.repair_pass.specs.declared.PassMade.{PassMade}

pub record PassLeaves (b : Board) (words log : List ℕ) (at : ℕ) (r : PassMade) (words' log' : List ℕ) : Type 0 where
  pub slots_after : r.board.slots ≡ (pass_of (lent_to b words)).site.slots
  pub nodes_after : r.board.nodes ≡ (pass_of (lent_to b words)).site.nodes
  pub fenced_after : r.board.fenced ≡ (pass_of (lent_to b words)).site.fenced
  pub cares_made : r.cares ≡ length (pass_of (lent_to b words)).cares
  pub brings : r.progress ≡ some_bring_on (pass_of (lent_to b words)).cares
  pub words_after : words' ≡ (pass_of (lent_to b words)).site.words
  pub log_after : log' ≡ logged_at log at (pass_of (lent_to b words)).cares
