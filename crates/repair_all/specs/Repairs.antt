-- What the contract of a repair says: the board, the count, the words and the log afterwards are those of as many passes as the log has room for.
use Rattle.std.specs.Prelude.{ℕ, ◌/◌, ◌≡◌, List, length}
use Rattle.board_slots.specs.declared.Board.{Board}
use Rattle.board_nodes.specs.Leaves.{lent_to}
use Rattle.repair_rules.specs.Repair.{Tended, passes_of}
use Rattle.repair_rules.specs.Log.{done_in, PASS, log_of}
use Rattle.repair_all.specs.declared.Repaired.{Repaired}

-- The passes that the definition gives for what was passed and lent.
abbrev pub tended_of : Board → List ℕ → List ℕ → Tended
tended_of b words log = passes_of (length log / PASS) (lent_to b words)

pub record Repairs (b : Board) (words log : List ℕ) (r : Repaired) (words' log' : List ℕ) : Type 0 where
  pub slots_after : r.board.slots ≡ (tended_of b words log).site.slots
  pub nodes_after : r.board.nodes ≡ (tended_of b words log).site.nodes
  pub fenced_after : r.board.fenced ≡ (tended_of b words log).site.fenced
  pub cares_made : r.cares ≡ length (tended_of b words log).cares
  pub is_done : r.done ≡ done_in (length log / PASS) (lent_to b words)
  pub words_after : words' ≡ (tended_of b words log).site.words
  pub log_after : log' ≡ log_of log (tended_of b words log).cares
