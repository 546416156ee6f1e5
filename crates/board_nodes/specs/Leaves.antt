-- What the contract of a call on a board by value says: the board, the answer and the words afterwards are those of the definition.
use Rattle.std.specs.Prelude.{ℕ, ◌≡◌, List}
use Rattle.board_slots.specs.declared.Board.{Board}
use Rattle.board_rules.specs.declared.Played.{Played}
use Rattle.board_nodes.specs.Site.{Site, SiteDone}

-- A board with the words lent to it.
abbrev pub lent_to : Board → List ℕ → Site
lent_to b ws = record { slots = b.slots; nodes = b.nodes; fenced = b.fenced; words = ws }

pub record Leaves (d : SiteDone) (r : Played) (words' : List ℕ) : Type 0 where
  pub slots : r.board.slots ≡ d.slots
  pub nodes : r.board.nodes ≡ d.nodes
  pub fenced : r.board.fenced ≡ d.fenced
  pub answer : r.answer ≡ d.answer
  pub words : words' ≡ d.words
