-- What a run's contract says: the result, the words and the report afterwards are those of the definition.
use Rattle.std.specs.Prelude.{ℕ, ◌-◌, ◌≡◌, List, length}
use Rattle.board_slots.specs.declared.Board.{Board}
use Rattle.board_nodes.specs.Site.{Site}
use Rattle.board_nodes.specs.Leaves.{lent_to}
use Rattle.run_rules.specs.Endings.{ending_number}
use Rattle.run_rules.specs.Run.{Whole, run_of, report_of}
use Rattle.run_play.specs.declared.Ran.{Ran}

-- The run that the definition gives for what was lent and passed.
abbrev pub whole_of : Site → List ℕ → ℕ → ℕ → List ℕ → Whole
whole_of t bytes at allowance report = run_of allowance (length report) bytes at t

pub record Comes (b : Board) (words bytes : List ℕ) (at allowance : ℕ) (report : List ℕ) (r : Ran) (words' report' : List ℕ) : Type 0 where
  pub ending : ending_number r.ending ≡ (whole_of (lent_to b words) bytes at allowance report).ending
  pub records : r.records ≡ (whole_of (lent_to b words) bytes at allowance report).records
  pub taken : r.bytes ≡ (whole_of (lent_to b words) bytes at allowance report).place - at
  pub verbs : r.verbs ≡ (whole_of (lent_to b words) bytes at allowance report).verbs
  pub slots_after : r.board.slots ≡ (whole_of (lent_to b words) bytes at allowance report).slots
  pub nodes_after : r.board.nodes ≡ (whole_of (lent_to b words) bytes at allowance report).nodes
  pub fenced_after : r.board.fenced ≡ (whole_of (lent_to b words) bytes at allowance report).fenced
  pub words_after : words' ≡ (whole_of (lent_to b words) bytes at allowance report).words
  pub report_after : report' ≡ report_of report (whole_of (lent_to b words) bytes at allowance report)
