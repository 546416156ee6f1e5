-- Runs one after the other on a board that was begun.
use Rattle.std.specs.Prelude.{ℕ, ◌*◌, List, [], ◌++◌, take}
use Rattle.board_slots.specs.declared.Board.{Board}
use Rattle.board_call.specs.declared.AnyCall.{AnyCall}
use Rattle.board_nodes.specs.Site.{Site}
use Rattle.board_nodes.specs.Leaves.{lent_to}
use Rattle.run_entry.specs.Entry.{ENTRY}
use Rattle.run_play.specs.Comes.{Comes}
use Rattle.run_play.specs.declared.Ran.{Ran}
use Rattle.history_nodes.specs.History.{fresh_site}
use Rattle.schedule_bytes.specs.Schedule.{calls_from}

-- What a board keeps of a site; the words are lent.
abbrev pub board_of : Site → Board
board_of t = record { slots = t.slots; nodes = t.nodes; fenced = t.fenced }

-- A fresh board of n words that runs have played, and all entries that they reported: each run has its own schedule, place, allowance and
-- report, takes up the board and the words as the run before left them, and comes to what the contract of `run_play::run` says.
pub data Runs (n : ℕ) : Site → List AnyCall → List ℕ → Type 0 where
  no_run : Runs n (fresh_site n) [] []
  one_more :
      {t : Site} {calls : List AnyCall} {entries : List ℕ} →
      Runs n t calls entries →
      (bytes : List ℕ) (at allowance : ℕ) (report : List ℕ) (r : Ran) (words' report' : List ℕ) →
      Comes (board_of t) t.words bytes at allowance report r words' report' →
      Runs n (lent_to r.board words') (calls ++ calls_from r.records bytes at) (entries ++ take (ENTRY * r.records) report')
