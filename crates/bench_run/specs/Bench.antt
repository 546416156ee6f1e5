-- What the benchmark's function comes to: a run from the first byte on, on a fresh board that was begun over the lent words.
use Rattle.std.specs.Prelude.{ℕ, ◌≡◌, List}
use Rattle.board_slots.specs.Slots.{fresh_slots}
use Rattle.board_nodes.specs.Site.{Site, site_of, fresh_nodes, no_fences, begun_at}
use Rattle.run_rules.specs.Run.{Whole, report_of}
use Rattle.run_play.specs.Comes.{whole_of}

-- 2 to the power of 40 records.
abbrev pub ENOUGH : ℕ
ENOUGH = 1099511627776

-- A fresh board, begun over the lent words: with 0 words or more than 4,096 they stay as they are.
abbrev pub started : List ℕ → Site
started words = site_of (begun_at (record { slots = fresh_slots; nodes = fresh_nodes; fenced = no_fences; words = words }))

-- The whole run of the schedule.
abbrev pub bench_of : List ℕ → List ℕ → List ℕ → Whole
bench_of words bytes report = whole_of (started words) bytes 0 ENOUGH report

-- The result, the words and the report afterwards are those of that run.
pub record Benched (words bytes report : List ℕ) (r : ℕ) (words' report' : List ℕ) : Type 0 where
  pub verbs : r ≡ (bench_of words bytes report).verbs
  pub words_after : words' ≡ (bench_of words bytes report).words
  pub report_after : report' ≡ report_of report (bench_of words bytes report)
