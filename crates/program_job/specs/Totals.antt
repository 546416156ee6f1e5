-- What runs came to together, as the last line tells it.
use Rattle.std.specs.Prelude.{ℕ, ◌+◌, ◌%◌, ◌^◌}
use Rattle.run_play.specs.declared.Ran.{Ran}
use Rattle.program_job.specs.declared.Totals.{Totals}

-- A sum in 64 bits, modulo 2 ^ 64. Rule 8.2 knows no such bound, and no program plays enough to meet it.
abbrev pub within_64 : ℕ → ℕ → ℕ
within_64 a b = (a + b) % 2 ^ 64

-- Rule 8.2: With what one more run came to: records, bytes and verbs, each for itself.
abbrev pub and_of : Totals → Ran → Totals
and_of t ran = record {
  records = within_64 t.records ran.records;
  bytes = within_64 t.bytes ran.bytes;
  verbs = within_64 t.verbs ran.verbs;
}
