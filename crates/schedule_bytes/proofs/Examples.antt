-- The table holds: the definitions compute each row.
-- Assumes nothing.
use mathlib.Core.Path.{refl}
use Rattle.schedule_kinds.specs.Kinds.{widths_of, body_of, call_of}
use Rattle.schedule_bytes.specs.Schedule.{number_at, numbers_at, call_at, next_of}
use Rattle.schedule_bytes.specs.Examples.{RowsHold}

pub rows_hold : RowsHold
unfolding next_of call_at call_of numbers_at number_at body_of widths_of
rows_hold = refl
