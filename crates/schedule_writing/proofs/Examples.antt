-- The table holds: the definitions compute each row.
-- Assumes nothing.
use mathlib.Core.Path.{refl}
use Rattle.schedule_kinds.specs.Kinds.{widths_of, body_of}
use Rattle.schedule_writing.specs.Writing.{bytes_of, fields_of, record_of, length_of, too_large, writing_of}
use Rattle.schedule_writing.specs.Examples.{RowsHold}

pub rows_hold : RowsHold
unfolding writing_of record_of length_of fields_of bytes_of too_large body_of widths_of
rows_hold = refl
