-- What the writer answers within this crate, in the numbers of rule 5.1.
use Rattle.std.specs.Prelude.{ℕ, Result, Ok, Err}
use Rattle.schedule_writing.specs.declared.Placed.{Placed}
use Rattle.schedule_writing.specs.declared.NotWritten.{NotWritten}
use Rattle.schedule_writing.specs.declared.NotWritten.TheVariants as not_written
use Rattle.schedule_writer.specs.declared.Refused.{Refused}
use Rattle.schedule_writer.specs.declared.Refused.TheVariants.{NoKind, TooLarge, NoRoom}

-- Rules 5.1 and 6.4: The number of a refusal.
abbrev pub refused_number : Refused → ℕ
refused_number NoKind = 8
refused_number TooLarge = 18
refused_number NoRoom = 12

-- Rule 6.4: Number and place of an answer at a place: a refusal leaves the place.
abbrev pub told_at : ℕ → Result ℕ Refused → Placed
told_at at (Ok place) = record { number = 0; place = place }
told_at at (Err refused) = record { number = refused_number refused; place = at }

-- Rule 6.4: Why a call was not written. The kind of a call is always known: the first row is never reached, and stands for no rule.
abbrev pub not_written_of : Refused → NotWritten
not_written_of NoKind = not_written.NoRoom
not_written_of TooLarge = not_written.TooLarge
not_written_of NoRoom = not_written.NoRoom
