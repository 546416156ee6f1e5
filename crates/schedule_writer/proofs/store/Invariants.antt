-- What is stored and what is still to be stored are together the number's bytes.
-- Assumes nothing.
use Rattle.std.specs.Prelude.{◌≡◌, ◌-◌, ◌++◌, take}
use Rattle.schedule_writing.specs.Writing.{bytes_of}
use Rattle.schedule_writer.proofs.store.Given as goal

abbrev pub invariant-loop-byte : goal.invariant-loop-byte
invariant-loop-byte l =
    take l.byte-index l.field ++ bytes_of (l.byte-index-end - l.byte-index) l.rest ≡ bytes_of l.byte-index-end l.fn.n
