-- An entry's bytes give its parts back: the value's eight bytes, low first, are read back as the library reads them.
-- Assumes nothing.
use mathlib.Core.Path.{refl}
use native.Mathlib.Nat.{div-one}
use Rattle.std.proofs.lemmas.Nat.{from_le_bytes-to_le_bytes_8}
use Rattle.run_entry.specs.Entry.{entry_of}
use Rattle.run_entry.specs.Promises.{EntryReadsBack}

pub entry_reads_back : EntryReadsBack
unfolding entry_of
entry_reads_back d h =
    record {
      long = refl;
      number = refl;
      outcome = refl;
      slot = refl;
      none = refl;
      value = rw (div-one d.value) (from_le_bytes-to_le_bytes_8 d.value h);
    }
