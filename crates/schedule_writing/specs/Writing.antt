-- A call as the bytes of its record, and the record written at a place of a lent buffer.
use Rattle.std.specs.Prelude.{ℕ, zero, suc, ◌+◌, ◌/◌, ◌%◌, ◌^◌, Bool, true, false, List, [], ◌∷◌, ◌++◌, eqb, ltb, leb, length, Result, Ok, Err}
use Rattle.std.proofs.lemmas.List.Edits.{sets}
use Rattle.common.specs.Choice.{when◌then◌else◌}
use Rattle.board_call.specs.declared.AnyCall.{AnyCall}
use Rattle.schedule_kinds.specs.Kinds.{widths_of, body_of, numbers_of, parts_of}
use Rattle.schedule_kinds.specs.declared.Parts.{Parts}
use Rattle.schedule_writing.specs.declared.NotWritten.{NotWritten}
use Rattle.schedule_writing.specs.declared.NotWritten.TheVariants.{TooLarge, NoRoom}

-- Rule 6.4: A number in so many bytes, low first,
unfoldable pub bytes_of : ℕ → ℕ → List ℕ
bytes_of zero n = []
bytes_of (suc w) n = n % 256 ∷ bytes_of w (n / 256)

-- and numbers in fields of these widths, one behind the other.
unfoldable pub fields_of : List ℕ → List ℕ → List ℕ
fields_of [] ns = []
fields_of (w ∷ ws) [] = []
fields_of (w ∷ ws) (n ∷ ns) = bytes_of w n ++ fields_of ws ns

-- Rule 6.4: The record of a call: its kind, then its numbers in the kind's fields;
unfoldable pub record_of : Parts → List ℕ
record_of p = p.kind ∷ fields_of (widths_of p.kind) (numbers_of p)

-- how long it is;
unfoldable pub length_of : Parts → ℕ
length_of p = 1 + body_of p.kind

-- and whether some number is too large for its field. A field of no bytes holds 0 alone.
unfoldable pub too_large : List ℕ → List ℕ → Bool
too_large [] ns = false
too_large (w ∷ ws) [] = false
too_large (w ∷ ws) (n ∷ ns) = when leb (256 ^ w) n then true else too_large ws ns

-- What writing comes to: the number of rule 5.1, the next free place, and the buffer's bytes.
pub record Writing : Type 0 where
  pub number : ℕ
  pub place : ℕ
  pub bytes : List ℕ

-- A refusal leaves buffer and place.
abbrev pub refused : ℕ → List ℕ → ℕ → Writing
refused n s at = record { number = n; place = at; bytes = s }

-- Rule 6.4: A kind with its numbers, written at a place of a buffer: an unknown kind, 8; a number too large for its field, 18; no room for the
-- record, or a place past the end, 12; else the record stands there, and the next free place is the one behind it.
unfoldable pub writing_of : List ℕ → ℕ → Parts → Writing
writing_of s at p =
    when eqb (body_of p.kind) 0 then refused 8 s at else
    when too_large (widths_of p.kind) (numbers_of p) then refused 18 s at else
    when ltb (length s) (at + length_of p) then refused 12 s at else
    record { number = 0; place = at + length_of p; bytes = sets s at (record_of p) }

-- Rule 6.4: What became of a call that was to be written: the next free place, or why it was refused.
abbrev pub Written : Type 0
Written = Result ℕ NotWritten

-- Rule 6.4: What became of it, by its number. (A call's kind is always known.)
abbrev pub became_of : Writing → Written
became_of w =
    when eqb w.number 0 then Ok w.place else
    when eqb w.number 18 then Err TooLarge else Err NoRoom

-- Rule 6.4: A call, written: what became of it,
abbrev pub written_of : List ℕ → ℕ → AnyCall → Written
written_of s at c = became_of (writing_of s at (parts_of c))

-- and the buffer afterwards.
abbrev pub buffer_of : List ℕ → ℕ → AnyCall → List ℕ
buffer_of s at c = (writing_of s at (parts_of c)).bytes

-- Rule 5.1: The number of each answer.
abbrev pub number_of : Written → ℕ
number_of (Ok place) = 0
number_of (Err TooLarge) = 18
number_of (Err NoRoom) = 12
