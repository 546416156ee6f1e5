-- Schedules in bytes: one byte of kind, then a body whose length the kind fixes.
use Rattle.std.specs.Prelude.{ℕ, zero, suc, ◌+◌, ◌*◌, ◌-◌, List, [], ◌∷◌, eqb, ltb, leb, length, get_or}
use Rattle.common.specs.Choice.{when◌then◌else◌}
use Rattle.board_call.specs.declared.AnyCall.{AnyCall}
use Rattle.schedule_kinds.specs.Kinds.{widths_of, body_of, parts_from, call_of}
use Rattle.schedule_bytes.specs.declared.Next.{Next}
use Rattle.schedule_bytes.specs.declared.Next.TheVariants.{Record, End, Unknown, Cut}

-- Rule 6.1: The byte at a place,
abbrev pub byte_at : List ℕ → ℕ → ℕ
byte_at s i = get_or s i 0

-- the number in so many bytes from a place on, low first,
unfoldable pub number_at : ℕ → List ℕ → ℕ → ℕ
number_at zero s i = 0
number_at (suc w) s i = byte_at s i + number_at w s (i + 1) * 256

-- and the numbers in fields of these widths, one behind the other.
unfoldable pub numbers_at : List ℕ → List ℕ → ℕ → List ℕ
numbers_at [] s i = []
numbers_at (w ∷ ws) s i = number_at w s i ∷ numbers_at ws s (i + w)

-- Rule 6.1: The call of a known kind whose body begins at a place: the kind with the numbers in its fields.
unfoldable pub call_at : ℕ → List ℕ → ℕ → AnyCall
call_at k s i = call_of (parts_from k (numbers_at (widths_of k) s i))

-- Rule 6.2: What stands at a place: at or past the end, the end; a kind with no body, unknown; a body that runs past the end, cut; else the record,
-- with the place after it.
unfoldable pub next_of : List ℕ → ℕ → Next
next_of s at =
    when leb (length s) at then End else
    when eqb (body_of (byte_at s at)) 0 then Unknown else
    when ltb (length s - (at + 1)) (body_of (byte_at s at)) then Cut else
    Record (call_at (byte_at s at) s (at + 1)) (at + 1 + body_of (byte_at s at))

-- The first n calls from a place on: they stop where no whole record stands.
abbrev pub call_then : Next → (ℕ → List AnyCall) → List AnyCall
call_then (Record c next) rest = c ∷ rest next
call_then End rest = []
call_then Unknown rest = []
call_then Cut rest = []

unfoldable pub calls_from : ℕ → List ℕ → ℕ → List AnyCall
calls_from zero s at = []
calls_from (suc n) s at = call_then (next_of s at) (calls_from n s)

-- The place behind them.
abbrev pub place_then : Next → ℕ → (ℕ → ℕ) → ℕ
place_then (Record c next) at rest = rest next
place_then End at rest = at
place_then Unknown at rest = at
place_then Cut at rest = at

unfoldable pub place_behind : ℕ → List ℕ → ℕ → ℕ
place_behind zero s at = at
place_behind (suc n) s at = place_then (next_of s at) at (place_behind n s)
