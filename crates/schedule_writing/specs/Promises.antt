-- What is promised of writing a schedule and reading it. Statements only: proofs/ has why each holds.
use Rattle.std.specs.Prelude.{ℕ, ◌+◌, ◌<◌, ◌≤◌, ◌^◌, ◌≡◌, ◌↔◌, List, [], ◌∷◌, ◌++◌, length, get_or, drop, Ok, Err}
use Rattle.board_call.specs.declared.AnyCall.{AnyCall}
use Rattle.schedule_kinds.specs.Kinds.{widths_of, numbers_of, parts_of}
use Rattle.schedule_kinds.specs.declared.Parts.{Parts}
use Rattle.schedule_bytes.specs.Schedule.{byte_at, next_of, calls_from, place_behind}
use Rattle.schedule_bytes.specs.declared.Next.TheVariants.{Record, End}
use Rattle.schedule_writing.specs.Writing.{record_of, length_of, writing_of, written_of, buffer_of, number_of}
use Rattle.schedule_writing.specs.Boundary.{placed_of, standing_at, stands_as}
use Rattle.schedule_writing.specs.declared.NotWritten.TheVariants.{TooLarge, NoRoom}

-- Every byte is below 256: every slice of bytes is such a list.
abbrev pub Bytes : List ℕ → Type 0
Bytes s = (i : ℕ) → i < length s → byte_at s i < 256

-- What was written is read back: at that place stands the same call, with the same next place. For every buffer, place and call.
abbrev pub WrittenIsRead : Type 0
WrittenIsRead = (s : List ℕ) (at n : ℕ) (c : AnyCall) → written_of s at c ≡ Ok n → next_of (buffer_of s at c) at ≡ Record c n

-- Writing what was read gives the same bytes: the call that stands at a place, written there, leaves every byte as it is, with the same next
-- place;
abbrev pub ReadIsWritten : Type 0
ReadIsWritten =
    (s : List ℕ) (at n : ℕ) (c : AnyCall) →
    Bytes s →
    next_of s at ≡ Record c n →
    (written_of s at c ≡ Ok n) × (buffer_of s at c ≡ s)

-- and wherever it is written, those are its bytes: what stands in the schedule from that place on is the call's record and then what follows.
abbrev pub ReadIsItsRecord : Type 0
ReadIsItsRecord =
    (s : List ℕ) (at n : ℕ) (c : AnyCall) →
    Bytes s →
    next_of s at ≡ Record c n →
    drop at s ≡ record_of (parts_of c) ++ drop n s

-- A call is refused with 18 exactly if a number of it is too large for its field, with 12 exactly if none is and its record would run past
-- the buffer's end, wherever the place is; and accepted exactly if it is neither, with the place behind its record.
abbrev pub FitsIts : AnyCall → Type 0
FitsIts c = (i : ℕ) → i < 3 → get_or (numbers_of (parts_of c)) i 0 < 256 ^ get_or (widths_of (parts_of c).kind) i 0

abbrev pub TooLargeExactly : Type 0
TooLargeExactly = (s : List ℕ) (at : ℕ) (c : AnyCall) → (written_of s at c ≡ Err TooLarge) ↔ (FitsIts c → ⊥)

abbrev pub NoRoomExactly : Type 0
NoRoomExactly =
    (s : List ℕ) (at : ℕ) (c : AnyCall) → (written_of s at c ≡ Err NoRoom) ↔ (FitsIts c × (length s < at + length_of (parts_of c)))

abbrev pub WrittenExactly : Type 0
WrittenExactly =
    (s : List ℕ) (at n : ℕ) (c : AnyCall) →
    (written_of s at c ≡ Ok n) ↔ (FitsIts c × (at + length_of (parts_of c) ≤ length s) × (n ≡ at + length_of (parts_of c)))

-- A refused call leaves every byte. A written one leaves as many bytes, and each outside its record.
abbrev pub RefusedLeavesAll : Type 0
RefusedLeavesAll = (s : List ℕ) (at : ℕ) (c : AnyCall) → 0 < number_of (written_of s at c) → buffer_of s at c ≡ s

pub record OutsideStays (s : List ℕ) (at n : ℕ) (s' : List ℕ) : Type 0 where
  pub as_long : length s' ≡ length s
  pub before : (i : ℕ) → i < at → byte_at s' i ≡ byte_at s i
  pub behind : (i : ℕ) → n ≤ i → byte_at s' i ≡ byte_at s i

abbrev pub WrittenLeavesTheRest : Type 0
WrittenLeavesTheRest = (s : List ℕ) (at n : ℕ) (c : AnyCall) → written_of s at c ≡ Ok n → OutsideStays s at n (buffer_of s at c)

-- Calls written one after the other, each at the place that the last one gave: they lead from a buffer and a place to a buffer and a place.
abbrev pub Leads : List AnyCall → List ℕ → ℕ → List ℕ → ℕ → Type 0
Leads [] s at s' at' = (s' ≡ s) × (at' ≡ at)
Leads (c ∷ cs) s at s' at' = (n : ℕ) × (written_of s at c ≡ Ok n) × Leads cs (buffer_of s at c) n s' at'

-- A list of calls written so is read as that list, from the first place to the last; and where the last place is the buffer's end, the end
-- stands there, so that the whole buffer from the first place on is their schedule.
pub record ReadAs (cs : List AnyCall) (s' : List ℕ) (at at' : ℕ) : Type 0 where
  pub calls : calls_from (length cs) s' at ≡ cs
  pub place : place_behind (length cs) s' at ≡ at'
  pub whole : at' ≡ length s' → next_of s' at' ≡ End

abbrev pub ScheduleIsRead : Type 0
ScheduleIsRead = (cs : List AnyCall) (s : List ℕ) (at : ℕ) (s' : List ℕ) (at' : ℕ) → Leads cs s at s' at' → ReadAs cs s' at at'

-- A schedule that reads to its end, without a cut record or an unknown kind, is what its calls write: into any buffer as long as it is.
abbrev pub ScheduleIsWritten : Type 0
ScheduleIsWritten =
    (n : ℕ) (s t : List ℕ) →
    Bytes s →
    length t ≡ length s →
    next_of s (place_behind n s 0) ≡ End →
    Leads (calls_from n s 0) t 0 s (length s)

-- For a caller in C, who has a kind and three numbers. What was written is read back as that kind with those numbers;
abbrev pub NumbersAreRead : Type 0
NumbersAreRead =
    (s : List ℕ) (at : ℕ) (p : Parts) →
    (writing_of s at p).number ≡ 0 →
    standing_at (writing_of s at p).bytes at ≡ stands_as p (writing_of s at p).place

-- and what was read is written back with the same bytes and the same next place.
abbrev pub NumbersAreWritten : Type 0
NumbersAreWritten =
    (s : List ℕ) (at n : ℕ) (p : Parts) →
    Bytes s →
    0 < p.kind →
    standing_at s at ≡ stands_as p n →
    (placed_of (writing_of s at p) ≡ record { number = 0; place = n }) × ((writing_of s at p).bytes ≡ s)

-- Whatever is refused leaves buffer and place.
abbrev pub RefusedStays : Type 0
RefusedStays =
    (s : List ℕ) (at : ℕ) (p : Parts) → 0 < (writing_of s at p).number → ((writing_of s at p).bytes ≡ s) × ((writing_of s at p).place ≡ at)
