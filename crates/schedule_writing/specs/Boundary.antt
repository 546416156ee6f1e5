-- What a caller in C gets of reading and writing a schedule: plain numbers.
use Rattle.std.specs.Prelude.{ℕ, List}
use Rattle.schedule_kinds.specs.Kinds.{parts_of}
use Rattle.schedule_kinds.specs.declared.Parts.{Parts}
use Rattle.schedule_bytes.specs.Schedule.{next_of}
use Rattle.schedule_bytes.specs.declared.Next.{Next}
use Rattle.schedule_bytes.specs.declared.Next.TheVariants as next
use Rattle.schedule_writing.specs.Writing.{Writing}
use Rattle.schedule_writing.specs.declared.Placed.{Placed}
use Rattle.schedule_writing.specs.declared.Standing.{Standing}

-- Decision 57: what became of a record that was to be written: number and place.
abbrev pub placed_of : Writing → Placed
placed_of w = record { number = w.number; place = w.place }

-- A kind with its numbers and the place behind it,
abbrev pub stands_as : Parts → ℕ → Standing
stands_as p n = record { number = 0; kind = p.kind; first = p.first; second = p.second; third = p.third; next = n }

-- and no record: a number, and the place asked for.
abbrev pub none_stands : ℕ → ℕ → Standing
none_stands n at = record { number = n; kind = 0; first = 0; second = 0; third = 0; next = at }

-- Decision 57: what stands at a place: a record with its kind and numbers; the end, 0; an unknown kind, 8; a cut record, 7.
abbrev pub standing_of : Next → ℕ → Standing
standing_of (next.Record c n) at = stands_as (parts_of c) n
standing_of next.End at = none_stands 0 at
standing_of next.Unknown at = none_stands 8 at
standing_of next.Cut at = none_stands 7 at

-- The same of a schedule and a place.
abbrev pub standing_at : List ℕ → ℕ → Standing
standing_at s at = standing_of (next_of s at) at
