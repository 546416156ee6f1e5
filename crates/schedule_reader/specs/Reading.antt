-- What a reader hands out, and where it stands afterwards.
use Rattle.std.specs.Prelude.{ℕ, zero, suc, List, [], ◌∷◌, ◌++◌}
use Rattle.std.specs.Borrow.{Bor}
use Rattle.board_call.specs.declared.AnyCall.{AnyCall}
use Rattle.schedule_bytes.specs.declared.Next.{Next}
use Rattle.schedule_bytes.specs.declared.Next.TheVariants.{Record, End, Unknown, Cut}
use Rattle.schedule_bytes.specs.Schedule.{next_of}
use Rattle.schedule_reader.specs.declared.Reader.{Reader}
use Rattle.schedule_reader.specs.declared.Handed.{Handed}

-- The reader of a slice at a place.
abbrev pub standing : Bor (List ℕ) → ℕ → Reader
standing s at = record { src = s; at = at }

-- Rule 6.3: The place after what stands there: past a record; the end, an unknown kind and a cut body leave it.
abbrev pub place_after : Next → ℕ → ℕ
place_after (Record c next) at = next
place_after End at = at
place_after Unknown at = at
place_after Cut at = at

-- What stands at a place, and the place after it.
abbrev pub handed_of : List ℕ → ℕ → Handed
handed_of s at = record { next = next_of s at; at = place_after (next_of s at) at }

-- Rule 6.3: What a reader hands out at its place.
abbrev pub at_place : Reader → Next
at_place r = next_of r.src.now r.at

-- Rule 6.3: The reader after one reading: the slice is the same, the place is the one after.
abbrev pub moved_on : Reader → Reader
moved_on r = record { src = r.src; at = place_after (at_place r) r.at }

-- The call of a record, if one was handed out.
abbrev pub call_in : Next → List AnyCall
call_in (Record c next) = c ∷ []
call_in End = []
call_in Unknown = []
call_in Cut = []

-- The calls that n readings hand out, one after the other.
unfoldable pub readings : ℕ → Reader → List AnyCall
readings zero r = []
readings (suc n) r = call_in (at_place r) ++ readings n (moved_on r)
