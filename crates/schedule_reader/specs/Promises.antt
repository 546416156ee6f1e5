-- What is promised of readers. Statements only: proofs/ has why they hold.
use Rattle.std.specs.Prelude.{ℕ, ◌+◌, ◌≡◌, []}
use Rattle.board_call.specs.declared.AnyCall.{AnyCall}
use Rattle.schedule_bytes.specs.declared.Next.TheVariants.{Record}
use Rattle.schedule_kinds.specs.Kinds.{body_of}
use Rattle.schedule_bytes.specs.Schedule.{byte_at, calls_from}
use Rattle.schedule_reader.specs.declared.Reader.{Reader}
use Rattle.schedule_reader.specs.Reading.{at_place, moved_on, call_in, readings}

-- n readings one after the other hand out the first n calls from the place on, in their order, and past them nothing.
abbrev pub HandsOutTheRecords : Type 0
HandsOutTheRecords = (n : ℕ) (r : Reader) → readings n r ≡ calls_from n r.src.now r.at

-- A record handed out moves the place by its length: the kind byte, and the body that the kind fixes.
abbrev pub RecordMovesThePlace : Type 0
RecordMovesThePlace =
    (r : Reader) (c : AnyCall) (next : ℕ) → at_place r ≡ Record c next → (moved_on r).at ≡ r.at + 1 + body_of (byte_at r.src.now r.at)

-- Where no call is handed out the reader stays as it was.
abbrev pub NothingLeavesIt : Type 0
NothingLeavesIt = (r : Reader) → call_in (at_place r) ≡ [] → moved_on r ≡ r
