-- A mirror of `Run`: the two tests before a record as the code makes them, on what stands at its place. Nothing here needs belief: the
-- three statements at the end say that a run ends where they say, with their number, and goes on where they do not.
use Rattle.std.specs.Prelude.{ℕ, ◌-◌, ◌≡◌, Bool, true, false, List, eqb, ltb}
use Rattle.common.specs.Choice.{when◌then◌else◌}
use Rattle.board_call.specs.declared.AnyCall.{AnyCall}
use Rattle.board_nodes.specs.Site.{Site, site_of, played_at}
use Rattle.schedule_bytes.specs.Schedule.{next_of}
use Rattle.schedule_bytes.specs.declared.Next.{Next}
use Rattle.schedule_bytes.specs.declared.Next.TheVariants.{Record, End, Unknown, Cut}
use Rattle.run_entry.specs.Entry.{ENTRY}
use Rattle.run_rules.specs.Run.{ended, followed, run_of}

abbrev pub is_end : Next → Bool
is_end End = true
is_end (Record c next) = false
is_end Unknown = false
is_end Cut = false

-- 11 with the allowance spent, 12 with the report short, but not at the end of the schedule; 0 where neither stops the run.
abbrev pub halted_of : Bool → Bool → Bool → ℕ
halted_of at_end spent short = when at_end then 0 else when spent then 11 else when short then 12 else 0

-- What a run ends with where no record stands: 0 at the end, 8 for an unknown kind, 7 for a cut body.
abbrev pub leaves_of : Next → ℕ
leaves_of End = 0
leaves_of (Record c next) = 0
leaves_of Unknown = 8
leaves_of Cut = 7

-- The number that stops a run with so much allowance and room before what stands at a place, 0 where neither does.
abbrev pub halted_at : ℕ → ℕ → List ℕ → ℕ → ℕ
halted_at a room bytes at = halted_of (is_end (next_of bytes at)) (eqb a 0) (ltb room ENTRY)

-- Where that number is not 0 the run ends with it,
abbrev pub HaltsWhereItEnds : Type 0
HaltsWhereItEnds =
    (a room : ℕ) (bytes : List ℕ) (at : ℕ) (s : Site) →
    (halted_at a room bytes at ≡ 0 → ⊥) → run_of a room bytes at s ≡ ended (halted_at a room bytes at) at s

-- where it is 0 and no record stands there, with what is left,
abbrev pub LeavesWhereItEnds : Type 0
LeavesWhereItEnds =
    (a room : ℕ) (bytes : List ℕ) (at : ℕ) (s : Site) →
    halted_at a room bytes at ≡ 0 →
    ((c : AnyCall) (next : ℕ) → next_of bytes at ≡ Record c next → ⊥) →
    run_of a room bytes at s ≡ ended (leaves_of (next_of bytes at)) at s

-- and where it is 0 and a record stands there, the run plays it and goes on.
abbrev pub PlaysWhereItDoesNot : Type 0
PlaysWhereItDoesNot =
    (a room : ℕ) (bytes : List ℕ) (at : ℕ) (s : Site) (c : AnyCall) (next : ℕ) →
    halted_at a room bytes at ≡ 0 →
    next_of bytes at ≡ Record c next →
    run_of a room bytes at s ≡ followed c (played_at c s).answer (run_of (a - 1) (room - ENTRY) bytes next (site_of (played_at c s)))
