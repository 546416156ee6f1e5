-- A mirror of `Board`: a call as a visit of one slot: which slot, and what becomes of its request, of the words, and what is answered. A run plays
-- its records so. Nothing here needs belief: `VisitIsPlayed` (Promises) says that it is the same as playing the call.
use Rattle.std.specs.Prelude.{ℕ, ◌%◌, not, List, ltb, leb, set}
use Rattle.common.specs.Choice.{when◌then◌else◌}
use Rattle.agent_request.specs.Request.{in_use, opened_request}
use Rattle.agent_request.specs.declared.Request.{Request}
use Rattle.agent_rules.specs.Life.{step_sends, release_sends, step_takes, release_takes}
use Rattle.board_slots.specs.Slots.{SLOTS}
use Rattle.board_slots.specs.Map.{lowest_zero}
use Rattle.board_call.specs.declared.Call.{Call}
use Rattle.board_call.specs.declared.Call.TheVariants.{Open, Step, Release, Show}
use Rattle.board_rules.specs.declared.Answer.TheVariants.{Refused, Opened}
use Rattle.board_rules.specs.Records.{is_record}
use Rattle.board_rules.specs.Sent.{Visited, visited, sent_visit}
use Rattle.board_rules.specs.Board.{State, Done, shown_of}

-- A slot number as it stands, and slot 0 for one above 255.
abbrev pub within_board : ℕ → ℕ
within_board i = when leb SLOTS i then 0 else i

-- The slot that a call visits, on a board with the map m: the lowest free one for open, the one named for step and release, any for show.
unfoldable pub aim_of : Call → List ℕ → ℕ
aim_of (Open r n) m = within_board (lowest_zero m)
aim_of (Step i) m = within_board i
aim_of (Release i) m = within_board i
aim_of (Show r) m = 0

unfoldable pub open_visit : ℕ → ℕ → ℕ → Request → List ℕ → Visited
open_visit r m i q ws =
    when not (is_record r ws) then visited q ws (Refused 2) else
    when ltb 1 m then visited q ws (Refused 3) else
    when in_use q then visited q ws (Refused 6) else visited (opened_request r m) ws (Opened (i % 256))

unfoldable pub show_visit : ℕ → Request → List ℕ → Visited
show_visit r q ws = visited q ws (shown_of r ws)

unfoldable pub named_visit : ℕ → Request → List ℕ → Visited → Visited
named_visit i q ws v = when leb SLOTS i then visited q ws (Refused 1) else v

-- The visit of the slot i, whose request is q.
abbrev pub visit_of : Call → ℕ → Request → List ℕ → Visited
visit_of (Open r m) i q ws = open_visit r m i q ws
visit_of (Step n) i q ws = named_visit n q ws (sent_visit q (step_sends q) (step_takes q) ws)
visit_of (Release n) i q ws = named_visit n q ws (sent_visit q (release_sends q) (release_takes q) ws)
visit_of (Show r) i q ws = show_visit r q ws

-- What a visit of the slot i leaves of a state.
abbrev pub stored : State → ℕ → Visited → Done
stored s i v = record { slots = set s.slots i v.request; words = v.words; answer = v.answer }
