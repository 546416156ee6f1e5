-- A mirror of a part of `Visit`: the step of a request that waits and goes on waiting, and how many are ahead of it. Nothing here needs belief:
-- `WaitingIsTheVisit`, at the end, says that such a step is the visit, and leaves the request and the words.
use Rattle.std.specs.Prelude.{ℕ, ◌<◌, ◌≡◌, Bool, true, false, not, List, leb, get_or}
use Rattle.common.specs.Choice.{when◌then◌else◌}
use Rattle.word_layout.specs.Word.{split_of}
use Rattle.agent_ticket.specs.Turn.{turn_of}
use Rattle.agent_ticket.specs.declared.Turn.{Turn}
use Rattle.agent_ticket.specs.declared.Turn.TheVariants.{Passed, Granted, Ahead}
use Rattle.agent_request.specs.Request.{phase_of, mode_of, free_request}
use Rattle.agent_request.specs.declared.Request.{Request}
use Rattle.agent_request.specs.declared.Phase.{Phase}
use Rattle.agent_request.specs.declared.Phase.TheVariants.{Free, Asking, Waiting, Held, Owing, Clearing}
use Rattle.board_slots.specs.Slots.{SLOTS}
use Rattle.board_call.specs.declared.Call.TheVariants.{Open, Step, Release, Show}
use Rattle.board_call.specs.declared.AnyCall.{AnyCall}
use Rattle.board_call.specs.declared.AnyCall.TheVariants.{Base, OpenAs, Fence, Care}
use Rattle.agent_rules.specs.declared.Answer.TheVariants as tells
use Rattle.board_rules.specs.Records.{is_record}
use Rattle.board_rules.specs.Sent.{visited}
use Rattle.board_rules.specs.Visit.{aim_of}
use Rattle.board_rules.specs.declared.Answer.TheVariants.{Told}
use Rattle.board_nodes.specs.Answers.{reported_as}
use Rattle.board_nodes.specs.Visit.{any_visit}

abbrev pub is_waiting : Phase → Bool
is_waiting Free = false
is_waiting Asking = false
is_waiting Waiting = true
is_waiting Held = false
is_waiting Owing = false
is_waiting Clearing = false

abbrev pub number_ahead : Turn → ℕ
number_ahead Passed = 0
number_ahead Granted = 0
number_ahead (Ahead n) = n

-- How many are ahead of a request that waits, by the word of its record; 0 where its node is fenced, and where it does not wait, has no record, or
-- waits no longer.
unfoldable pub still_ahead : Bool → Request → List ℕ → ℕ
still_ahead shut q ws =
    when shut then 0 else
    when not (is_waiting (phase_of q.phase)) then 0 else
    when not (is_record q.«record» ws) then 0 else number_ahead (turn_of (mode_of q.mode) q.ticket (split_of (get_or ws q.«record» 0)))

-- The slot of the board that a call steps; as many as there are slots where it steps none. A care is no step here, whatever it makes.
abbrev pub stepped_slot : AnyCall → ℕ
stepped_slot (Base (Open r m)) = SLOTS
stepped_slot (Base (Step n)) = when leb SLOTS n then SLOTS else n
stepped_slot (Base (Release n)) = SLOTS
stepped_slot (Base (Show r)) = SLOTS
stepped_slot (OpenAs r m k) = SLOTS
stepped_slot (Fence k) = SLOTS
stepped_slot (Care n) = SLOTS

-- A call that steps a slot whose request goes on waiting with n ahead visits that slot, whatever the map, and leaves request and words. Its gate is
-- open: with the node fenced n would be 0.
abbrev pub WaitingIsTheVisit : Type 0
WaitingIsTheVisit =
    (o : AnyCall) (m : List ℕ) (slots : List Request) (shut : Bool) (ws : List ℕ) (k n : ℕ) →
    stepped_slot o ≡ k →
    k < SLOTS →
    still_ahead shut (get_or slots k free_request) ws ≡ n →
    (n ≡ 0 → ⊥) →
    let i = aim_of (reported_as o) m in
    any_visit o i shut (get_or slots i free_request) ws ≡ visited (get_or slots i free_request) ws (Told (tells.Waiting n))
