-- Which numbers are records, and why a verb may not go out for a request.
use Rattle.std.specs.Prelude.{ℕ, Bool, true, false, not, ◌&&◌, List, Result, Ok, Err, ltb, length}
use Rattle.common.specs.Choice.{when◌then◌else◌}
use Rattle.agent_request.specs.declared.Request.{Request}
use Rattle.agent_rules.specs.declared.Verb.{Verb}
use Rattle.agent_rules.specs.declared.Verb.TheVariants.{Nothing, Add, Read, Swap}
use Rattle.agent_request.specs.Request.{in_use}
use Rattle.board_rules.specs.declared.Refusal.{Refusal}
use Rattle.board_rules.specs.declared.Refusal.TheVariants.{SlotTooHigh, NoRecord, NoMode, SlotIsFree, WrongPhase, NoSlotIsFree, NoWordsOrTooMany}
use Rattle.board_rules.specs.declared.Refusal.TheVariants.{NodeIsFenced, NodeOfSlotIsFenced, NodeOfSlotIsNotFenced}

-- Rule 5.1: The number of each refusal of a call on the board.
abbrev pub refusal_number : Refusal → ℕ
refusal_number SlotTooHigh = 1
refusal_number NoRecord = 2
refusal_number NoMode = 3
refusal_number SlotIsFree = 4
refusal_number WrongPhase = 5
refusal_number NoSlotIsFree = 6
refusal_number NoWordsOrTooMany = 9
refusal_number NodeIsFenced = 14
refusal_number NodeOfSlotIsFenced = 15
refusal_number NodeOfSlotIsNotFenced = 16

-- Rule 5.1: The number that a test gives: that of the refusal, 0 where it lets through.
abbrev pub number_given : {A : Type 0} → Result A Refusal → ℕ
number_given (Ok a) = 0
number_given (Err why) = refusal_number why

-- Rules 4.2 and 5.1: At most 4,096 words are begun, and records go up to 4,095.
abbrev pub RECORDS : ℕ
RECORDS = 4096

-- Rule 4.2: A record is below the number of words lent, and not above 4,095.
abbrev pub is_record_of : ℕ → ℕ → Bool
is_record_of r lent = ltb r lent && ltb r RECORDS

abbrev pub is_record : ℕ → List ℕ → Bool
is_record r ws = is_record_of r (length ws)

abbrev pub is_nothing : Verb → Bool
is_nothing Nothing = true
is_nothing (Add k) = false
is_nothing Read = false
is_nothing (Swap old new) = false

-- Rule 5.2: Why a verb may not go out for a request: 4, 5, 2 in this order, the last on the slot's own record; 0 where it may.
unfoldable pub refusal_of : Request → Verb → List ℕ → ℕ
refusal_of q verb ws =
    when not (in_use q) then 4 else
    when is_nothing verb then 5 else
    when not (is_record q.«record» ws) then 2 else 0
