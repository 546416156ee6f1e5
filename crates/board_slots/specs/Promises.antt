-- What the layers above, and a stranger, may believe of the slots and their map. Statements only: proofs/ has why each holds.
use Rattle.std.specs.Prelude.{ℕ, ◌<◌, ◌≡◌, true, false, List, length, get_or, set}
use Rattle.agent_request.specs.Request.{in_use, free_request}
use Rattle.agent_request.specs.declared.Request.{Request}
use Rattle.board_slots.specs.Slots.{SLOTS, lowest_free, used_slots}
use Rattle.board_slots.specs.Map.{map_of, lowest_zero, ones_of, marked_of}

-- The lowest free slot is free,
abbrev pub LowestIsFree : Type 0
LowestIsFree = (slots : List Request) → lowest_free slots < length slots → in_use (get_or slots (lowest_free slots) free_request) ≡ false

-- and every lower one is in use.
abbrev pub LowerAreUsed : Type 0
LowerAreUsed = (slots : List Request) (i : ℕ) → i < lowest_free slots → in_use (get_or slots i free_request) ≡ true

-- Of a table of 256 slots the lowest zero of the map is the lowest free slot,
abbrev pub MapFindsLowest : Type 0
MapFindsLowest = (slots : List Request) → length slots ≡ SLOTS → lowest_zero (map_of slots) ≡ lowest_free slots

-- its ones are the slots in use,
abbrev pub MapCountsUsed : Type 0
MapCountsUsed = (slots : List Request) → length slots ≡ SLOTS → ones_of (map_of slots) ≡ used_slots slots

-- and marking it at a slot gives the map of the table with the new request in that slot.
abbrev pub MarkFollowsStore : Type 0
MarkFollowsStore =
    (slots : List Request) →
    length slots ≡ SLOTS →
    (i : ℕ) →
    i < SLOTS →
    (q : Request) →
    marked_of (map_of slots) i (get_or slots i free_request) q ≡ map_of (set slots i q)
