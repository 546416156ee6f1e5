-- The table of request slots: which are in use, how many, and which free one is the lowest.
use Rattle.std.specs.Prelude.{ℕ, zero, suc, List, [], ◌∷◌, replicate}
use Rattle.common.specs.Choice.{when◌then◌else◌}
use Rattle.agent_request.specs.Request.{in_use, free_request}
use Rattle.agent_request.specs.declared.Request.{Request}

-- Rule 4.1: A board has 256 slots.
abbrev pub SLOTS : ℕ
SLOTS = 256

-- Rule 4.4: The lowest free slot; as many as there are slots where none is free.
unfoldable pub lowest_free : List Request → ℕ
lowest_free [] = zero
lowest_free (q ∷ qs) = when in_use q then suc (lowest_free qs) else zero

-- Rule 4.8: How many slots are in use.
unfoldable pub used_slots : List Request → ℕ
used_slots [] = zero
used_slots (q ∷ qs) = when in_use q then suc (used_slots qs) else used_slots qs

-- Rule 4.3: The fresh table is one free request, 256 times.
abbrev pub fresh_slots : List Request
fresh_slots = replicate SLOTS free_request
