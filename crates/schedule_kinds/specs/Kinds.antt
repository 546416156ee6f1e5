-- The kinds of record, described once. A new kind is a line in `widths_of`, one in `parts_of` and one in `call_of`.
use Rattle.std.specs.Prelude.{ℕ, ◌+◌, List, [], ◌∷◌, eqb, get_or}
use Rattle.common.specs.Choice.{when◌then◌else◌}
use Rattle.board_call.specs.declared.AnyCall.{AnyCall}
use Rattle.board_call.specs.declared.AnyCall.TheVariants.{Base, OpenAs, Fence, Care}
use Rattle.board_call.specs.declared.Call.TheVariants.{Open, Step, Release, Show}
use Rattle.schedule_kinds.specs.declared.Parts.{Parts}

-- Rule 6.1: 1 open (record, 2 bytes low first; mode, 1), 2 step (slot, 1), 3 release (slot, 1), 4 show (record, 2),
-- 5 open by a node (record, 2; mode, 1; node, 1), 6 fence (node, 1), 7 care (slot, 1).
abbrev pub OPEN : ℕ
OPEN = 1

abbrev pub STEP : ℕ
STEP = 2

abbrev pub RELEASE : ℕ
RELEASE = 3

abbrev pub SHOW : ℕ
SHOW = 4

abbrev pub OPEN_AS : ℕ
OPEN_AS = 5

abbrev pub FENCE : ℕ
FENCE = 6

abbrev pub CARE : ℕ
CARE = 7

-- How many bytes each of three fields takes: 0 where there is no such field.
abbrev widths : ℕ → ℕ → ℕ → List ℕ
widths first second third = first ∷ second ∷ third ∷ []

-- Rule 6.1: How many bytes the fields of a kind take, in their order. A kind that is unknown has no field.
unfoldable pub widths_of : ℕ → List ℕ
widths_of k =
    when eqb k OPEN then widths 2 1 0 else
    when eqb k STEP then widths 1 0 0 else
    when eqb k RELEASE then widths 1 0 0 else
    when eqb k SHOW then widths 2 0 0 else
    when eqb k OPEN_AS then widths 2 1 1 else
    when eqb k FENCE then widths 1 0 0 else
    when eqb k CARE then widths 1 0 0 else
    widths 0 0 0

-- All of some widths together.
abbrev pub total : List ℕ → ℕ
total [] = 0
total (w ∷ ws) = w + total ws

-- Rule 6.1: How long the body of a kind is: its fields together. 0 for a kind that is unknown.
unfoldable pub body_of : ℕ → ℕ
body_of k = total (widths_of k)

-- A kind with three numbers,
abbrev pub parts : ℕ → ℕ → ℕ → ℕ → Parts
parts k a b c = record { kind = k; first = a; second = b; third = c }

-- with those of a list,
abbrev pub parts_from : ℕ → List ℕ → Parts
parts_from k ns = parts k (get_or ns 0 0) (get_or ns 1 0) (get_or ns 2 0)

-- and the numbers as a list.
abbrev pub numbers_of : Parts → List ℕ
numbers_of p = p.first ∷ p.second ∷ p.third ∷ []

-- Rule 6.1: A call as its kind and its numbers,
abbrev pub parts_of : AnyCall → Parts
parts_of (Base (Open r m)) = parts OPEN r m 0
parts_of (Base (Step s)) = parts STEP s 0 0
parts_of (Base (Release s)) = parts RELEASE s 0 0
parts_of (Base (Show r)) = parts SHOW r 0 0
parts_of (OpenAs r m n) = parts OPEN_AS r m n
parts_of (Fence n) = parts FENCE n 0 0
parts_of (Care s) = parts CARE s 0 0

-- and the call of a known kind with its numbers.
unfoldable pub call_of : Parts → AnyCall
call_of p =
    when eqb p.kind OPEN then Base (Open p.first p.second) else
    when eqb p.kind STEP then Base (Step p.first) else
    when eqb p.kind RELEASE then Base (Release p.first) else
    when eqb p.kind SHOW then Base (Show p.first) else
    when eqb p.kind OPEN_AS then OpenAs p.first p.second p.third else
    when eqb p.kind FENCE then Fence p.first else Care p.first
