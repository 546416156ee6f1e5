-- What stands at a place, row by row in bytes, and one claim over the table.
use Rattle.std.specs.Prelude.{ℕ, ◌≡◌, List, [], ◌∷◌, map}
use Rattle.board_call.specs.declared.AnyCall.TheVariants.{Base, OpenAs, Fence, Care}
use Rattle.board_call.specs.declared.Call.TheVariants.{Open, Step, Release, Show}
use Rattle.schedule_bytes.specs.Schedule.{next_of}
use Rattle.schedule_bytes.specs.declared.Next.{Next}
use Rattle.schedule_bytes.specs.declared.Next.TheVariants.{Record, End, Unknown, Cut}

-- A schedule, a place, and what stands there.
pub record Row : Type 0 where
  pub bytes : List ℕ
  pub at : ℕ
  pub stands : Next

abbrev row : List ℕ → ℕ → Next → Row
row b p n = record { bytes = b; at = p; stands = n }

abbrev pub rows : List Row
rows =
    -- each kind, with two bytes low first and every number a byte can hold
    row (1 ∷ 1 ∷ 2 ∷ 7 ∷ []) 0 (Record (Base (Open 513 7)) 4) ∷
    row (9 ∷ 2 ∷ 200 ∷ []) 1 (Record (Base (Step 200)) 3) ∷
    row (9 ∷ 3 ∷ 255 ∷ 9 ∷ []) 1 (Record (Base (Release 255)) 3) ∷
    row (4 ∷ 3 ∷ 4 ∷ []) 0 (Record (Base (Show 1027)) 3) ∷
    row (5 ∷ 1 ∷ 2 ∷ 7 ∷ 255 ∷ []) 0 (Record (OpenAs 513 7 255) 5) ∷
    row (9 ∷ 6 ∷ 255 ∷ 9 ∷ []) 1 (Record (Fence 255) 3) ∷
    row (7 ∷ 200 ∷ []) 0 (Record (Care 200) 2) ∷
    -- node 0 by kind 1 and by kind 5 is two calls
    row (1 ∷ 1 ∷ 2 ∷ 7 ∷ 0 ∷ []) 0 (Record (Base (Open 513 7)) 4) ∷
    row (5 ∷ 1 ∷ 2 ∷ 7 ∷ 0 ∷ []) 0 (Record (OpenAs 513 7 0) 5) ∷
    -- each kind with the last byte of its body missing
    row (1 ∷ 1 ∷ 2 ∷ []) 0 Cut ∷
    row (2 ∷ []) 0 Cut ∷
    row (3 ∷ []) 0 Cut ∷
    row (4 ∷ 3 ∷ []) 0 Cut ∷
    row (5 ∷ 1 ∷ 2 ∷ 7 ∷ []) 0 Cut ∷
    row (6 ∷ []) 0 Cut ∷
    row (7 ∷ []) 0 Cut ∷
    -- kinds that are none, the end, and past it
    row (0 ∷ 1 ∷ 2 ∷ 3 ∷ []) 0 Unknown ∷
    row (8 ∷ 1 ∷ 2 ∷ 3 ∷ 4 ∷ []) 0 Unknown ∷
    row (255 ∷ []) 0 Unknown ∷
    row (2 ∷ 0 ∷ []) 2 End ∷
    row (2 ∷ 0 ∷ []) 9 End ∷
    row [] 0 End ∷
    []

-- The claim.
abbrev pub RowsHold : Type 0
RowsHold = map (λ (r : Row). next_of r.bytes r.at) rows ≡ map (λ (r : Row). r.stands) rows
