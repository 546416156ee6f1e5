-- Writing, row by row in bytes, and one claim over the table.
use Rattle.std.specs.Prelude.{ℕ, ◌^◌, ◌≡◌, List, [], ◌∷◌, map}
use Rattle.schedule_kinds.specs.Kinds.{parts}
use Rattle.schedule_kinds.specs.declared.Parts.{Parts}
use Rattle.schedule_writing.specs.Writing.{Writing, writing_of}

-- A buffer, a place, a kind with its numbers, and what writing comes to.
pub record Row : Type 0 where
  pub buffer : List ℕ
  pub at : ℕ
  pub call : Parts
  pub comes : Writing

abbrev row : List ℕ → ℕ → Parts → ℕ → ℕ → List ℕ → Row
row s at p n q s' = record { buffer = s; at = at; call = p; comes = record { number = n; place = q; bytes = s' } }

-- A buffer of six bytes.
abbrev nines : List ℕ
nines = 9 ∷ 9 ∷ 9 ∷ 9 ∷ 9 ∷ 9 ∷ []

abbrev pub rows : List Row
rows =
    -- each kind, two bytes low first; the bytes around it stay
    row nines 1 (parts 1 513 7 0) 0 5 (9 ∷ 1 ∷ 1 ∷ 2 ∷ 7 ∷ 9 ∷ []) ∷
    row nines 0 (parts 2 200 0 0) 0 2 (2 ∷ 200 ∷ 9 ∷ 9 ∷ 9 ∷ 9 ∷ []) ∷
    row nines 3 (parts 3 255 0 0) 0 5 (9 ∷ 9 ∷ 9 ∷ 3 ∷ 255 ∷ 9 ∷ []) ∷
    row nines 3 (parts 4 1027 0 0) 0 6 (9 ∷ 9 ∷ 9 ∷ 4 ∷ 3 ∷ 4 ∷ []) ∷
    row nines 1 (parts 5 513 7 255) 0 6 (9 ∷ 5 ∷ 1 ∷ 2 ∷ 7 ∷ 255 ∷ []) ∷
    row nines 4 (parts 6 255 0 0) 0 6 (9 ∷ 9 ∷ 9 ∷ 9 ∷ 6 ∷ 255 ∷ []) ∷
    row nines 2 (parts 7 0 0 0) 0 4 (9 ∷ 9 ∷ 7 ∷ 0 ∷ 9 ∷ 9 ∷ []) ∷
    -- node 0 by kind 1 and by kind 5 is two records
    row nines 0 (parts 1 1 1 0) 0 4 (1 ∷ 1 ∷ 0 ∷ 1 ∷ 9 ∷ 9 ∷ []) ∷
    row nines 0 (parts 5 1 1 0) 0 5 (5 ∷ 1 ∷ 0 ∷ 1 ∷ 0 ∷ 9 ∷ []) ∷
    -- the largest numbers, a mode that the board refuses among them, and one more in each field
    row nines 0 (parts 5 65535 255 255) 0 5 (5 ∷ 255 ∷ 255 ∷ 255 ∷ 255 ∷ 9 ∷ []) ∷
    row nines 0 (parts 5 65536 255 255) 18 0 nines ∷
    row nines 0 (parts 5 65535 256 255) 18 0 nines ∷
    row nines 0 (parts 5 65535 255 256) 18 0 nines ∷
    row nines 0 (parts 2 256 0 0) 18 0 nines ∷
    row nines 0 (parts 4 (2 ^ 64) 0 0) 18 0 nines ∷
    -- a number for which there is no field
    row nines 0 (parts 1 1 1 1) 18 0 nines ∷
    row nines 0 (parts 2 1 1 0) 18 0 nines ∷
    -- no room: a byte too few, at the end, past it, far past it
    row nines 3 (parts 1 1 1 0) 12 3 nines ∷
    row nines 2 (parts 5 1 1 0) 12 2 nines ∷
    row nines 5 (parts 2 1 0 0) 12 5 nines ∷
    row nines 6 (parts 2 1 0 0) 12 6 nines ∷
    row nines 7 (parts 2 1 0 0) 12 7 nines ∷
    row nines (2 ^ 64) (parts 2 1 0 0) 12 (2 ^ 64) nines ∷
    row [] 0 (parts 2 1 0 0) 12 0 [] ∷
    -- 8 before 18 before 12
    row nines 9 (parts 2 256 0 0) 18 9 nines ∷
    row nines 9 (parts 0 (2 ^ 64) 1 1) 8 9 nines ∷
    row nines 9 (parts 8 1 0 0) 8 9 nines ∷
    row nines 0 (parts 257 1 1 0) 8 0 nines ∷
    []

-- The claim.
abbrev pub RowsHold : Type 0
RowsHold = map (λ (r : Row). writing_of r.buffer r.at r.call) rows ≡ map (λ (r : Row). r.comes) rows
