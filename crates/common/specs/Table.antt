-- A table of numbers, read from the top: the first line that applies gives its number.
use Rattle.std.specs.Prelude.{ℕ, ◌≡◌, Bool, true, false, ◌⊎◌, List, [], ◌∷◌}

-- A line: its number, and whether it applies.
pub record Line : Type 0 where
  pub number : ℕ
  pub applies : Bool

abbrev pub line : ℕ → Bool → Line
line n x = record { number = n; applies = x }

-- The number n is given: a line with this number applies, and no line before it does.
abbrev pub Gives : ℕ → List Line → Type 0
Gives n [] = ⊥
Gives n (l ∷ ls) = ((l.applies ≡ true) × (l.number ≡ n)) ⊎ ((l.applies ≡ false) × Gives n ls)

-- No line applies.
abbrev pub NoneApplies : List Line → Type 0
NoneApplies [] = Unit {0}
NoneApplies (l ∷ ls) = (l.applies ≡ false) × NoneApplies ls
