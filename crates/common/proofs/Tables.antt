-- Why a table's number is the one that its first applying line gives: the lines are read one by one, from the top.
-- Assumes nothing.
use Prim.Native.Nat.{ℕ, ◌<◌}
use mathlib.Core.Path.{◌≡◌, refl, ap, sym}
use mathlib.Core.Bool.{Bool, true, false}
use mathlib.Core.Logic.{◌⊎◌, inl, inr, ⊎_elim}
use mathlib.Core.List.{List, [], ◌∷◌}
use native.Mathlib.Omega.{arith}
use Rattle.common.specs.Choice.{when◌then◌else◌}
use Rattle.common.specs.Table.{Line, Gives, NoneApplies}

-- the number of the first line that applies, 0 where none does
abbrev pub number_in : List Line → ℕ
number_in [] = 0
number_in (l ∷ ls) = when l.applies then l.number else number_in ls

-- a table whose numbers are none of them 0
abbrev pub Real : List Line → Type 0
Real [] = Unit {0}
Real (l ∷ ls) = (0 < l.number) × Real ls

apart : {A : Type 0} → true ≡ false → A
apart e = let z : ◌≡◌ {A = ℕ} 1 0 = ap one e in absurd (omega arith)
  where
    one : Bool → ℕ
    one true = 1
    one false = 0

module _ (n : ℕ) where
  to : (x : Bool) (m : ℕ) (ls : List Line) → (number_in ls ≡ n → Gives n ls) → (when x then m else number_in ls) ≡ n → ((x ≡ true) × (m ≡ n)) ⊎ ((x ≡ false) × Gives n ls)
  to true m ls i e = inl (refl, e)
  to false m ls i e = inr (refl, i e)

  from : (x : Bool) (m : ℕ) (ls : List Line) → (Gives n ls → number_in ls ≡ n) → ((x ≡ true) × (m ≡ n)) ⊎ ((x ≡ false) × Gives n ls) → (when x then m else number_in ls) ≡ n
  from true m ls i g = ⊎_elim (λ p. p.1) (λ p. apart p.0) g
  from false m ls i g = ⊎_elim (λ p. apart (sym p.0)) (λ p. i p.1) g

  pub gives_it : 0 < n → (ls : List Line) → number_in ls ≡ n → Gives n ls
  gives_it h [] e = omega arith
  gives_it h (l ∷ ls) e = to l.applies l.number ls (gives_it h ls) e

  pub it_gives : (ls : List Line) → Gives n ls → number_in ls ≡ n
  it_gives [] g = absurd g
  it_gives (l ∷ ls) g = from l.applies l.number ls (it_gives ls) g

none_to : (x : Bool) (m : ℕ) (ls : List Line) → 0 < m → (number_in ls ≡ 0 → NoneApplies ls) → (when x then m else number_in ls) ≡ 0 → (x ≡ false) × NoneApplies ls
none_to true m ls h i e = absurd (omega arith)
none_to false m ls h i e = (refl, i e)

none_from : (x : Bool) (m : ℕ) (ls : List Line) → (NoneApplies ls → number_in ls ≡ 0) → (x ≡ false) × NoneApplies ls → (when x then m else number_in ls) ≡ 0
none_from true m ls i p = apart p.0
none_from false m ls i p = i p.1

pub none_applies : (ls : List Line) → Real ls → number_in ls ≡ 0 → NoneApplies ls
none_applies [] r e = tt
none_applies (l ∷ ls) r e = none_to l.applies l.number ls r.0 (none_applies ls r.1) e

pub applies_none : (ls : List Line) → NoneApplies ls → number_in ls ≡ 0
applies_none [] p = refl
applies_none (l ∷ ls) p = none_from l.applies l.number ls (applies_none ls) p
