-- What holds of both branches of a choice holds of the choice, and each branch may use what the test found.
-- Assumes nothing.
use Prim.Native.Nat.{ℕ}
use mathlib.Core.Path.{◌≡◌, refl}
use mathlib.Core.Bool.{Bool, true, false}
use mathlib.Core.Logic.{◌⊎◌, inl, inr}
use borrow.Author.Tests.{eqb-true, eqb-false}
use lib.Dec.{eqb}
use Rattle.common.specs.Choice.{when◌then◌else◌}

pub either : {A : Type 0} (P : A → Type 0) {a b : A} (x : Bool) → P a → P b → P (when x then a else b)
either P true p q = p
either P false p q = q

pub either_by : {A : Type 0} (P : A → Type 0) {a b : A} (x : Bool) → (x ≡ true → P a) → (x ≡ false → P b) → P (when x then a else b)
either_by P true p q = p refl
either_by P false p q = q refl

-- two numbers are the same, or not
pub same_or_not : (m n : ℕ) → (m ≡ n) ⊎ (m ≡ n → ⊥)
same_or_not m n = by (eqb m n) refl
  where
    by : (x : Bool) → eqb m n ≡ x → (m ≡ n) ⊎ (m ≡ n → ⊥)
    by true e = inl (eqb-true m n e)
    by false e = inr (eqb-false m n e)
