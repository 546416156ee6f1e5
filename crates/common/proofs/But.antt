-- A number of which one stands for none, taken apart: what it is where it is some, and where it is none.
-- Assumes nothing.
use Prim.Native.Nat.{ℕ}
use mathlib.Core.Path.{◌≡◌, refl}
use mathlib.Core.Bool.{Bool, true, false}
use mathlib.Core.Logic.{◌≢◌}
use borrow.Author.Tests.{eqb-true, eqb-false}
use lib.Dec.{eqb}
use Rattle.std.specs.Prelude.{Some, None}
use Rattle.common.specs.Choice.{when◌then◌else◌, but}

pub some_but : (none x n : ℕ) → Some n ≡ but none x → (x ≢ none) × (n ≡ x)
some_but none x n e = by (eqb x none) refl e
  where
    by : (b : Bool) → eqb x none ≡ b → Some n ≡ (when b then None else Some x) → (x ≢ none) × (n ≡ x)
    by true t e = cc
    by false f e = (eqb-false x none f, cc)

pub none_but : (none x : ℕ) → None ≡ but none x → x ≡ none
none_but none x e = by (eqb x none) refl e
  where
    by : (b : Bool) → eqb x none ≡ b → None ≡ (when b then None else Some x) → x ≡ none
    by true t e = eqb-true x none t
    by false f e = cc
