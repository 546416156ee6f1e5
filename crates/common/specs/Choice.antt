-- A choice by a test, as the rules are written: when .. then .. else .., which goes on to the right, as a list of cases does (the library's `if` does not).
-- And a number of which one stands for none.
use Rattle.std.specs.Prelude.{ℕ, Bool, true, false, eqb, Option, None, Some}

infixr 5 when◌then◌else◌
abbrev pub when◌then◌else◌ : {A : Type 0} → Bool → A → A → A
when◌then◌else◌ true a b = a
when◌then◌else◌ false a b = b

-- A number n as an option: none where it is k, the one that stands for none.
abbrev pub but : ℕ → ℕ → Option ℕ
but k n = when eqb n k then None else Some n
