-- The order of two counters of one kind.
use Rattle.std.specs.Prelude.{ℕ, ◌-◌, Bool, eqb, leb, ltb}
use Rattle.word_counter.specs.declared.Exclusive.{Exclusive}
use Rattle.word_counter.specs.declared.Shared.{Shared}

-- Rule 1.3: The numbers of two counters of one kind: the first is past the second; has reached it; equals it; how far it is beyond it, 0
-- where it is not.
abbrev pub exceeds_n : ℕ → ℕ → Bool
exceeds_n a b = ltb b a

abbrev pub reaches_n : ℕ → ℕ → Bool
reaches_n a b = leb b a

abbrev pub equals_n : ℕ → ℕ → Bool
equals_n a b = eqb a b

abbrev pub beyond_n : ℕ → ℕ → ℕ
beyond_n a b = a - b

-- Rule 1.3: The same of two exclusive counters.
abbrev pub exceeds_x : Exclusive → Exclusive → Bool
exceeds_x a b = exceeds_n a.0 b.0

abbrev pub reaches_x : Exclusive → Exclusive → Bool
reaches_x a b = reaches_n a.0 b.0

abbrev pub equals_x : Exclusive → Exclusive → Bool
equals_x a b = equals_n a.0 b.0

abbrev pub beyond_x : Exclusive → Exclusive → ℕ
beyond_x a b = beyond_n a.0 b.0

-- Rule 1.3: The same of two shared counters. No comparison of counters takes one of each kind.
abbrev pub exceeds_s : Shared → Shared → Bool
exceeds_s a b = exceeds_n a.0 b.0

abbrev pub reaches_s : Shared → Shared → Bool
reaches_s a b = reaches_n a.0 b.0

abbrev pub equals_s : Shared → Shared → Bool
equals_s a b = equals_n a.0 b.0

abbrev pub beyond_s : Shared → Shared → ℕ
beyond_s a b = beyond_n a.0 b.0
