-- What a run ends with, in numbers.
use Rattle.std.specs.Prelude.{ℕ}
use Rattle.run_rules.specs.declared.Ending.{Ending}
use Rattle.run_rules.specs.declared.Ending.TheVariants.{Complete, Cut, Unknown, Spent, NoRoom}

-- Rules 5.1 and 7.2: The number of an ending.
abbrev pub ending_number : Ending → ℕ
ending_number Complete = 0
ending_number Cut = 7
ending_number Unknown = 8
ending_number Spent = 11
ending_number NoRoom = 12
