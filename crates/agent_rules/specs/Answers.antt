-- The number, outcome and value of every answer of the agent.
use Rattle.std.specs.Prelude.{ℕ}
use Rattle.agent_rules.specs.declared.Numbers.{Numbers}
use Rattle.agent_rules.specs.declared.Answer.{Answer}
use Rattle.agent_rules.specs.declared.Answer.TheVariants.{WrongPhase, Granted, Waiting, Full, Withdrawn, Released}
use Rattle.agent_rules.specs.declared.Answer.TheVariants.{ClearingDue, Cleared, NotYetClear, Passed, FreedUnasked}

-- Rules 5.1 and 5.3: Accepted is number 0, with an outcome and, for waiting, the number ahead.
abbrev pub accepted_with : ℕ → ℕ → Numbers
accepted_with o v = record { number = 0; outcome = o; value = v }

-- Rules 5.1 and 5.3: A refusal has its number, and outcome 0.
abbrev pub refused_with : ℕ → Numbers
refused_with n = record { number = n; outcome = 0; value = 0 }

-- Rules 5.1 and 5.3: Refusals: 5 wrong phase. Outcomes: 2 granted, 3 waiting, 4 full, 5 withdrawn, 6 released, 7 clearing due, 8 cleared,
-- 9 not yet clear, 11 passed, 12 freed unasked.
abbrev pub numbers_of : Answer → Numbers
numbers_of WrongPhase = refused_with 5
numbers_of Granted = accepted_with 2 0
numbers_of (Waiting ahead) = accepted_with 3 ahead
numbers_of Full = accepted_with 4 0
numbers_of Withdrawn = accepted_with 5 0
numbers_of Released = accepted_with 6 0
numbers_of ClearingDue = accepted_with 7 0
numbers_of Cleared = accepted_with 8 0
numbers_of NotYetClear = accepted_with 9 0
numbers_of Passed = accepted_with 11 0
numbers_of FreedUnasked = accepted_with 12 0
