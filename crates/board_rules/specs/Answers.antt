-- The number, outcome, slot and value of every answer of the board, and the count of verbs.
use Rattle.std.specs.Prelude.{ℕ, ◌%◌, Bool, true, false, ◌&&◌, eqb}
use Rattle.common.specs.Choice.{when◌then◌else◌}
use Rattle.agent_rules.specs.Answers.{numbers_of}
use Rattle.board_call.specs.declared.Call.{Call}
use Rattle.board_call.specs.declared.Call.TheVariants.{Open, Step, Release, Show}
use Rattle.board_rules.specs.declared.Said.{Said}
use Rattle.board_rules.specs.declared.Answer.{Answer}
use Rattle.board_rules.specs.declared.Answer.TheVariants.{Refused, Begun, Opened, Told, Shown, Fenced}

-- Rules 5.1, 5.3 and 7.6: What is said to a call that names the slot s, or to one that names none (0): a refusal has its number and outcome
-- 0; begin has outcome 0; 1 opened, in the slot that it got; 10 shown, with the word; 13 fenced; and what the agent tells.
abbrev pub said_with : ℕ → Answer → Said
said_with s (Refused n) = record { number = n; outcome = 0; slot = s; value = 0 }
said_with s Begun = record { number = 0; outcome = 0; slot = s; value = 0 }
said_with s (Opened k) = record { number = 0; outcome = 1; slot = k; value = 0 }
said_with s (Told a) = record { number = (numbers_of a).number; outcome = (numbers_of a).outcome; slot = s; value = (numbers_of a).value }
said_with s (Shown w) = record { number = 0; outcome = 10; slot = s; value = w }
said_with s Fenced = record { number = 0; outcome = 13; slot = s; value = 0 }

-- Rule 7.6: The slot that a call names, as one byte; 0 where it names none.
abbrev pub named_slot : Call → ℕ
named_slot (Open r m) = 0
named_slot (Step i) = i % 256
named_slot (Release i) = i % 256
named_slot (Show r) = 0

abbrev pub said_of : Call → Answer → Said
said_of c a = said_with (named_slot c) a

-- Rule 7.4: A step and a release send a verb where they are accepted.
abbrev pub sends_verb : Call → Bool
sends_verb (Open r m) = false
sends_verb (Step i) = true
sends_verb (Release i) = true
sends_verb (Show r) = false

unfoldable pub verbs_of : Call → Answer → ℕ
verbs_of c a = when sends_verb c && eqb (said_of c a).number 0 then 1 else 0
