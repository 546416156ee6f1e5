-- Number, outcome, slot and value of the answer to any call, and the count of verbs: those of the call of the base that it is reported as.
use Rattle.std.specs.Prelude.{ℕ, eqb}
use Rattle.common.specs.Choice.{when◌then◌else◌}
use Rattle.board_call.specs.declared.Call.{Call}
use Rattle.board_call.specs.declared.Call.TheVariants.{Open, Step, Show}
use Rattle.board_call.specs.declared.AnyCall.{AnyCall}
use Rattle.board_call.specs.declared.AnyCall.TheVariants.{Base, OpenAs, Fence, Care}
use Rattle.board_rules.specs.Answers.{said_of, verbs_of}
use Rattle.board_rules.specs.declared.Said.{Said}
use Rattle.board_rules.specs.declared.Answer.{Answer}

-- Rules 7.4 and 7.6: A call is reported and counted as one of the base: an open by a node as an open, a care as a step of its slot; a fence as a show,
-- which names no slot and sends no verb.
abbrev pub reported_as : AnyCall → Call
reported_as (Base c) = c
reported_as (OpenAs r m k) = Open r m
reported_as (Fence n) = Show 0
reported_as (Care i) = Step i

-- Rules 5.1, 5.3 and 7.6: What is said.
abbrev pub said_of_any : AnyCall → Answer → Said
said_of_any o a = said_of (reported_as o) a

-- Rule 7.4: An accepted step, release or care sends a verb, but for a care with outcome 12.
unfoldable pub verbs_of_any : AnyCall → Answer → ℕ
verbs_of_any o a = when eqb (said_of_any o a).outcome 12 then 0 else verbs_of (reported_as o) a
