-- A caretaker's turn on a request whose node is lost: what it sends, and what the request becomes, by phase over what a step and a release do.
use Rattle.std.specs.Prelude.{ℕ}
use Rattle.agent_request.specs.Request.{phase_of}
use Rattle.agent_request.specs.declared.Request.{Request}
use Rattle.agent_request.specs.declared.Phase.{Phase}
use Rattle.agent_request.specs.declared.Phase.TheVariants.{Free, Asking, Waiting, Held, Owing, Clearing}
use Rattle.agent_rules.specs.Life.{step_sends, release_sends, step_takes, release_takes, freed}
use Rattle.agent_rules.specs.declared.Verb.{Verb}
use Rattle.agent_rules.specs.declared.Verb.TheVariants as verb
use Rattle.agent_rules.specs.declared.Answer.TheVariants as answer
use Rattle.agent_rules.specs.declared.Taken.{Taken}

-- Rule 3.16: What a care sends: for Asking nothing, for Held its release, for any other phase its step.
abbrev pub care_sends_in : Phase → Request → Verb
care_sends_in Free q = step_sends q
care_sends_in Asking q = verb.Nothing
care_sends_in Waiting q = step_sends q
care_sends_in Held q = release_sends q
care_sends_in Owing q = step_sends q
care_sends_in Clearing q = step_sends q

unfoldable pub care_sends : Request → Verb
care_sends q = care_sends_in (phase_of q.phase) q

-- Rule 3.16: What a request becomes by a care, with v what came back: Asking is free, whatever v is; Held is released, any other phase takes
-- its step. A free one stays, and is told wrong phase.
abbrev pub care_takes_in : Phase → Request → ℕ → Taken
care_takes_in Free q v = step_takes q v
care_takes_in Asking q v = freed answer.FreedUnasked
care_takes_in Waiting q v = step_takes q v
care_takes_in Held q v = release_takes q v
care_takes_in Owing q v = step_takes q v
care_takes_in Clearing q v = step_takes q v

unfoldable pub care_takes : Request → ℕ → Taken
care_takes q v = care_takes_in (phase_of q.phase) q v
