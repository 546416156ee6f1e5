-- Each public function of `agent_sends`, and why its contract determines it: the contract equates the outcome with a definition, and two
-- things that equal a third are equal (`only_one`, the single law). A function that is missing here is a defect.
-- Assumes nothing.
use mathlib.Core.Path.{refl}
use Rattle.common.specs.Determined.{Determined}
use Rattle.common.proofs.OnlyOne.{only_one}
use Rattle.agent_sends.proofs.step_sends.Kinds as step-sends-kinds
use Rattle.agent_sends.proofs.step_sends.Reads as step-sends-reads
use Rattle.agent_sends.proofs.release_sends.Kinds as release-sends-kinds
use Rattle.agent_sends.proofs.release_sends.Reads as release-sends-reads

step_sends_determined : Determined 0 step-sends-kinds.ps step-sends-kinds.r step-sends-reads.Post
step_sends_determined κs a z z' ws ws' p q = (only_one p q, refl)

release_sends_determined : Determined 0 release-sends-kinds.ps release-sends-kinds.r release-sends-reads.Post
release_sends_determined κs a z z' ws ws' p q = (only_one p q, refl)
