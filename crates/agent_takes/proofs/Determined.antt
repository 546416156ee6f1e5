-- Each public function of `agent_takes`, and why its contract determines it: the contract equates the outcome with a definition, and two
-- things that equal a third are equal (`only_one`, the single law). A function that is missing here is a defect.
-- Assumes nothing.
use mathlib.Core.Path.{refl}
use Rattle.common.specs.Determined.{Determined}
use Rattle.common.proofs.OnlyOne.{only_one}
use Rattle.agent_takes.proofs.step_takes.Kinds as step-takes-kinds
use Rattle.agent_takes.proofs.step_takes.Reads as step-takes-reads
use Rattle.agent_takes.proofs.release_takes.Kinds as release-takes-kinds
use Rattle.agent_takes.proofs.release_takes.Reads as release-takes-reads

step_takes_determined : Determined 0 step-takes-kinds.ps step-takes-kinds.r step-takes-reads.Post
step_takes_determined κs a z z' ws ws' p q = (only_one p q, refl)

release_takes_determined : Determined 0 release-takes-kinds.ps release-takes-kinds.r release-takes-reads.Post
release_takes_determined κs a z z' ws ws' p q = (only_one p q, refl)
