-- Each public function of `agent_care`, and why its contract determines it: the contract equates the outcome with a definition, and two
-- things that equal a third are equal (`only_one`, the single law). A function that is missing here is a defect.
-- Assumes nothing.
use mathlib.Core.Path.{refl}
use Rattle.common.specs.Determined.{Determined}
use Rattle.common.proofs.OnlyOne.{only_one}
use Rattle.agent_care.proofs.care_sends.Kinds as care-sends-kinds
use Rattle.agent_care.proofs.care_sends.Reads as care-sends-reads
use Rattle.agent_care.proofs.care_takes.Kinds as care-takes-kinds
use Rattle.agent_care.proofs.care_takes.Reads as care-takes-reads

care_sends_determined : Determined 0 care-sends-kinds.ps care-sends-kinds.r care-sends-reads.Post
care_sends_determined κs a z z' ws ws' p q = (only_one p q, refl)

care_takes_determined : Determined 0 care-takes-kinds.ps care-takes-kinds.r care-takes-reads.Post
care_takes_determined κs a z z' ws ws' p q = (only_one p q, refl)
