-- Each public function of `agent_ceiling`, and why its contract determines it: the contract equates the outcome with a definition, and two
-- things that equal a third are equal (`only_one`, the single law). A function that is missing here is a defect.
-- Assumes nothing.
use mathlib.Core.Path.{refl}
use Rattle.common.specs.Determined.{Determined}
use Rattle.common.proofs.OnlyOne.{only_one}
use Rattle.agent_ceiling.proofs.full.Kinds as full-kinds
use Rattle.agent_ceiling.proofs.full.Reads as full-reads
use Rattle.agent_ceiling.proofs.clearing_word.Kinds as clearing-word-kinds
use Rattle.agent_ceiling.proofs.clearing_word.Reads as clearing-word-reads

full_determined : Determined 0 full-kinds.ps full-kinds.r full-reads.Post
full_determined κs a z z' ws ws' p q = (only_one p q, refl)

clearing_word_determined : Determined 0 clearing-word-kinds.ps clearing-word-kinds.r clearing-word-reads.Post
clearing_word_determined κs a z z' ws ws' p q = (only_one p q, refl)
