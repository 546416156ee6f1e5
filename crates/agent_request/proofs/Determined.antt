-- Each public function of `agent_request`, and why its contract determines it: the contract equates the outcome with a definition, and two
-- things that equal a third are equal (`only_one`, the single law). A function that is missing here is a defect.
-- Assumes nothing.
use mathlib.Core.Path.{refl}
use Rattle.common.specs.Determined.{Determined}
use Rattle.common.proofs.OnlyOne.{only_one}
use Rattle.agent_request.proofs.U8FromPhase.from.Kinds as phase-number-kinds
use Rattle.agent_request.proofs.U8FromPhase.from.Reads as phase-number-reads
use Rattle.agent_request.proofs.PhaseFromU8.from.Kinds as phase-of-kinds
use Rattle.agent_request.proofs.PhaseFromU8.from.Reads as phase-of-reads
use Rattle.agent_request.proofs.mode_of.Kinds as mode-of-kinds
use Rattle.agent_request.proofs.mode_of.Reads as mode-of-reads
use Rattle.agent_request.proofs.in_use.Kinds as in-use-kinds
use Rattle.agent_request.proofs.in_use.Reads as in-use-reads
use Rattle.agent_request.proofs.free.Kinds as free-kinds
use Rattle.agent_request.proofs.free.Reads as free-reads
use Rattle.agent_request.proofs.opened.Kinds as opened-kinds
use Rattle.agent_request.proofs.opened.Reads as opened-reads
use Rattle.agent_request.proofs.in_phase.Kinds as in-phase-kinds
use Rattle.agent_request.proofs.in_phase.Reads as in-phase-reads

phase_number_determined : Determined 0 phase-number-kinds.ps phase-number-kinds.r phase-number-reads.Post
phase_number_determined κs a z z' ws ws' p q = (only_one p q, refl)

phase_of_determined : Determined 0 phase-of-kinds.ps phase-of-kinds.r phase-of-reads.Post
phase_of_determined κs a z z' ws ws' p q = (only_one p q, refl)

mode_of_determined : Determined 0 mode-of-kinds.ps mode-of-kinds.r mode-of-reads.Post
mode_of_determined κs a z z' ws ws' p q = (only_one p q, refl)

in_use_determined : Determined 0 in-use-kinds.ps in-use-kinds.r in-use-reads.Post
in_use_determined κs a z z' ws ws' p q = (only_one p q, refl)

free_determined : Determined 0 free-kinds.ps free-kinds.r free-reads.Post
free_determined κs a z z' ws ws' p q = (only_one p q, refl)

opened_determined : Determined 0 opened-kinds.ps opened-kinds.r opened-reads.Post
opened_determined κs a z z' ws ws' p q = (only_one p q, refl)

in_phase_determined : Determined 0 in-phase-kinds.ps in-phase-kinds.r in-phase-reads.Post
in_phase_determined κs a z z' ws ws' p q = (only_one p q, refl)
