-- Each public function of `word_layout`, and why its contract determines it: the contract equates the outcome with a definition, and two
-- things that equal a third are equal (`only_one`, the single law). A function that is missing here is a defect.
-- Assumes nothing.
use mathlib.Core.Path.{refl}
use Rattle.common.specs.Determined.{Determined}
use Rattle.common.proofs.OnlyOne.{only_one}
use Rattle.word_layout.proofs.step.Kinds as step-kinds
use Rattle.word_layout.proofs.step.Reads as step-reads
use Rattle.word_layout.proofs.back.Kinds as back-kinds
use Rattle.word_layout.proofs.back.Reads as back-reads
use Rattle.word_layout.proofs.CountersFromU64.from.Kinds as split-kinds
use Rattle.word_layout.proofs.CountersFromU64.from.Reads as split-reads
use Rattle.word_layout.proofs.U64FromCounters.from.Kinds as join-kinds
use Rattle.word_layout.proofs.U64FromCounters.from.Reads as join-reads

step_determined : Determined 0 step-kinds.ps step-kinds.r step-reads.Post
step_determined κs a z z' ws ws' p q = (only_one p q, refl)

back_determined : Determined 0 back-kinds.ps back-kinds.r back-reads.Post
back_determined κs a z z' ws ws' p q = (only_one p q, refl)

split_determined : Determined 0 split-kinds.ps split-kinds.r split-reads.Post
split_determined κs a z z' ws ws' p q = (only_one p q, refl)

join_determined : Determined 0 join-kinds.ps join-kinds.r join-reads.Post
join_determined κs a z z' ws ws' p q = (only_one p q, refl)
