-- Each public function of `board_visit_verb`, and why its contract determines it: the contract equates the outcome with a definition, and two
-- things that equal a third are equal (`only_one`, the single law). A function that is missing here is a defect.
-- Assumes nothing.
use Rattle.common.specs.Determined.{Determined}
use Rattle.common.proofs.OnlyOne.{only_one}
use Rattle.board_visit_verb.proofs.step_visit.Kinds as step-visit-kinds
use Rattle.board_visit_verb.proofs.step_visit.Reads as step-visit-reads
use Rattle.board_visit_verb.proofs.release_visit.Kinds as release-visit-kinds
use Rattle.board_visit_verb.proofs.release_visit.Reads as release-visit-reads

step_visit_determined : Determined 1 step-visit-kinds.ps step-visit-kinds.r step-visit-reads.Post
step_visit_determined κs a z z' ws ws' p q = (only_one p.0 q.0, rw (only_one p.1 q.1))

release_visit_determined : Determined 1 release-visit-kinds.ps release-visit-kinds.r release-visit-reads.Post
release_visit_determined κs a z z' ws ws' p q = (only_one p.0 q.0, rw (only_one p.1 q.1))
