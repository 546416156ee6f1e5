-- Each public function of `board_visit`, and why its contract determines it: the contract equates the outcome with a definition, and two
-- things that equal a third are equal (`only_one`, the single law). A function that is missing here is a defect.
-- Assumes nothing.
use Rattle.common.specs.Determined.{Determined}
use Rattle.common.proofs.OnlyOne.{only_one}
use Rattle.board_visit.proofs.visit.Kinds as visit-kinds
use Rattle.board_visit.proofs.visit.Reads as visit-reads

visit_determined : Determined 1 visit-kinds.ps visit-kinds.r visit-reads.Post
visit_determined κs a z z' ws ws' p q = (only_one p.0 q.0, rw (only_one p.1 q.1))
