-- Each public function of `board_visit_care`, and why its contract determines it: the contract equates the outcome with a definition, and two
-- things that equal a third are equal (`only_one`, the single law). A function that is missing here is a defect.
-- Assumes nothing.
use Rattle.common.specs.Determined.{Determined}
use Rattle.common.proofs.OnlyOne.{only_one}
use Rattle.board_visit_care.proofs.care_visit.Kinds as care-visit-kinds
use Rattle.board_visit_care.proofs.care_visit.Reads as care-visit-reads

care_visit_determined : Determined 1 care-visit-kinds.ps care-visit-kinds.r care-visit-reads.Post
care_visit_determined κs a z z' ws ws' p q = (only_one p.0 q.0, rw (only_one p.1 q.1))
