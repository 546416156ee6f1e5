-- Each public function of `board_visit_any`, and why its contract determines it: the contract equates the outcome with a definition, and two
-- things that equal a third are equal (`only_one`, the single law). A function that is missing here is a defect.
-- Assumes nothing.
use mathlib.Core.Path.{refl}
use Rattle.common.specs.Determined.{Determined}
use Rattle.common.proofs.OnlyOne.{only_one}
use Rattle.board_visit_any.proofs.any_visit.Kinds as any-visit-kinds
use Rattle.board_visit_any.proofs.any_visit.Reads as any-visit-reads
use Rattle.board_visit_any.proofs.any_open.Kinds as any-open-kinds
use Rattle.board_visit_any.proofs.any_open.Reads as any-open-reads

any_visit_determined : Determined 1 any-visit-kinds.ps any-visit-kinds.r any-visit-reads.Post
any_visit_determined κs a z z' ws ws' p q = (only_one p.0 q.0, rw (only_one p.1 q.1))

any_open_determined : Determined 1 any-open-kinds.ps any-open-kinds.r any-open-reads.Post
any_open_determined κs a z z' ws ws' p q = (only_one p q, refl)
