-- Each public function of `board_visit_open`, and why its contract determines it: the contract equates the outcome with a definition, and two
-- things that equal a third are equal (`only_one`, the single law). A function that is missing here is a defect.
-- Assumes nothing.
use mathlib.Core.Path.{refl}
use Rattle.common.specs.Determined.{Determined}
use Rattle.common.proofs.OnlyOne.{only_one}
use Rattle.board_visit_open.proofs.open_visit.Kinds as open-visit-kinds
use Rattle.board_visit_open.proofs.open_visit.Reads as open-visit-reads

open_visit_determined : Determined 1 open-visit-kinds.ps open-visit-kinds.r open-visit-reads.Post
open_visit_determined κs a z z' ws ws' p q = (only_one p q, refl)
