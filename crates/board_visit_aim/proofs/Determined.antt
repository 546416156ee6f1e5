-- Each public function of `board_visit_aim`, and why its contract determines it: the contract equates the outcome with a definition, and two
-- things that equal a third are equal (`only_one`, the single law). A function that is missing here is a defect.
-- Assumes nothing.
use mathlib.Core.Path.{refl}
use Rattle.common.specs.Determined.{Determined}
use Rattle.common.proofs.OnlyOne.{only_one}
use Rattle.board_visit_aim.proofs.aim.Kinds as aim-kinds
use Rattle.board_visit_aim.proofs.aim.Reads as aim-reads

aim_determined : Determined 0 aim-kinds.ps aim-kinds.r aim-reads.Post
aim_determined κs a z z' ws ws' p q = (only_one p q, refl)
