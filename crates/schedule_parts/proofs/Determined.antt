-- Each public function of `schedule_parts`, and why its contract determines it: the contract equates the outcome with a definition, and two
-- things that equal a third are equal (`only_one`, the single law). A function that is missing here is a defect.
-- Assumes nothing.
use mathlib.Core.Path.{refl}
use Rattle.common.specs.Determined.{Determined}
use Rattle.common.proofs.OnlyOne.{only_one}
use Rattle.schedule_parts.proofs.parts_of.Kinds as parts-of-kinds
use Rattle.schedule_parts.proofs.parts_of.Reads as parts-of-reads

parts_of_determined : Determined 0 parts-of-kinds.ps parts-of-kinds.r parts-of-reads.Post
parts_of_determined κs a z z' ws ws' p q = (only_one p q, refl)
