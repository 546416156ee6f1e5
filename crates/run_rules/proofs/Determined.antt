-- Each public function of `run_rules`, and why its contract determines it: the contract equates the outcome with a definition, and two
-- things that equal a third are equal (`only_one`, the single law). A function that is missing here is a defect.
-- Assumes nothing.
use mathlib.Core.Path.{refl}
use Rattle.common.specs.Determined.{Determined}
use Rattle.common.proofs.OnlyOne.{only_one}
use Rattle.run_rules.proofs.U8FromEnding.from.Kinds as ending-number-kinds
use Rattle.run_rules.proofs.U8FromEnding.from.Reads as ending-number-reads

ending_number_determined : Determined 0 ending-number-kinds.ps ending-number-kinds.r ending-number-reads.Post
ending_number_determined κs a z z' ws ws' p q = (only_one p q, refl)
