-- Each public function of `run_halts`, and why its contract determines it: the contract equates the number of the outcome with a definition, two
-- numbers that equal a third are equal (`only_one`, the single law), and an ending is had from its number (`one_maybe`, `one_ending`). A function
-- that is missing here is a defect.
-- Assumes nothing.
use mathlib.Core.Path.{refl}
use Rattle.common.specs.Determined.{Determined}
use Rattle.common.proofs.OnlyOne.{only_one}
use Rattle.run_rules.proofs.Endings.{one_ending, one_maybe}
use Rattle.run_halts.proofs.halted.Kinds as halted-kinds
use Rattle.run_halts.proofs.halted.Reads as halted-reads
use Rattle.run_halts.proofs.left_by.Kinds as left-by-kinds
use Rattle.run_halts.proofs.left_by.Reads as left-by-reads

halted_determined : Determined 0 halted-kinds.ps halted-kinds.r halted-reads.Post
halted_determined κs a z z' ws ws' p q = (one_maybe z z' (only_one p q), refl)

left_by_determined : Determined 0 left-by-kinds.ps left-by-kinds.r left-by-reads.Post
left_by_determined κs a z z' ws ws' p q = (one_ending z z' (only_one p q), refl)
