-- Each public function of `agent_numbers`, and why its contract determines it: the contract equates the outcome with a definition, and two
-- things that equal a third are equal (`only_one`, the single law). A function that is missing here is a defect.
-- Assumes nothing.
use mathlib.Core.Path.{refl}
use Rattle.common.specs.Determined.{Determined}
use Rattle.common.proofs.OnlyOne.{only_one}
use Rattle.agent_numbers.proofs.numbers_of.Kinds as numbers-of-kinds
use Rattle.agent_numbers.proofs.numbers_of.Reads as numbers-of-reads

numbers_of_determined : Determined 0 numbers-of-kinds.ps numbers-of-kinds.r numbers-of-reads.Post
numbers_of_determined κs a z z' ws ws' p q = (only_one p q, refl)
