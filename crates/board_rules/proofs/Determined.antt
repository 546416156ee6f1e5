-- Each public function of `board_rules`, and why its contract determines it: the contract equates the outcome with a definition, and two
-- things that equal a third are equal (`only_one`, the single law). A function that is missing here is a defect.
-- Assumes nothing.
use mathlib.Core.Path.{refl}
use Rattle.common.specs.Determined.{Determined}
use Rattle.common.proofs.OnlyOne.{only_one}
use Rattle.board_rules.proofs.U8FromRefusal.from.Kinds as refusal-number-kinds
use Rattle.board_rules.proofs.U8FromRefusal.from.Reads as refusal-number-reads

refusal_number_determined : Determined 0 refusal-number-kinds.ps refusal-number-kinds.r refusal-number-reads.Post
refusal_number_determined κs a z z' ws ws' p q = (only_one p q, refl)
