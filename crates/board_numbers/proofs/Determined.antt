-- Each public function of `board_numbers`, and why its contract determines it: the contract equates the outcome with a definition, and two
-- things that equal a third are equal (`only_one`, the single law). A function that is missing here is a defect.
-- Assumes nothing.
use mathlib.Core.Path.{refl}
use Rattle.common.specs.Determined.{Determined}
use Rattle.common.proofs.OnlyOne.{only_one}
use Rattle.board_numbers.proofs.tell.Kinds as tell-kinds
use Rattle.board_numbers.proofs.tell.Reads as tell-reads
use Rattle.board_numbers.proofs.verbs_of.Kinds as verbs-of-kinds
use Rattle.board_numbers.proofs.verbs_of.Reads as verbs-of-reads
use Rattle.board_numbers.proofs.verbs_of_any.Kinds as verbs-of-any-kinds
use Rattle.board_numbers.proofs.verbs_of_any.Reads as verbs-of-any-reads

tell_determined : Determined 0 tell-kinds.ps tell-kinds.r tell-reads.Post
tell_determined κs a z z' ws ws' p q = (only_one p q, refl)

verbs_of_determined : Determined 0 verbs-of-kinds.ps verbs-of-kinds.r verbs-of-reads.Post
verbs_of_determined κs a z z' ws ws' p q = (only_one p q, refl)

verbs_of_any_determined : Determined 0 verbs-of-any-kinds.ps verbs-of-any-kinds.r verbs-of-any-reads.Post
verbs_of_any_determined κs a z z' ws ws' p q = (only_one p q, refl)
