-- Each public function of `board_records`, and why its contract determines it: the contract equates the outcome with a definition, and two
-- things that equal a third are equal (`only_one`, the single law). A function that is missing here is a defect.
-- Assumes nothing.
use mathlib.Core.Path.{refl}
use Rattle.common.specs.Determined.{Determined}
use Rattle.common.proofs.OnlyOne.{only_one}
use Rattle.board_records.proofs.is_record.Kinds as is-record-kinds
use Rattle.board_records.proofs.is_record.Reads as is-record-reads
use Rattle.board_records.proofs.refused.Kinds as refused-kinds
use Rattle.board_records.proofs.refused.Reads as refused-reads

is_record_determined : Determined 0 is-record-kinds.ps is-record-kinds.r is-record-reads.Post
is_record_determined κs a z z' ws ws' p q = (only_one p q, refl)

refused_determined : Determined 0 refused-kinds.ps refused-kinds.r refused-reads.Post
refused_determined κs a z z' ws ws' p q = (only_one p q, refl)
