-- Each public function of `board_visit_waiting`, and why its contract determines it: the contract equates the outcome with a definition, and two
-- things that equal a third are equal (`only_one`, the single law). A function that is missing here is a defect.
-- Assumes nothing.
use mathlib.Core.Path.{refl}
use Rattle.common.specs.Determined.{Determined}
use Rattle.common.proofs.OnlyOne.{only_one}
use Rattle.board_visit_waiting.proofs.stepped.Kinds as stepped-kinds
use Rattle.board_visit_waiting.proofs.stepped.Reads as stepped-reads
use Rattle.board_visit_waiting.proofs.still_ahead.Kinds as still-ahead-kinds
use Rattle.board_visit_waiting.proofs.still_ahead.Reads as still-ahead-reads

stepped_determined : Determined 0 stepped-kinds.ps stepped-kinds.r stepped-reads.Post
stepped_determined κs a z z' ws ws' p q = (only_one p q, refl)

still_ahead_determined : Determined 1 still-ahead-kinds.ps still-ahead-kinds.r still-ahead-reads.Post
still_ahead_determined κs a z z' ws ws' p q = (only_one p q, refl)
