-- Each public function of `board_map_read`, and why its contract determines it: the contract equates the outcome with a definition, and two
-- things that equal a third are equal (`only_one`, the single law). A function that is missing here is a defect.
-- Assumes nothing.
use mathlib.Core.Path.{refl}
use Rattle.common.specs.Determined.{Determined}
use Rattle.common.proofs.OnlyOne.{only_one}
use Rattle.board_map_read.proofs.lowest.Kinds as lowest-kinds
use Rattle.board_map_read.proofs.lowest.Reads as lowest-reads
use Rattle.board_map_read.proofs.count.Kinds as count-kinds
use Rattle.board_map_read.proofs.count.Reads as count-reads

lowest_determined : Determined 0 lowest-kinds.ps lowest-kinds.r lowest-reads.Post
lowest_determined κs a z z' ws ws' p q = (only_one p q, refl)

count_determined : Determined 0 count-kinds.ps count-kinds.r count-reads.Post
count_determined κs a z z' ws ws' p q = (only_one p q, refl)
