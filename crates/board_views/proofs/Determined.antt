-- Each public function of `board_views`, and why its contract determines it: the contract equates the outcome with a definition, and two
-- things that equal a third are equal (`only_one`, the single law). A function that is missing here is a defect.
-- Assumes nothing.
use mathlib.Core.Path.{refl}
use Rattle.common.specs.Determined.{Determined}
use Rattle.common.proofs.OnlyOne.{only_one}
use Rattle.board_views.proofs.show.Kinds as show-kinds
use Rattle.board_views.proofs.show.Reads as show-reads
use Rattle.board_views.proofs.used.Kinds as used-kinds
use Rattle.board_views.proofs.used.Reads as used-reads

show_determined : Determined 1 show-kinds.ps show-kinds.r show-reads.Post
show_determined κs a z z' ws ws' p q = (only_one p q, refl)

used_determined : Determined 0 used-kinds.ps used-kinds.r used-reads.Post
used_determined κs a z z' ws ws' p q = (only_one p q, refl)
