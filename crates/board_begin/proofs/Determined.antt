-- Each public function of `board_begin`, and why its contract determines it: the contract equates the outcome with a definition, and
-- `Leaves` allows one outcome (`leaves_one`). A function that is missing here is a defect.
-- Assumes nothing.
use mathlib.Core.Path.{refl}
use Rattle.common.specs.Determined.{Determined}
use Rattle.common.proofs.OnlyOne.{only_one}
use Rattle.board_nodes.proofs.Same.{board_same, leaves_one}
use Rattle.board_begin.proofs.fresh.Kinds as fresh-kinds
use Rattle.board_begin.proofs.fresh.Reads as fresh-reads
use Rattle.board_begin.proofs.begin.Kinds as begin-kinds
use Rattle.board_begin.proofs.begin.Reads as begin-reads

fresh_determined : Determined 0 fresh-kinds.ps fresh-kinds.r fresh-reads.Post
fresh_determined κs a z z' ws ws' p q = (board_same (only_one p.0 q.0) (only_one p.1.0 q.1.0) (only_one p.1.1 q.1.1), refl)

begin_determined : Determined 1 begin-kinds.ps begin-kinds.r begin-reads.Post
begin_determined κs a z z' ws ws' p q = let e = leaves_one p q in (e.0, rw e.1)
