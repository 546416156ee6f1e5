-- Each public function of `board_by_value`, and why its contract determines it: the contract equates the outcome with a definition, and
-- `Leaves` allows one outcome (`leaves_one`). A function that is missing here is a defect.
-- Assumes nothing.
use Rattle.common.specs.Determined.{Determined}
use Rattle.board_nodes.proofs.Same.{leaves_one}
use Rattle.board_by_value.proofs.open.Kinds as open-kinds
use Rattle.board_by_value.proofs.open.Reads as open-reads
use Rattle.board_by_value.proofs.open_as.Kinds as open-as-kinds
use Rattle.board_by_value.proofs.open_as.Reads as open-as-reads
use Rattle.board_by_value.proofs.step.Kinds as step-kinds
use Rattle.board_by_value.proofs.step.Reads as step-reads
use Rattle.board_by_value.proofs.release.Kinds as release-kinds
use Rattle.board_by_value.proofs.release.Reads as release-reads
use Rattle.board_by_value.proofs.fence.Kinds as fence-kinds
use Rattle.board_by_value.proofs.fence.Reads as fence-reads
use Rattle.board_by_value.proofs.care.Kinds as care-kinds
use Rattle.board_by_value.proofs.care.Reads as care-reads

open_determined : Determined 1 open-kinds.ps open-kinds.r open-reads.Post
open_determined κs a z z' ws ws' p q = let e = leaves_one p q in (e.0, rw e.1)

open_as_determined : Determined 1 open-as-kinds.ps open-as-kinds.r open-as-reads.Post
open_as_determined κs a z z' ws ws' p q = let e = leaves_one p q in (e.0, rw e.1)

step_determined : Determined 1 step-kinds.ps step-kinds.r step-reads.Post
step_determined κs a z z' ws ws' p q = let e = leaves_one p q in (e.0, rw e.1)

release_determined : Determined 1 release-kinds.ps release-kinds.r release-reads.Post
release_determined κs a z z' ws ws' p q = let e = leaves_one p q in (e.0, rw e.1)

fence_determined : Determined 1 fence-kinds.ps fence-kinds.r fence-reads.Post
fence_determined κs a z z' ws ws' p q = let e = leaves_one p q in (e.0, rw e.1)

care_determined : Determined 1 care-kinds.ps care-kinds.r care-reads.Post
care_determined κs a z z' ws ws' p q = let e = leaves_one p q in (e.0, rw e.1)
