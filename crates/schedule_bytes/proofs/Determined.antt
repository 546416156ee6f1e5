-- Each public function of `schedule_bytes`, and why its contract determines it: the contract equates the outcome with a definition, and two
-- things that equal a third are equal (`only_one`, the single law). A function that is missing here is a defect.
-- Assumes nothing.
use mathlib.Core.Path.{refl}
use Rattle.common.specs.Determined.{Determined}
use Rattle.common.proofs.OnlyOne.{only_one}
use Rattle.schedule_bytes.proofs.body.Kinds as body-kinds
use Rattle.schedule_bytes.proofs.body.Reads as body-reads
use Rattle.schedule_bytes.proofs.next_at.Kinds as next-at-kinds
use Rattle.schedule_bytes.proofs.next_at.Reads as next-at-reads

body_determined : Determined 0 body-kinds.ps body-kinds.r body-reads.Post
body_determined κs a z z' ws ws' p q = (only_one p q, refl)

next_at_determined : Determined 1 next-at-kinds.ps next-at-kinds.r next-at-reads.Post
next_at_determined κs a z z' ws ws' p q = (only_one p q, refl)
