-- Each public function of `schedule_c`, and why its contract determines it: the contract equates the outcome with a definition, and two
-- things that equal a third are equal (`only_one`, the single law). A function that is missing here is a defect.
-- Assumes nothing.
use mathlib.Core.Path.{refl}
use Rattle.common.specs.Determined.{Determined}
use Rattle.common.proofs.OnlyOne.{only_one}
use Rattle.schedule_c.proofs.brancove_schedule_read.Kinds as read-kinds
use Rattle.schedule_c.proofs.brancove_schedule_read.Reads as read-reads
use Rattle.schedule_c.proofs.brancove_schedule_write.Kinds as write-kinds
use Rattle.schedule_c.proofs.brancove_schedule_write.Reads as write-reads

read_determined : Determined 1 read-kinds.ps read-kinds.r read-reads.Post
read_determined κs a z z' ws ws' p q = (only_one p q, refl)

write_determined : Determined 1 write-kinds.ps write-kinds.r write-reads.Post
write_determined κs a z z' ws ws' p q = (only_one p.0 q.0, rw (only_one p.1 q.1))
