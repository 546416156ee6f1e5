-- Each public function of `schedule_writer`, and why its contract determines it: the contract equates the outcome with a definition, and two
-- things that equal a third are equal (`only_one`, the single law). A function that is missing here is a defect.
-- Assumes nothing.
use mathlib.Core.Path.{refl}
use Rattle.common.specs.Determined.{Determined}
use Rattle.common.proofs.OnlyOne.{only_one}
use Rattle.schedule_writer.proofs.U8FromRefused.from.Kinds as refusal-number-kinds
use Rattle.schedule_writer.proofs.U8FromRefused.from.Reads as refusal-number-reads
use Rattle.schedule_writer.proofs.NotWrittenFromRefused.from.Kinds as not-written-kinds
use Rattle.schedule_writer.proofs.NotWrittenFromRefused.from.Reads as not-written-reads
use Rattle.schedule_writer.proofs.put.Kinds as put-kinds
use Rattle.schedule_writer.proofs.put.Reads as put_reads
use Rattle.schedule_writer.proofs.write.Kinds as write-kinds
use Rattle.schedule_writer.proofs.write.Reads as write-reads

refusal_number_determined : Determined 0 refusal-number-kinds.ps refusal-number-kinds.r refusal-number-reads.Post
refusal_number_determined κs a z z' ws ws' p q = (only_one p q, refl)

not_written_determined : Determined 0 not-written-kinds.ps not-written-kinds.r not-written-reads.Post
not_written_determined κs a z z' ws ws' p q = (only_one p q, refl)

put_determined : Determined 1 put-kinds.ps put-kinds.r put_reads.Post
put_determined κs a z z' ws ws' p q = (only_one p.0 q.0, rw (only_one p.1 q.1))

write_determined : Determined 1 write-kinds.ps write-kinds.r write-reads.Post
write_determined κs a z z' ws ws' p q = (only_one p.0 q.0, rw (only_one p.1 q.1))
