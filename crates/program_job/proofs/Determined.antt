-- Each public function of `program_job`, and why its contract determines it: a job prints, and hands back nothing and changes nothing lent, so two
-- outcomes are equal at once; a sum equals its definition. A function that is missing here is a defect.
-- Assumes nothing.
use Rattle.std.proofs.Common.{refl}
use Rattle.common.specs.Determined.{Determined}
use Rattle.common.proofs.OnlyOne.{only_one}
use Rattle.program_job.proofs.Totals.and.Kinds as and-kinds
use Rattle.program_job.proofs.Totals.and.Reads as and-reads
use Rattle.program_job.proofs.Totals.end_line.Kinds as end-line-kinds
use Rattle.program_job.proofs.Totals.end_line.Reads as end-line-reads
use Rattle.program_job.proofs.play_lines.Kinds as play-lines-kinds
use Rattle.program_job.proofs.play_lines.Reads as play-lines-reads
use Rattle.program_job.proofs.repair_lines.Kinds as repair-lines-kinds
use Rattle.program_job.proofs.repair_lines.Reads as repair-lines-reads

and_determined : Determined 1 and-kinds.ps and-kinds.r and-reads.Post
and_determined κs a z z' ws ws' p q = (only_one p q, refl)

end_line_determined : Determined 0 end-line-kinds.ps end-line-kinds.r end-line-reads.Post
end_line_determined κs a z z' ws ws' p q = (refl, refl)

play_lines_determined : Determined 1 play-lines-kinds.ps play-lines-kinds.r play-lines-reads.Post
play_lines_determined κs a z z' ws ws' p q = (refl, refl)

repair_lines_determined : Determined 1 repair-lines-kinds.ps repair-lines-kinds.r repair-lines-reads.Post
repair_lines_determined κs a z z' ws ws' p q = (refl, refl)
