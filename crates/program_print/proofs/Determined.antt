-- Each public function of `program_print`, and why its contract determines it: it prints, and hands back nothing and changes nothing lent; two
-- outcomes are then equal at once. A function that is missing here is a defect.
-- Assumes nothing.
use Rattle.std.proofs.Common.{refl}
use Rattle.common.specs.Determined.{Determined}
use Rattle.program_print.proofs.entry_lines.Kinds as entry-lines-kinds
use Rattle.program_print.proofs.entry_lines.Reads as entry-lines-reads
use Rattle.program_print.proofs.end_line.Kinds as end-line-kinds
use Rattle.program_print.proofs.end_line.Reads as end-line-reads
use Rattle.program_print.proofs.care_lines.Kinds as care-lines-kinds
use Rattle.program_print.proofs.care_lines.Reads as care-lines-reads

entry_lines_determined : Determined 1 entry-lines-kinds.ps entry-lines-kinds.r entry-lines-reads.Post
entry_lines_determined κs a z z' ws ws' p q = (refl, refl)

end_line_determined : Determined 0 end-line-kinds.ps end-line-kinds.r end-line-reads.Post
end_line_determined κs a z z' ws ws' p q = (refl, refl)

care_lines_determined : Determined 1 care-lines-kinds.ps care-lines-kinds.r care-lines-reads.Post
care_lines_determined κs a z z' ws ws' p q = (refl, refl)
