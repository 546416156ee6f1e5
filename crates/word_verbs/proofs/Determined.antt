-- Each public function of `word_verbs`, and why its contract determines it: the contract equates the outcome with a definition, and two
-- things that equal a third are equal (`only_one`, the single law). A function that is missing here is a defect.
-- Assumes nothing.
use Rattle.std.proofs.Common.{refl}
use Rattle.common.specs.Determined.{Determined}
use Rattle.common.proofs.OnlyOne.{only_one}
use Rattle.word_verbs.proofs.add.Kinds as add-kinds
use Rattle.word_verbs.proofs.add.Reads as add_reads
use Rattle.word_verbs.proofs.read.Kinds as read-kinds
use Rattle.word_verbs.proofs.read.Reads as read-reads
use Rattle.word_verbs.proofs.swap.Kinds as swap-kinds
use Rattle.word_verbs.proofs.swap.Reads as swap-reads

add_determined : Determined 1 add-kinds.ps add-kinds.r add_reads.Post
add_determined κs a z z' ws ws' p q = (only_one p.0 q.0, rw (only_one p.1 q.1))

read_determined : Determined 1 read-kinds.ps read-kinds.r read-reads.Post
read_determined κs a z z' ws ws' p q = (only_one p q, refl)

swap_determined : Determined 1 swap-kinds.ps swap-kinds.r swap-reads.Post
swap_determined κs a z z' ws ws' p q = (only_one p.0 q.0, rw (only_one p.1 q.1))
