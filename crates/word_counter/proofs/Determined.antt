-- Each public function of `word_counter`, and why its contract determines it, for every kind of counter: the contract equates the outcome
-- with a definition, and two things that equal a third are equal (`only_one`, the single law). A function that is missing here is a defect.
-- Assumes nothing.
use mathlib.Core.Path.{refl}
use Rattle.common.specs.Determined.{Determined}
use Rattle.common.proofs.OnlyOne.{only_one}
use Rattle.word_counter.proofs.Counting.number.Kinds as number-kinds
use Rattle.word_counter.proofs.Counting.number.Reads as number-reads
use Rattle.word_counter.proofs.Counting.exceeds.Kinds as exceeds-kinds
use Rattle.word_counter.proofs.Counting.exceeds.Reads as exceeds-reads
use Rattle.word_counter.proofs.Counting.reaches.Kinds as reaches-kinds
use Rattle.word_counter.proofs.Counting.reaches.Reads as reaches-reads
use Rattle.word_counter.proofs.Counting.equals.Kinds as equals-kinds
use Rattle.word_counter.proofs.Counting.equals.Reads as equals-reads
use Rattle.word_counter.proofs.Counting.beyond.Kinds as beyond-kinds
use Rattle.word_counter.proofs.Counting.beyond.Reads as beyond-reads

number_determined : (t l c g d h e : _) → Determined 1 (number-kinds.ps t l c) (number-kinds.r t l c) (number-reads.Post t l c g d h e)
number_determined t l c g d h e κs a z z' ws ws' p q = (only_one p q, refl)

exceeds_determined : (t l c g d h e : _) → Determined 1 (exceeds-kinds.ps t l c) (exceeds-kinds.r t l c) (exceeds-reads.Post t l c g d h e)
exceeds_determined t l c g d h e κs a z z' ws ws' p q = (only_one p q, refl)

reaches_determined : (t l c g d h e : _) → Determined 1 (reaches-kinds.ps t l c) (reaches-kinds.r t l c) (reaches-reads.Post t l c g d h e)
reaches_determined t l c g d h e κs a z z' ws ws' p q = (only_one p q, refl)

equals_determined : (t l c g d h e : _) → Determined 1 (equals-kinds.ps t l c) (equals-kinds.r t l c) (equals-reads.Post t l c g d h e)
equals_determined t l c g d h e κs a z z' ws ws' p q = (only_one p q, refl)

beyond_determined : (t l c g d h e : _) → Determined 1 (beyond-kinds.ps t l c) (beyond-kinds.r t l c) (beyond-reads.Post t l c g d h e)
beyond_determined t l c g d h e κs a z z' ws ws' p q = (only_one p q, refl)
