-- Each public function of `schedule_reader`, and why its contract determines it: the contract equates the outcome with a definition, and two
-- things that equal a third are equal (`only_one`, the single law). A function that is missing here is a defect.
-- A reader holds a slice, and of a contract over such a struct the toolchain makes no reading `Reads.Post`: `Says` is one, found by antt from the
-- contract's own clause.
-- Assumes nothing.
use mathlib.Core.Path.{refl}
use Rattle.common.specs.Determined.{Determined, DeterminedOf, Says}
use Rattle.common.proofs.OnlyOne.{only_one}
use Rattle.schedule_reader.specs.contracts.Reader.new as new
use Rattle.schedule_reader.specs.contracts.Reader.next as next
use Rattle.schedule_reader.proofs.first.Kinds as first-kinds
use Rattle.schedule_reader.proofs.first.Reads as first_reads

abbrev new_says : Says new.ended (λ w κs a r s. (new.clauses w.𝓛 w.𝓜.mem w.𝓡.run κs a).ensures tt r s)
new_says = record { claim = _; exactly = λ w κs a r s. refl }

new_determined : DeterminedOf new.ended new_says.claim
new_determined κs a z z' ws ws' p q = (only_one p q, refl)

abbrev next_says : Says next.ended (λ w κs a r s. (next.clauses w.𝓛 w.𝓜.mem w.𝓡.run κs a).ensures tt r s)
next_says = record { claim = _; exactly = λ w κs a r s. refl }

next_determined : DeterminedOf next.ended next_says.claim
next_determined κs a z z' ws ws' p q = (only_one p.0 q.0, rw (only_one p.1 q.1))

first_determined : Determined 1 first-kinds.ps first-kinds.r first_reads.Post
first_determined κs a z z' ws ws' p q = (only_one p q, refl)
