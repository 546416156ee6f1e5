-- Each public function of `agent_c`, and why its contract determines it: the contract equates the outcome with a definition, and two
-- things that equal a third are equal (`only_one`, the single law). A function that is missing here is a defect.
-- Of a contract over a struct behind a reference the toolchain makes no reading `Reads.Post`: `Says` is one, found by antt from the contract's own
-- clause.
-- Assumes nothing.
use mathlib.Core.Path.{refl}
use Rattle.common.specs.Determined.{Determined, DeterminedOf, Says}
use Rattle.common.proofs.OnlyOne.{only_one}
use Rattle.agent_c.specs.contracts.brancove_ask as ask
use Rattle.agent_c.specs.contracts.brancove_step_sends as step-sends
use Rattle.agent_c.specs.contracts.brancove_release_sends as release-sends
use Rattle.agent_c.specs.contracts.brancove_care_sends as care-sends
use Rattle.agent_c.specs.contracts.brancove_step_takes as step-takes
use Rattle.agent_c.specs.contracts.brancove_release_takes as release-takes
use Rattle.agent_c.specs.contracts.brancove_care_takes as care-takes
use Rattle.agent_c.proofs.brancove_split.Kinds as split-kinds
use Rattle.agent_c.proofs.brancove_split.Reads as split-reads

abbrev ask_says : Says ask.ended (λ w κs a r s. (ask.clauses w.𝓛 w.𝓜.mem w.𝓡.run κs a).ensures tt r s)
ask_says = record { claim = _; exactly = λ w κs a r s. refl }

ask_determined : DeterminedOf ask.ended ask_says.claim
ask_determined κs a z z' ws ws' p q = (only_one p.0 q.0, rw (only_one p.1 q.1))

abbrev step_sends_says : Says step-sends.ended (λ w κs a r s. (step-sends.clauses w.𝓛 w.𝓜.mem w.𝓡.run κs a).ensures tt r s)
step_sends_says = record { claim = _; exactly = λ w κs a r s. refl }

step_sends_determined : DeterminedOf step-sends.ended step_sends_says.claim
step_sends_determined κs a z z' ws ws' p q = (only_one p.0 q.0, rw (only_one p.1 q.1))

abbrev release_sends_says : Says release-sends.ended (λ w κs a r s. (release-sends.clauses w.𝓛 w.𝓜.mem w.𝓡.run κs a).ensures tt r s)
release_sends_says = record { claim = _; exactly = λ w κs a r s. refl }

release_sends_determined : DeterminedOf release-sends.ended release_sends_says.claim
release_sends_determined κs a z z' ws ws' p q = (only_one p.0 q.0, rw (only_one p.1 q.1))

abbrev care_sends_says : Says care-sends.ended (λ w κs a r s. (care-sends.clauses w.𝓛 w.𝓜.mem w.𝓡.run κs a).ensures tt r s)
care_sends_says = record { claim = _; exactly = λ w κs a r s. refl }

care_sends_determined : DeterminedOf care-sends.ended care_sends_says.claim
care_sends_determined κs a z z' ws ws' p q = (only_one p.0 q.0, rw (only_one p.1 q.1))

abbrev step_takes_says : Says step-takes.ended (λ w κs a r s. (step-takes.clauses w.𝓛 w.𝓜.mem w.𝓡.run κs a).ensures tt r s)
step_takes_says = record { claim = _; exactly = λ w κs a r s. refl }

step_takes_determined : DeterminedOf step-takes.ended step_takes_says.claim
step_takes_determined κs a z z' ws ws' p q = (only_one p.0 q.0, rw (only_one p.1 q.1))

abbrev release_takes_says : Says release-takes.ended (λ w κs a r s. (release-takes.clauses w.𝓛 w.𝓜.mem w.𝓡.run κs a).ensures tt r s)
release_takes_says = record { claim = _; exactly = λ w κs a r s. refl }

release_takes_determined : DeterminedOf release-takes.ended release_takes_says.claim
release_takes_determined κs a z z' ws ws' p q = (only_one p.0 q.0, rw (only_one p.1 q.1))

abbrev care_takes_says : Says care-takes.ended (λ w κs a r s. (care-takes.clauses w.𝓛 w.𝓜.mem w.𝓡.run κs a).ensures tt r s)
care_takes_says = record { claim = _; exactly = λ w κs a r s. refl }

care_takes_determined : DeterminedOf care-takes.ended care_takes_says.claim
care_takes_determined κs a z z' ws ws' p q = (only_one p.0 q.0, rw (only_one p.1 q.1))

split_determined : Determined 0 split-kinds.ps split-kinds.r split-reads.Post
split_determined κs a z z' ws ws' p q = (only_one p q, refl)
