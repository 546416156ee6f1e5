-- What a caretaker's turn is, in three statements over what a step and a release do, and that it draws no ticket.
use Rattle.std.specs.Prelude.{ℕ, ◌≡◌}
use Rattle.word_layout.specs.Word.{step_of}
use Rattle.agent_ticket.specs.declared.Mode.{Mode}
use Rattle.agent_request.specs.Request.{phase_of}
use Rattle.agent_request.specs.declared.Request.{Request}
use Rattle.agent_request.specs.declared.Phase.TheVariants.{Asking, Held}
use Rattle.agent_rules.specs.Life.{ticket_counter, step_sends, release_sends, step_takes, release_takes, freed}
use Rattle.agent_rules.specs.Care.{care_sends, care_takes}
use Rattle.agent_rules.specs.declared.Verb.TheVariants as verb
use Rattle.agent_rules.specs.declared.Answer.TheVariants as answer

-- Rule 3.16: The care of an Asking request sends nothing, and frees it, told freed unasked, whatever is handed over.
abbrev pub CareNeverAsks : Type 0
CareNeverAsks = (q : Request) (v : ℕ) → phase_of q.phase ≡ Asking → (care_sends q ≡ verb.Nothing) × (care_takes q v ≡ freed answer.FreedUnasked)

-- Rule 3.16: The care of a Held request is its release.
abbrev pub CareOfHeldIsItsRelease : Type 0
CareOfHeldIsItsRelease = (q : Request) (v : ℕ) → phase_of q.phase ≡ Held → (care_sends q ≡ release_sends q) × (care_takes q v ≡ release_takes q v)

-- Rule 3.16: The care of any other request is its step.
abbrev pub CareOfOthersIsItsStep : Type 0
CareOfOthersIsItsStep =
    (q : Request) (v : ℕ) →
    (phase_of q.phase ≡ Asking → ⊥) →
    (phase_of q.phase ≡ Held → ⊥) →
    (care_sends q ≡ step_sends q) × (care_takes q v ≡ step_takes q v)

-- Rules 3.1 and 3.16: Whatever the request, a care draws no ticket: it adds 1 to no ticket counter.
abbrev pub CareDrawsNoTicket : Type 0
CareDrawsNoTicket = (q : Request) (m : Mode) → care_sends q ≡ verb.Add (step_of (ticket_counter m)) → ⊥
