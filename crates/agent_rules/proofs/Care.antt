-- Why a care is what rule 3.16 says: the phase decides, and each phase has one line in the definition. It draws no ticket, since the two adds
-- that a care can send, a release and a withdrawal, add other numbers.
-- Assumes nothing.
use Prim.Native.Nat.{ℕ}
use mathlib.Core.Path.{◌≡◌, refl, ap, sym, ◌∙◌}
use native.Mathlib.Omega.{arith}
use Rattle.word_layout.specs.Word.{step_of, back_of}
use Rattle.agent_ticket.specs.declared.Mode.{Mode}
use Rattle.agent_ticket.specs.declared.Mode.TheVariants.{Reader, Writer}
use Rattle.agent_request.specs.Request.{phase_of, mode_of}
use Rattle.agent_request.specs.declared.Request.{Request}
use Rattle.agent_request.specs.declared.Phase.{Phase}
use Rattle.agent_request.specs.declared.Phase.TheVariants.{Free, Asking, Waiting, Held, Owing, Clearing}
use Rattle.agent_rules.specs.Life.{ticket_counter, release_counter, step_sends, step_takes}
use Rattle.agent_rules.specs.Care.{care_sends_in, care_takes_in}
use Rattle.agent_rules.specs.CarePromises.{CareNeverAsks, CareOfHeldIsItsRelease, CareOfOthersIsItsStep, CareDrawsNoTicket}
use Rattle.agent_rules.specs.declared.Verb.{Verb}
use Rattle.agent_rules.specs.declared.Verb.TheVariants as verb
use Rattle.agent_rules.proofs.Phases.{step_sends_in_law, release_sends_in_law, care_sends_in_law, care_takes_in_law}

pub care_never_asks : CareNeverAsks
care_never_asks q v e = (care_sends_in_law q Asking e, care_takes_in_law q Asking e v)

pub care_of_held_is_its_release : CareOfHeldIsItsRelease
care_of_held_is_its_release q v e = (care_sends_in_law q Held e, care_takes_in_law q Held e v)

others : (p : Phase) (q : Request) (v : ℕ) → (p ≡ Asking → ⊥) → (p ≡ Held → ⊥) → (care_sends_in p q ≡ step_sends q) × (care_takes_in p q v ≡ step_takes q v)
others Free q v a h = (refl, refl)
others Asking q v a h = absurd (a refl)
others Waiting q v a h = (refl, refl)
others Held q v a h = absurd (h refl)
others Owing q v a h = (refl, refl)
others Clearing q v a h = (refl, refl)

pub care_of_others_is_its_step : CareOfOthersIsItsStep
care_of_others_is_its_step q v a h =
    let p = phase_of q.phase in
    let o = others p q v a h in
    (care_sends_in_law q p refl ∙ o.0, care_takes_in_law q p refl v ∙ o.1)

-- the number that a verb adds, 0 where it adds none
abbrev adds : Verb → ℕ
adds verb.Nothing = 0
adds (verb.Add k) = k
adds verb.Read = 0
adds (verb.Swap old new) = 0

nothing_else : (m : Mode) → step_of (ticket_counter m) ≡ 0 → ⊥
nothing_else Reader e = omega arith
nothing_else Writer e = omega arith

no_release : (n m : Mode) → step_of (release_counter n) ≡ step_of (ticket_counter m) → ⊥
no_release Reader Reader e = omega arith
no_release Reader Writer e = omega arith
no_release Writer Reader e = omega arith
no_release Writer Writer e = omega arith

no_withdrawal : (n m : Mode) → back_of (ticket_counter n) ≡ step_of (ticket_counter m) → ⊥
no_withdrawal Reader Reader e = omega arith
no_withdrawal Reader Writer e = omega arith
no_withdrawal Writer Reader e = omega arith
no_withdrawal Writer Writer e = omega arith

draws_none : (p : Phase) (q : Request) → phase_of q.phase ≡ p → (m : Mode) → adds (care_sends_in p q) ≡ step_of (ticket_counter m) → ⊥
draws_none Free q e m a = nothing_else m (sym a ∙ ap adds (step_sends_in_law q Free e))
draws_none Asking q e m a = nothing_else m (sym a)
draws_none Waiting q e m a = nothing_else m (sym a ∙ ap adds (step_sends_in_law q Waiting e))
draws_none Held q e m a = no_release (mode_of q.mode) m (sym (ap adds (release_sends_in_law q Held e)) ∙ a)
draws_none Owing q e m a = no_withdrawal (mode_of q.mode) m (sym (ap adds (step_sends_in_law q Owing e)) ∙ a)
draws_none Clearing q e m a = nothing_else m (sym a ∙ ap adds (step_sends_in_law q Clearing e))

pub care_draws_no_ticket : CareDrawsNoTicket
care_draws_no_ticket q m e =
    let p = phase_of q.phase in
    draws_none p q refl m (sym (ap adds (care_sends_in_law q p refl)) ∙ ap adds e)
