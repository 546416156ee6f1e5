-- What a request sends and becomes goes by its phase: one law for each of the six definitions, for the layers above and for
-- the functions here, which all turn the kept number into its phase first.
-- Assumes nothing.
use Prim.Native.Nat.{ℕ}
use mathlib.Core.Path.{◌≡◌, ap}
use mathlib.Core.List.{List, [], ◌∷◌}
use mathlib.Core.Logic.{⊎_elim}
use native.Mathlib.Omega.{arith}
use types.Run.{OneOf}
use denote.Enum.Declared.{tag_of}
use Rattle.agent_request.specs.Request.{phase_of}
use Rattle.agent_rules.specs.Life.{step_sends, step_sends_in, release_sends, release_sends_in, step_takes, step_takes_in, release_takes, release_takes_in}
use Rattle.agent_rules.specs.Care.{care_sends, care_sends_in, care_takes, care_takes_in}
use Rattle.agent_request.specs.declared.Request.{Request}
use Rattle.agent_request.specs.declared.Phase.{Phase}
use Rattle.agent_request.specs.declared.Phase.TheVariants.{Free, Asking, Waiting, Held, Owing, Clearing}
use Rattle.agent_request.specs.contracts.Phase as phase

module _ (q : Request) (p : Phase) (e : phase_of q.phase ≡ p) where
  pub step_sends_in_law : step_sends q ≡ step_sends_in p q
  unfolding step_sends
  step_sends_in_law = ap (λ (p : Phase). step_sends_in p q) e

  pub release_sends_in_law : release_sends q ≡ release_sends_in p q
  unfolding release_sends
  release_sends_in_law = ap (λ (p : Phase). release_sends_in p q) e

  pub step_takes_in_law : (v : ℕ) → step_takes q v ≡ step_takes_in p q v
  unfolding step_takes
  step_takes_in_law v = ap (λ (p : Phase). step_takes_in p q v) e

  pub release_takes_in_law : (v : ℕ) → release_takes q v ≡ release_takes_in p q
  unfolding release_takes
  release_takes_in_law v = ap (λ (p : Phase). release_takes_in p q) e

  pub care_sends_in_law : care_sends q ≡ care_sends_in p q
  unfolding care_sends
  care_sends_in_law = ap (λ (p : Phase). care_sends_in p q) e

  pub care_takes_in_law : (v : ℕ) → care_takes q v ≡ care_takes_in p q v
  unfolding care_takes
  care_takes_in_law v = ap (λ (p : Phase). care_takes_in p q v) e

-- the places of the phases other than Held among the variants, as the `else` of a `let .. else` has them
abbrev others : List ℕ
others = 0 ∷ 1 ∷ 2 ∷ 4 ∷ 5 ∷ []

not_held : OneOf others 3 → ⊥
not_held o =
    ⊎_elim (λ e. omega arith)
    (⊎_elim (λ e. omega arith) (⊎_elim (λ e. omega arith) (⊎_elim (λ e. omega arith) (λ e. omega arith))))
    o

-- what holds of every other phase holds of a phase that is one of them; docs/RATTLE.md names it, and nothing here needs it today
pub unless_held :
    {A : Type 0} (f : Phase → A) (a : A) →
    f Free ≡ a →
    f Asking ≡ a →
    f Waiting ≡ a →
    f Owing ≡ a →
    f Clearing ≡ a →
    (p : Phase) →
    OneOf others (tag_of phase.the_type p) →
    f p ≡ a
unless_held f a free asking waiting owing clearing Free o = free
unless_held f a free asking waiting owing clearing Asking o = asking
unless_held f a free asking waiting owing clearing Waiting o = waiting
unless_held f a free asking waiting owing clearing Held o = absurd (not_held o)
unless_held f a free asking waiting owing clearing Owing o = owing
unless_held f a free asking waiting owing clearing Clearing o = clearing
