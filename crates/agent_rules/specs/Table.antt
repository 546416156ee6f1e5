-- When the agent refuses: rules 5.1 and 5.2 for 5, wrong phase, as a table of one line for each call.
use Rattle.std.specs.Prelude.{ℕ, ◌<◌, ◌≡◌, Bool, not, ◌||◌, ◌↔◌, List, [], ◌∷◌, eqb, ltb}
use Rattle.common.specs.Table.{Line, line, Gives}
use Rattle.agent_request.specs.declared.Request.{Request}
use Rattle.agent_rules.specs.Answers.{numbers_of}
use Rattle.agent_rules.specs.Life.{step_takes, release_takes}
use Rattle.agent_rules.specs.Care.{care_takes}

-- Rule 2.3, on the kept number: a phase is free if it is 0, or none of 1 to 5; Held if it is 3.
abbrev pub is_free : Request → Bool
is_free q = eqb q.phase 0 || ltb 5 q.phase

abbrev pub is_held : Request → Bool
is_held q = eqb q.phase 3

-- Rule 3.12: a step of a free or a Held request; a release of any that is not Held.
abbrev pub step_lines : Request → List Line
step_lines q = line 5 (is_free q || is_held q) ∷ []

abbrev pub release_lines : Request → List Line
release_lines q = line 5 (not (is_held q)) ∷ []

-- Rule 3.16: a care of a free request, and of no other.
abbrev pub care_lines : Request → List Line
care_lines q = line 5 (is_free q) ∷ []

-- Demand D1.2: whatever came back, the agent refuses with the number n exactly when its line gives n.
abbrev pub StepRefusedExactly : Type 0
StepRefusedExactly = (q : Request) (v n : ℕ) → 0 < n → ((numbers_of (step_takes q v).answer).number ≡ n) ↔ Gives n (step_lines q)

abbrev pub ReleaseRefusedExactly : Type 0
ReleaseRefusedExactly = (q : Request) (v n : ℕ) → 0 < n → ((numbers_of (release_takes q v).answer).number ≡ n) ↔ Gives n (release_lines q)

abbrev pub CareRefusedExactly : Type 0
CareRefusedExactly = (q : Request) (v n : ℕ) → 0 < n → ((numbers_of (care_takes q v).answer).number ≡ n) ↔ Gives n (care_lines q)

-- Demand D1.3: and then the request stays as it was.
abbrev pub StepRefusedKeeps : Type 0
StepRefusedKeeps = (q : Request) (v : ℕ) → 0 < (numbers_of (step_takes q v).answer).number → (step_takes q v).request ≡ q

abbrev pub ReleaseRefusedKeeps : Type 0
ReleaseRefusedKeeps = (q : Request) (v : ℕ) → 0 < (numbers_of (release_takes q v).answer).number → (release_takes q v).request ≡ q

abbrev pub CareRefusedKeeps : Type 0
CareRefusedKeeps = (q : Request) (v : ℕ) → 0 < (numbers_of (care_takes q v).answer).number → (care_takes q v).request ≡ q
