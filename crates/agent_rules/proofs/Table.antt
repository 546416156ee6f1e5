-- Why the agent refuses exactly with 5 and exactly in a wrong phase: by phase, and whatever came back every other answer is accepted.
-- Assumes nothing.
use Prim.Native.Nat.{ℕ, suc, ◌<◌, ◌≤◌}
use mathlib.Core.Path.{◌≡◌, refl, ap, sym, subst, ◌∙◌}
use mathlib.Core.Bool.{Bool, true, false, not, ◌||◌}
use mathlib.Core.Logic.{◌⊎◌, inl, inr, ⊎_elim}
use native.Mathlib.Omega.{arith}
use borrow.Author.Tests.{ne_eqb, lt-ltb, ltb-true, ltb-false}
use lib.Dec.{eqb, ltb}
use Rattle.common.specs.Choice.{when◌then◌else◌}
use Rattle.common.proofs.Choices.{either, same_or_not}
use Rattle.common.proofs.Tables.{gives_it, it_gives}
use Rattle.word_layout.specs.Word.{split_of}
use Rattle.word_layout.specs.declared.Counters.{Counters}
use Rattle.agent_ceiling.specs.Ceiling.{full_at}
use Rattle.agent_ticket.specs.Turn.{turn_of}
use Rattle.agent_ticket.specs.declared.Turn.{Turn}
use Rattle.agent_ticket.specs.declared.Turn.TheVariants as turn
use Rattle.agent_request.specs.Request.{NONE, used_phase, phase_of, mode_of}
use Rattle.agent_request.specs.declared.Request.{Request}
use Rattle.agent_request.specs.declared.Phase.{Phase}
use Rattle.agent_request.specs.declared.Phase.TheVariants.{Free, Asking, Waiting, Held, Owing, Clearing}
use Rattle.agent_rules.specs.Answers.{numbers_of}
use Rattle.agent_rules.specs.Life.{turned, waited, ticketed, asked, step_takes, step_takes_in, release_takes, release_takes_in}
use Rattle.agent_rules.specs.Care.{care_takes, care_takes_in}
use Rattle.agent_rules.specs.Table.{is_free, is_held, step_lines, StepRefusedExactly, StepRefusedKeeps}
use Rattle.agent_rules.specs.Table.{release_lines, ReleaseRefusedExactly, ReleaseRefusedKeeps, care_lines, CareRefusedExactly, CareRefusedKeeps}
use Rattle.agent_rules.specs.declared.Taken.{Taken}
use Rattle.agent_rules.proofs.Phases.{step_takes_in_law, release_takes_in_law}

-- Held, by phase
abbrev pub held_phase : Phase → Bool
held_phase Free = false
held_phase Asking = false
held_phase Waiting = false
held_phase Held = true
held_phase Owing = false
held_phase Clearing = false

-- the kept number says the same: by which of 1 to 5 it is, or none
record Same (n : ℕ) : Type 0 where
  free : not (used_phase (phase_of n)) ≡ (eqb n 0 || ltb 5 n)
  held : held_phase (phase_of n) ≡ eqb n 3

above : (n : ℕ) → 5 < n → Same n
above n h =
    let a = ne_eqb n 1 (λ e. omega arith) in
    let b = ne_eqb n 2 (λ e. omega arith) in
    let c = ne_eqb n 3 (λ e. omega arith) in
    let d = ne_eqb n 4 (λ e. omega arith) in
    let f = ne_eqb n 5 (λ e. omega arith) in
    let z = ne_eqb n 0 (λ e. omega arith) in
    record { free = rw (a, b, c, d, f, z, lt-ltb 5 n h) refl; held = rw (a, b, c, d, f) refl }

same : (n : ℕ) → Same n
same n = ⊎_elim (λ h. above n h) (λ h. small n h) (or_below n)
  where
    or_below : (m : ℕ) → (5 < m) ⊎ (m ≤ 5)
    or_below m = by (ltb 5 m) refl
      where
        by : (x : Bool) → ltb 5 m ≡ x → (5 < m) ⊎ (m ≤ 5)
        by true e = inl (ltb-true 5 m e)
        by false e = inr (ltb-false 5 m e)

    is : (k m : ℕ) → Same k → m ≡ k → Same m
    is k m s e = subst Same (sym e) s

    less : (k m : ℕ) → m ≤ suc k → (m ≡ suc k → ⊥) → m ≤ k
    less k m h ne = by (ltb k m) refl
      where
        by : (x : Bool) → ltb k m ≡ x → m ≤ k
        by true e = let l = ltb-true k m e in absurd (ne (omega arith))
        by false e = ltb-false k m e

    -- down from k: m is k, or is less
    down : (k m : ℕ) → m ≤ suc k → Same (suc k) → (m ≤ k → Same m) → Same m
    down k m h s rest = ⊎_elim (is (suc k) m s) (λ ne. rest (less k m h ne)) (same_or_not m (suc k))

    small : (m : ℕ) → m ≤ 5 → Same m
    small m h =
        down 4 m h (record { free = refl; held = refl })
        (λ a. down 3 m a (record { free = refl; held = refl })
        (λ b. down 2 m b (record { free = refl; held = refl })
        (λ c. down 1 m c (record { free = refl; held = refl })
        (λ d. down 0 m d (record { free = refl; held = refl }) (λ e. is 0 m (record { free = refl; held = refl }) (omega arith))))))

pub free_as_kept : (q : Request) → not (used_phase (phase_of q.phase)) ≡ is_free q
free_as_kept q = (same q.phase).free

pub held_as_kept : (q : Request) → held_phase (phase_of q.phase) ≡ is_held q
held_as_kept q = (same q.phase).held

abbrev number_told : Taken → ℕ
number_told t = (numbers_of t.answer).number

-- what the agent tells is accepted
pub record Accepted (t : Taken) : Type 0 where
  pub number : (numbers_of t.answer).number ≡ 0

turned_accepted : (t : Turn) (q : Request) → Accepted (turned t q)
turned_accepted turn.Passed q = record { number = refl }
turned_accepted turn.Granted q = record { number = refl }
turned_accepted (turn.Ahead n) q = record { number = refl }

waited_accepted : (q : Request) (v : Counters) → Accepted (waited q v)
waited_accepted q v = turned_accepted (turn_of (mode_of q.mode) q.ticket v) q

asked_accepted : (q : Request) (p : Counters) → Accepted (asked q p)
unfolding asked
asked_accepted q p = either Accepted (full_at p) (record { number = refl }) (waited_accepted (ticketed q p) p)

-- by phase, the number that a step, a release and a care are told
pub step_number : (p : Phase) (q : Request) (v : ℕ) → (numbers_of (step_takes_in p q v).answer).number ≡ (when not (used_phase p) || held_phase p then 5 else 0)
step_number Free q v = refl
step_number Asking q v = (asked_accepted q (split_of v)).number
step_number Waiting q v = (waited_accepted q (split_of v)).number
step_number Held q v = refl
step_number Owing q v = refl
step_number Clearing q v = (either Accepted (eqb v q.clearing) (record { number = refl }) (record { number = refl })).number

pub release_number : (p : Phase) (q : Request) → (numbers_of (release_takes_in p q).answer).number ≡ (when not (held_phase p) then 5 else 0)
release_number Free q = refl
release_number Asking q = refl
release_number Waiting q = refl
release_number Held q = (either Accepted (eqb q.clearing NONE) (record { number = refl }) (record { number = refl })).number
release_number Owing q = refl
release_number Clearing q = refl

pub care_number :
    (p : Phase) (q : Request) (v : ℕ) →
    phase_of q.phase ≡ p →
    (numbers_of (care_takes_in p q v).answer).number ≡ (when not (used_phase p) then 5 else 0)
care_number Free q v e = ap number_told (step_takes_in_law q Free e v)
care_number Asking q v e = refl
care_number Waiting q v e = ap number_told (step_takes_in_law q Waiting e v) ∙ step_number Waiting q v
care_number Held q v e = ap number_told (release_takes_in_law q Held e v) ∙ release_number Held q
care_number Owing q v e = ap number_told (step_takes_in_law q Owing e v)
care_number Clearing q v e = ap number_told (step_takes_in_law q Clearing e v) ∙ step_number Clearing q v

pub step_refused_exactly : StepRefusedExactly
unfolding step_takes
step_refused_exactly q v n h =
    let e = step_number (phase_of q.phase) q v ∙
    ap (λ (x : Bool). when x || held_phase (phase_of q.phase) then 5 else 0) (free_as_kept q) ∙
    ap (λ (x : Bool). when is_free q || x then 5 else 0) (held_as_kept q) in
    (λ p. gives_it n h (step_lines q) (sym e ∙ p), λ g. e ∙ it_gives n (step_lines q) g)

pub release_refused_exactly : ReleaseRefusedExactly
unfolding release_takes
release_refused_exactly q v n h =
    let e = release_number (phase_of q.phase) q ∙ ap (λ (x : Bool). when not x then 5 else 0) (held_as_kept q) in
    (λ p. gives_it n h (release_lines q) (sym e ∙ p), λ g. e ∙ it_gives n (release_lines q) g)

pub care_refused_exactly : CareRefusedExactly
unfolding care_takes
care_refused_exactly q v n h =
    let e = care_number (phase_of q.phase) q v refl ∙ ap (λ (x : Bool). when x then 5 else 0) (free_as_kept q) in
    (λ p. gives_it n h (care_lines q) (sym e ∙ p), λ g. e ∙ it_gives n (care_lines q) g)

-- a refused request stays
step_keeps : (p : Phase) (q : Request) (v : ℕ) → 0 < (numbers_of (step_takes_in p q v).answer).number → (step_takes_in p q v).request ≡ q
step_keeps Free q v h = refl
step_keeps Asking q v h = let e = step_number Asking q v in absurd (omega arith)
step_keeps Waiting q v h = let e = step_number Waiting q v in absurd (omega arith)
step_keeps Held q v h = refl
step_keeps Owing q v h = let e = step_number Owing q v in absurd (omega arith)
step_keeps Clearing q v h = let e = step_number Clearing q v in absurd (omega arith)

release_keeps : (p : Phase) (q : Request) → 0 < (numbers_of (release_takes_in p q).answer).number → (release_takes_in p q).request ≡ q
release_keeps Free q h = refl
release_keeps Asking q h = refl
release_keeps Waiting q h = refl
release_keeps Held q h = let e = release_number Held q in absurd (omega arith)
release_keeps Owing q h = refl
release_keeps Clearing q h = refl

care_keeps : (p : Phase) (q : Request) (v : ℕ) → phase_of q.phase ≡ p → 0 < (numbers_of (care_takes_in p q v).answer).number → (care_takes_in p q v).request ≡ q
care_keeps Free q v e h = ap (λ (t : Taken). t.request) (step_takes_in_law q Free e v)
care_keeps Asking q v e h = absurd (omega arith)
care_keeps Waiting q v e h = let n = care_number Waiting q v e in absurd (omega arith)
care_keeps Held q v e h = let n = care_number Held q v e in absurd (omega arith)
care_keeps Owing q v e h = let n = care_number Owing q v e in absurd (omega arith)
care_keeps Clearing q v e h = let n = care_number Clearing q v e in absurd (omega arith)

pub step_refused_keeps : StepRefusedKeeps
unfolding step_takes
step_refused_keeps q v h = step_keeps (phase_of q.phase) q v h

pub release_refused_keeps : ReleaseRefusedKeeps
unfolding release_takes
release_refused_keeps q v h = release_keeps (phase_of q.phase) q h

pub care_refused_keeps : CareRefusedKeeps
unfolding care_takes
care_refused_keeps q v h = care_keeps (phase_of q.phase) q v refl h
