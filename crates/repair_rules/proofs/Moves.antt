-- What a care does to the slot that it is made for: either it brings nothing on, and then request and words are what they were; or the request moves
-- towards its end, from Waiting to Held, from there to Clearing, from any phase to free: its rank falls.
-- Assumes nothing.
use Prim.Native.Nat.{ℕ, ◌<◌}
use mathlib.Core.Path.{◌≡◌, refl, ap, sym, ◌∙◌}
use mathlib.Core.Bool.{Bool, true, false, not}
use mathlib.Core.Logic.{◌⊎◌, inl, inr, ⊎_elim}
use mathlib.Core.List.{List}
use native.Mathlib.Omega.{arith}
use borrow.Author.Tests.{eqb-true}
use lib.Dec.{eqb}
use lib.ListN.{get_or, set}
use lib.Seq.{set-get_or}
use Rattle.common.specs.Choice.{when◌then◌else◌}
use Rattle.word_layout.specs.Word.{split_of}
use Rattle.agent_ticket.specs.Turn.{turn_of}
use Rattle.agent_ticket.specs.declared.Turn.{Turn}
use Rattle.agent_ticket.specs.declared.Turn.TheVariants as turn
use Rattle.agent_request.specs.Request.{NONE, phase_number, phase_of, used_phase, in_use, mode_of, in_phase}
use Rattle.agent_request.specs.declared.Request.{Request}
use Rattle.agent_request.specs.declared.Phase.{Phase}
use Rattle.agent_request.specs.declared.Phase.TheVariants.{Free, Asking, Waiting, Held, Owing, Clearing}
use Rattle.agent_rules.specs.Answers.{numbers_of}
use Rattle.agent_rules.specs.Life.{left_by, turned, freed, becomes}
use Rattle.agent_rules.specs.Care.{care_sends, care_sends_in, care_takes, care_takes_in}
use Rattle.agent_rules.specs.declared.Answer.{Answer as Tells}
use Rattle.agent_rules.specs.declared.Answer.TheVariants as tells
use Rattle.agent_rules.specs.declared.Taken.{Taken}
use Rattle.agent_rules.proofs.Phases.{step_sends_in_law, step_takes_in_law, release_takes_in_law}
use Rattle.board_call.specs.declared.AnyCall.TheVariants.{Care}
use Rattle.board_rules.specs.Records.{is_record}
use Rattle.board_rules.specs.Sent.{Visited, visited}
use Rattle.board_rules.specs.declared.Answer.{Answer}
use Rattle.board_rules.specs.declared.Answer.TheVariants.{Refused, Told}
use Rattle.board_rules.proofs.Told.{apart}
use Rattle.board_nodes.specs.Answers.{said_of_any}
use Rattle.board_nodes.specs.Visit.{care_visit}
use Rattle.repair_rules.specs.Repair.{brings_on}

-- how many cares may still bring a request on
abbrev pub rank_in : Phase → ℕ
rank_in Free = 0
rank_in Asking = 1
rank_in Waiting = 3
rank_in Held = 2
rank_in Owing = 1
rank_in Clearing = 1

abbrev pub rank_of : Request → ℕ
rank_of q = rank_in (phase_of q.phase)

-- a phase that is Waiting is kept as 2
waiting_test :
    (a b c d e : Bool) →
    (when a then Asking else when b then Waiting else when c then Held else when d then Owing else when e then Clearing else Free) ≡ Waiting →
    b ≡ true
waiting_test true b c d e h = let z = ap phase_number h in absurd (omega arith)
waiting_test false true c d e h = refl
waiting_test false false true d e h = let z = ap phase_number h in absurd (omega arith)
waiting_test false false false true e h = let z = ap phase_number h in absurd (omega arith)
waiting_test false false false false true h = let z = ap phase_number h in absurd (omega arith)
waiting_test false false false false false h = let z = ap phase_number h in absurd (omega arith)

waiting_number : (n : ℕ) → phase_of n ≡ Waiting → n ≡ 2
waiting_number n h = eqb-true n 2 (waiting_test (eqb n 1) (eqb n 2) (eqb n 3) (eqb n 4) (eqb n 5) h)

-- what an agent is told brings something on, or not
abbrev on_told : Tells → Bool
on_told a = brings_on (record { slot = 0; phase = 0; outcome = (numbers_of a).outcome })

-- a request and the word that it found, with what became of both: nothing moved, or the rank fell
abbrev Moves : Request → ℕ → Taken → ℕ → Type 0
Moves q w k left =
    ((on_told k.answer ≡ false) × (k.request ≡ q) × (left ≡ w)) ⊎
    ((on_told k.answer ≡ true) × (rank_of k.request < rank_of q))

turned_moves : (u : Turn) (q : Request) (w : ℕ) → q.phase ≡ 2 → rank_of q ≡ 3 → Moves q w (turned u q) w
turned_moves turn.Passed q w e r = let z : 0 < rank_of q = omega arith in inr (refl, z)
turned_moves turn.Granted q w e r = let z : 2 < rank_of q = omega arith in inr (refl, z)
turned_moves (turn.Ahead n) q w e r =
    inl (
      refl,
      ap (λ (p : ℕ). record { «record» = q.«record»; mode = q.mode; phase = p; ticket = q.ticket; clearing = q.clearing }) (sym e),
      refl,
    )

let_go_moves :
    (q : Request) (w left : ℕ) (x : Bool) →
    rank_of q ≡ 2 →
    Moves q w (when x then freed tells.Released else becomes (in_phase Clearing q) tells.ClearingDue) left
let_go_moves q w left true r = let z : 0 < rank_of q = omega arith in inr (refl, z)
let_go_moves q w left false r = let z : 1 < rank_of q = omega arith in inr (refl, z)

swapped_moves :
    (q : Request) (w : ℕ) (x : Bool) →
    rank_of q ≡ 1 →
    Moves q w (when x then freed tells.Cleared else becomes q tells.NotYetClear) (when x then 0 else w)
swapped_moves q w true r = let z : 0 < rank_of q = omega arith in inr (refl, z)
swapped_moves q w false r = inl (refl, refl, refl)

moves : (p : Phase) (q : Request) (w : ℕ) → phase_of q.phase ≡ p → used_phase p ≡ true → Moves q w (care_takes_in p q w) (left_by (care_sends_in p q) w)
moves Free q w h u = absurd (apart (sym u))
moves Asking q w h u = let r : rank_of q ≡ 1 = ap rank_in h in let z : 0 < rank_of q = omega arith in inr (refl, z)
moves Waiting q w h u =
    rw (step_takes_in_law q Waiting h w, step_sends_in_law q Waiting h)
    (turned_moves (turn_of (mode_of q.mode) q.ticket (split_of w)) q w (waiting_number q.phase h) (ap rank_in h))
moves Held q w h u = rw (release_takes_in_law q Held h w) (let_go_moves q w _ (eqb q.clearing NONE) (ap rank_in h))
moves Owing q w h u =
    let r : rank_of q ≡ 1 = ap rank_in h in
    let z : 0 < rank_of q = omega arith in
    rw (step_takes_in_law q Owing h w) (inr (refl, z))
moves Clearing q w h u =
    rw (step_takes_in_law q Clearing h w, step_sends_in_law q Clearing h) (swapped_moves q w (eqb w q.clearing) (ap rank_in h))

-- the same of the visit of a slot
abbrev on_said : ℕ → Answer → Bool
on_said i a = brings_on (record { slot = 0; phase = 0; outcome = (said_of_any (Care i) a).outcome })

abbrev pub Goes : ℕ → Request → List ℕ → Visited → Type 0
Goes i q ws v =
    ((on_said i v.answer ≡ false) × (v.request ≡ q) × (v.words ≡ ws)) ⊎ ((on_said i v.answer ≡ true) × (rank_of v.request < rank_of q))

pub visit_goes : (i : ℕ) (q : Request) (ws : List ℕ) → in_use q ≡ true → Goes i q ws (care_visit q ws)
unfolding care_visit care_sends care_takes
visit_goes i q ws used = by (in_use q) (is_record q.«record» ws) (moves (phase_of q.phase) q w refl used)
  where
    w : ℕ
    w = get_or ws q.«record» 0

    k : Taken
    k = care_takes_in (phase_of q.phase) q w

    left : ℕ
    left = left_by (care_sends_in (phase_of q.phase) q) w

    by :
        (x y : Bool) →
        Moves q w k left →
        Goes i q ws
        (when not x then visited q ws (Refused 4) else
        when not y then visited q ws (Refused 2) else
        visited k.request (set ws q.«record» left) (Told k.answer))
    by true true m =
        ⊎_elim
        (λ (p : (on_told k.answer ≡ false) × (k.request ≡ q) × (left ≡ w)).
        inl (p.0, p.1, ap (set ws q.«record») p.2 ∙ set-get_or ws q.«record» 0))
        (λ (p : (on_told k.answer ≡ true) × (rank_of k.request < rank_of q)). inr p) m
    by true false m = inl (refl, refl, refl)
    by false y m = inl (refl, refl, refl)
