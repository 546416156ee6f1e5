-- A step of a request that goes on waiting leaves the request and the words, and tells how many are ahead.
-- Assumes nothing.
use Prim.Native.Nat.{ℕ, ◌+◌, ◌-◌, ◌<◌, ◌≤◌}
use mathlib.Core.Path.{◌≡◌, refl, ap, sym, ◌∙◌}
use mathlib.Core.Bool.{Bool, true, false, not, ◌&&◌, ◌||◌}
use mathlib.Core.List.{List}
use native.Mathlib.Omega.{arith}
use borrow.Author.Tests.{eqb-true, eqb-false, ltb-false, leb-false, lt-leb}
use Rattle.std.specs.declared.option.Option.TheVariants.{Some}
use lib.Dec.{eqb, ltb, leb}
use lib.ListN.{get_or, set}
use lib.Seq.{set-get_or}
use Rattle.common.specs.Choice.{when◌then◌else◌, but}
use Rattle.common.proofs.But.{some_but}
use Rattle.word_layout.specs.Word.{split_of}
use Rattle.word_layout.specs.declared.Counters.{Counters}
use Rattle.agent_ticket.specs.Turn.{turn_of}
use Rattle.agent_ticket.specs.declared.Mode.TheVariants.{Reader, Writer}
use Rattle.agent_ticket.specs.declared.Mode.{Mode}
use Rattle.agent_ticket.specs.declared.Ticket.{Ticket}
use Rattle.agent_ticket.specs.declared.Turn.{Turn}
use Rattle.agent_ticket.specs.declared.Turn.TheVariants as turn
use Rattle.agent_request.specs.Request.{phase_of, mode_of, free_request, in_phase, in_use}
use Rattle.agent_request.specs.declared.Request.{Request}
use Rattle.agent_request.specs.declared.Phase.TheVariants.{Free, Asking, Waiting, Held, Owing, Clearing}
use Rattle.agent_rules.specs.Life.{step_sends, step_sends_in, step_takes, step_takes_in, becomes, turned}
use Rattle.agent_rules.specs.declared.Taken.{Taken}
use Rattle.agent_rules.specs.declared.Answer.TheVariants as agent
use Rattle.agent_rules.specs.declared.Verb.TheVariants.{Read}
use Rattle.board_slots.specs.Slots.{SLOTS}
use Rattle.board_call.specs.declared.Call.TheVariants.{Open, Step, Release, Show}
use Rattle.board_call.specs.declared.AnyCall.{AnyCall}
use Rattle.board_call.specs.declared.AnyCall.TheVariants.{Base, OpenAs, Fence, Care}
use Rattle.board_rules.specs.Records.{is_record, refusal_of}
use Rattle.board_rules.specs.Sent.{visited, sent_visit}
use Rattle.board_rules.specs.Visit.{aim_of, named_visit}
use Rattle.board_rules.specs.declared.Answer.TheVariants.{Told}
use Rattle.board_rules.proofs.Sent.{accepted_visit}
use Rattle.board_nodes.specs.Visit.{any_visit}
use Rattle.board_visit_waiting.specs.Waits.{is_waiting, number_ahead, still_ahead, stepped_slot, WaitingIsTheVisit}

-- the one test of the phase that a waiting request passes
choice :
    (a b c d e : Bool) →
    is_waiting (when a then Asking else when b then Waiting else when c then Held else when d then Owing else when e then Clearing else Free) ≡ true →
    b ≡ true
choice true true c d e h = refl
choice true false c d e h = h
choice false true c d e h = refl
choice false false true d e h = h
choice false false false true e h = h
choice false false false false true h = h
choice false false false false false h = h

waits_as_2 : (n : ℕ) → is_waiting (phase_of n) ≡ true → n ≡ 2
waits_as_2 n h = eqb-true n 2 (choice (eqb n 1) (eqb n 2) (eqb n 3) (eqb n 4) (eqb n 5) h)

-- where the number is not 0 the gate is open, the request waits and has a record, and the number is that of its turn
all_hold :
    (s w r : Bool) (k n : ℕ) →
    (when s then 0 else when not w then 0 else when not r then 0 else k) ≡ n →
    (n ≡ 0 → ⊥) →
    (s ≡ false) × (w ≡ true) × (r ≡ true) × (k ≡ n)
all_hold false true true k n e ne = (refl, refl, refl, e)
all_hold false true false k n e ne = absurd (ne (sym e))
all_hold false false r k n e ne = absurd (ne (sym e))
all_hold true w r k n e ne = absurd (ne (sym e))

ahead_is : (t : Turn) (n : ℕ) → number_ahead t ≡ n → (n ≡ 0 → ⊥) → t ≡ turn.Ahead n
ahead_is turn.Passed n e ne = absurd (ne (sym e))
ahead_is turn.Granted n e ne = absurd (ne (sym e))
ahead_is (turn.Ahead m) n e ne = ap turn.Ahead e

may_read : (q : Request) (ws : List ℕ) → q.phase ≡ 2 → is_record q.«record» ws ≡ true → refusal_of q Read ws ≡ 0
unfolding refusal_of
may_read q ws two rec = simp (two, rec)

reads : (q : Request) → q.phase ≡ 2 → step_sends q ≡ Read
unfolding step_sends
reads q two = ap (λ (n : ℕ). step_sends_in (phase_of n) q) two

same_phase : (q : Request) → q.phase ≡ 2 → in_phase Waiting q ≡ q
same_phase q two = ap (λ (n : ℕ). record { «record» = q.«record»; mode = q.mode; phase = n; ticket = q.ticket; clearing = q.clearing }) (sym two)

stays :
    (q : Request) (v n : ℕ) →
    q.phase ≡ 2 →
    turn_of (mode_of q.mode) q.ticket (split_of v) ≡ turn.Ahead n →
    step_takes q v ≡ becomes q (agent.Waiting n)
unfolding step_takes
stays q v n two t =
    ap (λ (k : ℕ). step_takes_in (phase_of k) q v) two ∙ ap (λ (x : Turn). turned x q) t ∙
    ap (λ (r : Request). becomes r (agent.Waiting n)) (same_phase q two)

still_visit :
    (shut : Bool) (q : Request) (ws : List ℕ) (n : ℕ) →
    still_ahead shut q ws ≡ n →
    (n ≡ 0 → ⊥) →
    (shut ≡ false) × (sent_visit q (step_sends q) (step_takes q) ws ≡ visited q ws (Told (agent.Waiting n)))
unfolding still_ahead
still_visit shut q ws n e ne =
    let v = get_or ws q.«record» 0 in
    let t = turn_of (mode_of q.mode) q.ticket (split_of v) in
    let k = all_hold shut (is_waiting (phase_of q.phase)) (is_record q.«record» ws) (number_ahead t) n e ne in
    let two = waits_as_2 q.phase k.1 in
    let taken = stays q v n two (ahead_is t n k.3 ne) in (
      k.0,
      accepted_visit q (step_sends q) (step_takes q) ws Read 0 (sym (reads q two)) (sym (may_read q ws two k.2)) refl v refl ∙
          ap (λ (x : Taken). visited x.request (set ws q.«record» v) (Told x.answer)) taken ∙
          ap (λ (l : List ℕ). visited q l (Told (agent.Waiting n))) (set-get_or ws q.«record» 0),
    )

-- a call that steps a slot of the board is the step of that slot
within_named : (b : Bool) (j k : ℕ) → (when b then SLOTS else j) ≡ k → k < SLOTS → j ≡ k
within_named true j k e small = absurd (omega arith)
within_named false j k e small = e

pub is_its_step : (o : AnyCall) (k : ℕ) → stepped_slot o ≡ k → k < SLOTS → o ≡ Base (Step k)
is_its_step (Base (Open r j)) k e small = absurd (omega arith)
is_its_step (Base (Step j)) k e small = ap (λ (x : ℕ). Base (Step x)) (within_named (leb SLOTS j) j k e small)
is_its_step (Base (Release j)) k e small = absurd (omega arith)
is_its_step (Base (Show r)) k e small = absurd (omega arith)
is_its_step (OpenAs r m j) k e small = absurd (omega arith)
is_its_step (Fence j) k e small = absurd (omega arith)
is_its_step (Care j) k e small = absurd (omega arith)

-- and visits it, behind an open gate
pub aims_there : (k : ℕ) (m : List ℕ) → k < SLOTS → aim_of (Step k) m ≡ k
unfolding aim_of
aims_there k m small = rw (lt-leb SLOTS k small) refl

step_visit : (k : ℕ) (q : Request) (ws : List ℕ) → k < SLOTS → any_visit (Base (Step k)) k false q ws ≡ sent_visit q (step_sends q) (step_takes q) ws
unfolding any_visit named_visit
step_visit k q ws small = rw (lets_through (ltb k SLOTS) (in_use q), lt-leb SLOTS k small) refl
  where
    lets_through : (a b : Bool) → (a && (b && false)) ≡ false
    lets_through true true = refl
    lets_through true false = refl
    lets_through false b = refl

pub waits_visit : WaitingIsTheVisit
waits_visit o m slots shut ws k n e small h ne =
    let v = still_visit shut (get_or slots k free_request) ws n h ne in
    rw (is_its_step o k e small, aims_there k m small, v.0) (step_visit k (get_or slots k free_request) ws small ∙ v.1)

-- whoever is told to wait has someone ahead
pub some_ahead : (m : Mode) (t : Ticket) (v : Counters) (n : ℕ) → turn_of m t v ≡ turn.Ahead n → n ≡ 0 → ⊥
unfolding turn_of
some_ahead Reader t v n e z = by (ltb t.0.0 v.nx.0) (eqb v.nx.0 t.0.0) refl refl e
  where
    by :
        (x y : Bool) →
        ltb t.0.0 v.nx.0 ≡ x →
        eqb v.nx.0 t.0.0 ≡ y →
        (when x || false then turn.Passed else when y && true then turn.Granted else turn.Ahead (t.0.0 - v.nx.0)) ≡ turn.Ahead n →
        ⊥
    by true y a b e = cc
    by false true a b e = cc
    by false false a b e =
        let k : t.0.0 - v.nx.0 ≡ n = cc in
        let le = ltb-false t.0.0 v.nx.0 a in
        let ne = eqb-false v.nx.0 t.0.0 b in
        ne (omega arith)
some_ahead Writer t v n e z = by (ltb t.0.0 v.nx.0) (ltb t.1.0 v.ns.0) (eqb v.nx.0 t.0.0) (eqb v.ns.0 t.1.0) refl refl refl refl e
  where
    by :
        (x w y u : Bool) →
        ltb t.0.0 v.nx.0 ≡ x →
        ltb t.1.0 v.ns.0 ≡ w →
        eqb v.nx.0 t.0.0 ≡ y →
        eqb v.ns.0 t.1.0 ≡ u →
        (when x || w then turn.Passed else when y && u then turn.Granted else turn.Ahead ((t.0.0 - v.nx.0) + (t.1.0 - v.ns.0))) ≡ turn.Ahead n →
        ⊥
    by true w y u a d b f e = cc
    by false true y u a d b f e = cc
    by false false true true a d b f e = cc
    by false false false u a d b f e =
        let k : (t.0.0 - v.nx.0) + (t.1.0 - v.ns.0) ≡ n = cc in
        let le = ltb-false t.0.0 v.nx.0 a in
        let ne = eqb-false v.nx.0 t.0.0 b in
        ne (omega arith)
    by false false true false a d b f e =
        let k : (t.0.0 - v.nx.0) + (t.1.0 - v.ns.0) ≡ n = cc in
        let le = ltb-false t.1.0 v.ns.0 d in
        let ne = eqb-false v.ns.0 t.1.0 f in
        ne (omega arith)

stepped_le : (o : AnyCall) → stepped_slot o ≤ SLOTS
stepped_le (Base (Open r j)) = omega arith
stepped_le (Base (Step j)) = by (leb SLOTS j) refl
  where
    by : (x : Bool) → leb SLOTS j ≡ x → (when x then SLOTS else j) ≤ SLOTS
    by true e = omega arith
    by false e = omega (arith, leb-false SLOTS j e)
stepped_le (Base (Release j)) = omega arith
stepped_le (Base (Show r)) = omega arith
stepped_le (OpenAs r m j) = omega arith
stepped_le (Fence j) = omega arith
stepped_le (Care j) = omega arith

-- a slot that is stepped is one of the board
pub stepped_is : (o : AnyCall) (k : ℕ) → Some k ≡ but SLOTS (stepped_slot o) → (k ≡ stepped_slot o) × (k < SLOTS)
stepped_is o k e = let s = some_but SLOTS (stepped_slot o) k e in let l = stepped_le o in (s.1, omega arith)
