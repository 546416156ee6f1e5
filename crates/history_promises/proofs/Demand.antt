-- Demand 3 of every board that is tied to its ledger, and so after every sequence of calls. Seats.antt has why the ledger is read rightly, and
-- what a care is.
-- Assumes nothing.
use Prim.Native.Nat.{ℕ, ◌<◌, ◌≤◌}
use mathlib.Core.Path.{◌≡◌, refl, ap, sym, subst, ◌∙◌}
use mathlib.Core.Bool.{Bool, true, false, not}
use mathlib.Core.Logic.{◌↔◌, ◌⊎◌, inl, inr, ⊎_elim}
use mathlib.Core.List.{List, [], ◌∷◌, ◌++◌}
use native.Mathlib.Nat.{eq-or-lt_of_le}
use native.Mathlib.Omega.{arith}
use borrow.Author.Tests.{leb-true, leb-false, ltb-true, ltb-false, eqb-true, eq-eqb}
use lib.Dec.{eqb, leb, ltb}
use lib.ListN.{length, take}
use lib.Seq.{take-append_seam, take-length}
use Rattle.std.proofs.lemmas.Bool.{cases_Bool}
use Rattle.common.specs.Choice.{when◌then◌else◌}
use Rattle.common.proofs.Choices.{either_by, same_or_not}
use Rattle.agent_ticket.specs.declared.Mode.{Mode}
use Rattle.agent_ticket.specs.declared.Mode.TheVariants.{Reader, Writer}
use Rattle.agent_rules.specs.Answers.{numbers_of}
use Rattle.agent_rules.specs.declared.Answer.{Answer as Tells}
use Rattle.agent_rules.specs.declared.Answer.TheVariants as tells
use Rattle.board_slots.specs.Slots.{SLOTS, lowest_free}
use Rattle.board_call.specs.declared.Call.{Call}
use Rattle.board_call.specs.declared.Call.TheVariants.{Open, Step, Release, Show}
use Rattle.board_rules.specs.Records.{RECORDS, is_record}
use Rattle.board_rules.specs.declared.Answer.{Answer}
use Rattle.board_rules.specs.declared.Answer.TheVariants.{Refused, Begun, Opened, Told, Shown, Fenced}
use Rattle.board_rules.specs.Board.{State, Done, state_of, opened, stepped, released, shown, shown_of, played}
use Rattle.board_rules.specs.Care.{cared}
use Rattle.history_promises.specs.Tickets.{Given, conflicts, ticket_at, same_kind, EarlierReleased, unreleased_before, AllReleased}
use Rattle.history_promises.specs.Ledger.{Stage, Seat, Ledger, seated, tickets_now, mine, waits_for, is_owing, owes_on, drawn, staged, granted_or_waits}
use Rattle.history_promises.specs.Ledger.{blank, free}
use Rattle.history_promises.specs.Ledger.Stage.{Nobody, Asks, Waits, Holds, Owes, Clears}
use Rattle.history_promises.specs.Promises.{OpenTells, OpensWhereNobodySits, WriterHoldsAlone, DrawnIsGrantedExactly, WaitingIsGrantedExactly, NonePassed, FullExactly, NoneOwed, ClearedOnly, ClearedThen, CountersStaySmall, StepTells, ToldHowMany, NoneToWaitFor, Demand, Demand3}
use Rattle.history_promises.specs.Promises.{CareCounts, care_makes, CareIsWhatItMakes, AskingLeavesNoTrace}
use Rattle.history_promises.specs.History.{fresh, made, noted, after, events, read_off, ledger_after, board_after}
use Rattle.history_promises.specs.History.Move.{Care}
use Rattle.history_promises.proofs.Counts.{clash, below_none, none_below}
use Rattle.history_promises.proofs.Turns.{ahead_now, few_ahead, ahead_earlier, earlier_ahead}
use Rattle.history_promises.proofs.Words.{topped, topped_or, or_topped, clearing_for, word_at_rest, at_rest, rests, word_counted, counters_small}
use Rattle.history_promises.proofs.Tied.{is_nobody, Facts, Tied, keeps_at, few_owed}
use Rattle.history_promises.proofs.Sent.{went, step_nobody, step_holds, step_owes, step_clears, step_waits, step_asks_full, step_asks_turn, release_nobody, release_asks, release_waits, release_owes, release_clears, release_holds}
use Rattle.history_promises.proofs.Moves.{put_same, word_now, clearing_last, owes_here}
use Rattle.history_promises.proofs.Kept.{nobody_there, somebody_there, tied, after_then, ledger_then}
use Rattle.history_promises.proofs.Seats.{in_board, lent_to_law, facts_of, seat_has_its_ticket, ticket_has_its_seat, told_by_stage, due_exactly}
use Rattle.history_promises.proofs.Seats.{CareIs, care_of_law, care_told_law, care_same}

-- an answer that one way gives, and the other does not
picked : (x : Bool) (d e : Done) (a : Answer) → d.answer ≡ a → (e.answer ≡ a → ⊥) → ((when x then d else e).answer ≡ a) ↔ (x ≡ true)
picked true d e a p q = ((λ h. refl), (λ h. p))
picked false d e a p q = ((λ h. absurd (q h)), (λ h. clash false h refl))

-- which answer it is, as a test
abbrev is_told : (Tells → Bool) → Answer → Bool
is_told f (Told a) = f a
is_told f (Refused n) = false
is_told f Begun = false
is_told f (Opened k) = false
is_told f (Shown w) = false
is_told f Fenced = false

abbrev outcome_is : ℕ → Tells → Bool
outcome_is o a = eqb (numbers_of a).outcome o

abbrev is_waiting : Tells → Bool
is_waiting = outcome_is 3

abbrev is_cleared : Tells → Bool
is_cleared = outcome_is 8

abbrev is_passed : Tells → Bool
is_passed = outcome_is 11

module _ {n : ℕ} {s : State} {L : Ledger} (T : Tied n s L) where
  writer_conflicts : (k : Mode) → conflicts Writer k ≡ true
  writer_conflicts Reader = refl
  writer_conflicts Writer = refl

  conflicts_writer : (k : Mode) → conflicts k Writer ≡ true
  conflicts_writer Reader = refl
  conflicts_writer Writer = refl

  alone : WriterHoldsAlone L
  alone i j e w f a =
      let x = facts_of T i Holds e refl in
      let y : Facts Holds (L.seats j) (mine L i) j = subst (λ (r : ℕ). Facts Holds (L.seats j) (L.tickets r) j) a (facts_of T j Holds f refl) in
      ⊎_elim
      (λ h. clash (ticket_at (mine L i) (L.seats i).place).released (y.1 (L.seats i).place (ltb-true _ _ h) (rw (x.0.kind, w) (writer_conflicts (L.seats j).kind))) x.0.open_now)
      (λ h.
      ⊎_elim
      (λ q. sym x.0.slot ∙ ap (λ (p : ℕ). (ticket_at (mine L i) p).slot) q ∙ y.0.slot)
      (λ d.
      clash (ticket_at (mine L i) (L.seats j).place).released
      (x.1 (L.seats j).place (less (L.seats i).place (L.seats j).place (ltb-false _ _ h) d) (rw w (conflicts_writer (ticket_at (mine L i) (L.seats j).place).kind))) y.0.open_now)
      (same_or_not (L.seats i).place (L.seats j).place))
      (cases_Bool (ltb (L.seats i).place (L.seats j).place))
    where
      less : (p q : ℕ) → q ≤ p → (p ≡ q → ⊥) → q < p
      less p q h d = ⊎_elim (λ e. absurd (d (sym e))) (λ l. l) (eq-or-lt_of_le h)

  ahead_exactly : (k : Mode) (l : List Given) (p : ℕ) → p ≤ length l → (eqb (ahead_now k l p) 0 ≡ true) ↔ EarlierReleased l k p
  ahead_exactly k l p h = ((λ e. ahead_earlier k l p h (eqb-true (ahead_now k l p) 0 e)), (λ r. eq-eqb (ahead_now k l p) 0 (earlier_ahead k l p r)))

  no_waiting : (m : ℕ) → Told (tells.Waiting m) ≡ Told tells.Granted → ⊥
  no_waiting m e = let z : ◌≡◌ {A = ℕ} 0 1 = cc in absurd (omega arith)

  waiting_granted : WaitingIsGrantedExactly L (λ c. (played c s).answer)
  waiting_granted i e =
      let here = in_board T i Waits e refl in
      let lent = lent_to_law T i Waits e refl in
      let own = facts_of T i Waits e refl in
      let eq = ap (λ (d : Done). d.answer) (step_waits s i here (L.seats i) (mine L i) (omega (arith, T.words_long)) (omega (arith, T.most)) (T.agrees (L.seats i).about lent) (keeps_at T i here Waits e) own) in
      let x = ahead_exactly (L.seats i).kind (mine L i) (L.seats i).place (omega (arith, own.inside)) in
      let p = picked (eqb (ahead_now (L.seats i).kind (mine L i) (L.seats i).place) 0) _ _ (Told tells.Granted) refl (no_waiting _) in
      ((λ h. x.0 (p.0 (sym eq ∙ h))), (λ r. eq ∙ p.1 (x.1 r)))

  -- a slot that asks, at the ceiling and below it
  asks_full : (i : ℕ) → (L.seats i).stage ≡ Asks → topped (mine L i) ≡ true → (played (Step i) s).answer ≡ Told tells.Full
  asks_full i e top =
      let here = in_board T i Asks e refl in
      let lent = lent_to_law T i Asks e refl in
      ap (λ (d : Done). d.answer) (step_asks_full s i here (L.seats i) (mine L i) (omega (arith, T.words_long)) (omega (arith, T.most)) (T.agrees (L.seats i).about lent) (keeps_at T i here Asks e) top)

  abbrev longer : ℕ → List Given
  longer i = mine L i ++ record { kind = (L.seats i).kind; slot = i; released = false } ∷ []

  asks_same : (i : ℕ) → ahead_now (L.seats i).kind (longer i) (length (mine L i)) ≡ ahead_now (L.seats i).kind (mine L i) (length (mine L i))
  asks_same i =
      let seam : take (length (mine L i)) (longer i) ≡ take (length (mine L i)) (mine L i) = take-append_seam (mine L i) _ ∙ sym (take-length (mine L i)) in
      rw seam refl

  asks_turn :
      (i : ℕ) → (L.seats i).stage ≡ Asks → topped (mine L i) ≡ false →
      ((played (Step i) s).answer ≡ Told tells.Full → ⊥) × (((played (Step i) s).answer ≡ Told tells.Granted) ↔ (eqb (ahead_now (L.seats i).kind (longer i) (length (mine L i))) 0 ≡ true))
  asks_turn i e low =
      let here = in_board T i Asks e refl in
      let lent = lent_to_law T i Asks e refl in
      let eq = ap (λ (d : Done). d.answer) (step_asks_turn s i here (L.seats i) (mine L i) (omega (arith, T.words_long)) (omega (arith, T.most)) (T.agrees (L.seats i).about lent) low (keeps_at T i here Asks e)) in
      let x = eqb (ahead_now (L.seats i).kind (longer i) (length (mine L i))) 0 in
      let p = picked x _ _ (Told tells.Granted) refl (no_waiting _) in
      ((λ h. not_full x _ _ _ _ _ (sym eq ∙ h)), ((λ h. p.0 (sym eq ∙ h)), (λ h. eq ∙ p.1 h)))
    where
      not_full : (x : Bool) (q q' : _) (w w' m : ℕ) → (when x then went s i (L.seats i).about q w tells.Granted else went s i (L.seats i).about q' w' (tells.Waiting m)).answer ≡ Told tells.Full → ⊥
      not_full true q q' w w' m h = let z : ◌≡◌ {A = ℕ} 0 1 = cc in absurd (omega arith)
      not_full false q q' w w' m h = let z : ◌≡◌ {A = ℕ} 0 1 = cc in absurd (omega arith)

  drawn_granted : DrawnIsGrantedExactly L (λ c. (played c s).answer)
  drawn_granted i e not_full = ⊎_elim (λ top. absurd (not_full (asks_full i e top))) exactly (cases_Bool (topped (mine L i)))
    where
      exactly : topped (mine L i) ≡ false → ((played (Step i) s).answer ≡ Told tells.Granted) ↔ EarlierReleased (mine L i) (L.seats i).kind (length (mine L i))
      exactly low =
          let p = (asks_turn i e low).1 in
          let same = asks_same i in
          let x = ahead_exactly (L.seats i).kind (mine L i) (length (mine L i)) (omega arith) in
          ((λ h. x.0 (rw same at (p.0 h))), (λ r. p.1 (rw same (x.1 r))))

  full : FullExactly L (λ c. (played c s).answer)
  full i e =
      let lent = lent_to_law T i Asks e refl in
      let a = T.agrees (L.seats i).about lent in (
        (λ h. ⊎_elim (λ top. ⊎_elim (λ w. inl (omega (arith, a.cap Writer))) (λ r. inr (omega (arith, a.cap Reader))) (topped_or (mine L i) top)) (λ low. absurd ((asks_turn i e low).0 h)) (cases_Bool (topped (mine L i)))),
        (λ h. asks_full i e (⊎_elim (λ w. or_topped (mine L i) Writer (omega arith)) (λ r. or_topped (mine L i) Reader (omega arith)) h)),
      )

  small : CountersStaySmall n s
  small r k h = omega (arith, counters_small (T.agrees r h) (few_owed T r h) k)

  -- what a step is never told, at a stage
  module _ (f : Tells → Bool) (granted : f tells.Granted ≡ false) (waiting : (m : ℕ) → f (tells.Waiting m) ≡ false) (full-told : f tells.Full ≡ false) (withdrawn : f tells.Withdrawn ≡ false) where
    abbrev Not : Done → Type 0
    Not d = is_told f d.answer ≡ false

    step_not : (i : ℕ) → i < SLOTS → (g : Stage) → (L.seats i).stage ≡ g → (g ≡ Clears → Not (stepped i s)) → Not (stepped i s)
    step_not i here Nobody e c = subst Not (sym (step_nobody s i here (keeps_at T i here Nobody e))) refl
    step_not i here Holds e c = subst Not (sym (step_holds s i here (L.seats i) (mine L i) (keeps_at T i here Holds e))) refl
    step_not i here Owes e c =
        let lent = lent_to_law T i Owes e refl in
        subst Not (sym (step_owes s i here (L.seats i) (mine L i) (omega (arith, T.words_long)) (omega (arith, T.most)) (keeps_at T i here Owes e))) withdrawn
    step_not i here Waits e c =
        let lent = lent_to_law T i Waits e refl in
        subst Not (sym (step_waits s i here (L.seats i) (mine L i) (omega (arith, T.words_long)) (omega (arith, T.most)) (T.agrees (L.seats i).about lent) (keeps_at T i here Waits e) (facts_of T i Waits e refl)))
        (either_by Not (eqb (ahead_now (L.seats i).kind (mine L i) (L.seats i).place) 0) (λ z. granted) (λ z. waiting _))
    step_not i here Asks e c =
        let lent = lent_to_law T i Asks e refl in
        let inside : (L.seats i).about < length s.words = omega (arith, T.words_long) in
        let few : (L.seats i).about < 4096 = omega (arith, T.most) in
        let a = T.agrees (L.seats i).about lent in
        ⊎_elim
        (λ top. subst Not (sym (step_asks_full s i here (L.seats i) (mine L i) inside few a (keeps_at T i here Asks e) top)) full-told)
        (λ low. subst Not (sym (step_asks_turn s i here (L.seats i) (mine L i) inside few a low (keeps_at T i here Asks e))) (either_by Not (eqb (ahead_now (L.seats i).kind (longer i) (length (mine L i))) 0) (λ z. granted) (λ z. waiting _)))
        (cases_Bool (topped (mine L i)))
    step_not i here Clears e c = c refl

    step_never : (i : ℕ) → ((h : i < SLOTS) → (L.seats i).stage ≡ Clears → Not (stepped i s)) → Not (stepped i s)
    unfolding stepped
    step_never i c = by (leb SLOTS i) refl
      where
        by : (x : Bool) → leb SLOTS i ≡ x → Not (stepped i s)
        by true e = rw e refl
        by false e = let here = leb-false SLOTS i e in step_not i here (L.seats i).stage refl (λ q. c here q)

  -- a step of a slot that clears
  clears_told : (i : ℕ) → (L.seats i).stage ≡ Clears → (stepped i s).answer ≡ (when eqb (word_now s L i) (word_at_rest (mine L i)) then Told tells.Cleared else Told tells.NotYetClear)
  clears_told i e =
      let here = in_board T i Clears e refl in
      let lent = lent_to_law T i Clears e refl in
      let closing = facts_of T i Clears e refl in
      let rest = clearing_last (mine L i) (L.seats i).place closing.final closing.top in
      ap (λ (d : Done). d.answer) (step_clears s i here (L.seats i) (mine L i) (omega (arith, T.words_long)) (omega (arith, T.most)) (keeps_at T i here Clears e) rest) ∙
      by (eqb (word_now s L i) (word_at_rest (mine L i))) _ _
    where
      by : (x : Bool) (d d' : Done) → (when x then d else d').answer ≡ (when x then d.answer else d'.answer)
      by true d d' = refl
      by false d d' = refl

  -- what no open, no show and no release is told
  module _ (f : Tells → Bool) where
    open_never : (r m : ℕ) → is_told f (opened r m s).answer ≡ false
    unfolding opened
    open_never r m =
        either_by P (not (is_record r s.words)) (λ e. refl)
        (λ e. either_by P (ltb 1 m) (λ g. refl) (λ g. either_by P (leb SLOTS (lowest_free s.slots)) (λ h. refl) (λ h. refl)))
      where
        P : Done → Type 0
        P d = is_told f d.answer ≡ false

    show_never : (r : ℕ) → is_told f (shown r s).answer ≡ false
    unfolding shown shown_of
    show_never r = either_by (λ (a : Answer). is_told f a ≡ false) (is_record r s.words) (λ e. refl) (λ e. refl)

    release_never : f tells.Released ≡ false → f tells.ClearingDue ≡ false → (i : ℕ) → is_told f (released i s).answer ≡ false
    unfolding released
    release_never let_go due i = by (leb SLOTS i) refl
      where
        P : Done → Type 0
        P d = is_told f d.answer ≡ false

        at : (h : i < SLOTS) (g : Stage) → (L.seats i).stage ≡ g → P (released i s)
        at h Nobody e = subst P (sym (release_nobody s i h (keeps_at T i h Nobody e))) refl
        at h Asks e = subst P (sym (release_asks s i h (L.seats i) (mine L i) (keeps_at T i h Asks e))) refl
        at h Waits e = subst P (sym (release_waits s i h (L.seats i) (mine L i) (keeps_at T i h Waits e))) refl
        at h Owes e = subst P (sym (release_owes s i h (L.seats i) (mine L i) (keeps_at T i h Owes e))) refl
        at h Clears e = subst P (sym (release_clears s i h (L.seats i) (mine L i) (keeps_at T i h Clears e))) refl
        at h Holds e =
            let lent = lent_to_law T i Holds e refl in
            subst P (sym (release_holds s i h (L.seats i) (mine L i) (omega (arith, T.words_long)) (omega (arith, T.most)) (keeps_at T i h Holds e)))
            (either_by P (eqb (clearing_for (mine L i) (L.seats i).place) 0) (λ z. let_go) (λ z. due))

        by : (x : Bool) → leb SLOTS i ≡ x → P (released i s)
        by true e = rw e refl
        by false e = at (leb-false SLOTS i e) (L.seats i).stage refl

  -- none is told that it has passed
  never_passed : (c : Call) → is_told is_passed (played c s).answer ≡ false
  never_passed (Open r m) = open_never is_passed r m
  never_passed (Step i) = step_never is_passed refl (λ m. refl) refl refl i (λ h e. ap (is_told is_passed) (clears_told i e) ∙ either_by (λ (a : Answer). is_told is_passed a ≡ false) (eqb (word_now s L i) (word_at_rest (mine L i))) (λ z. refl) (λ z. refl))
  never_passed (Release i) = release_never is_passed refl refl i
  never_passed (Show r) = show_never is_passed r

  none_passed : NonePassed (λ c. (played c s).answer)
  none_passed c e = clash (is_told is_passed (played c s).answer) (ap (is_told is_passed) e) (never_passed c)

  -- cleared only where all are released and nothing is owed, and then always
  owing_here : (j : ℕ) → (L.seats j).stage ≡ Owes → (r : ℕ) → (L.seats j).about ≡ r → owes_on r (L.seats j).kind (L.seats j) ≡ true
  owing_here j e r a = subst (λ (x : ℕ). owes_on x (L.seats j).kind (L.seats j) ≡ true) a (owes_here (L.seats j).kind (L.seats j) (ap is_owing e) ∙ self (L.seats j).kind)
    where
      self : (k : Mode) → same_kind k k ≡ true
      self Reader = refl
      self Writer = refl

  cleared_only : ClearedOnly L (λ c. (played c s).answer)
  cleared_only i told = ⊎_elim at (λ d. clash (is_told is_cleared (stepped i s).answer) (ap (is_told is_cleared) told) (step_never is_cleared refl (λ m. refl) refl refl i (λ h e. absurd (d e)))) (clears_or_not (L.seats i).stage)
    where
      clears_or_not : (g : Stage) → (g ≡ Clears) ⊎ (g ≡ Clears → ⊥)
      clears_or_not Clears = inl refl
      clears_or_not Nobody = inr (λ e. let z : ◌≡◌ {A = ℕ} 0 1 = cc in absurd (omega arith))
      clears_or_not Asks = inr (λ e. let z : ◌≡◌ {A = ℕ} 0 1 = cc in absurd (omega arith))
      clears_or_not Waits = inr (λ e. let z : ◌≡◌ {A = ℕ} 0 1 = cc in absurd (omega arith))
      clears_or_not Holds = inr (λ e. let z : ◌≡◌ {A = ℕ} 0 1 = cc in absurd (omega arith))
      clears_or_not Owes = inr (λ e. let z : ◌≡◌ {A = ℕ} 0 1 = cc in absurd (omega arith))

      rested : (x : Bool) → (when x then Told tells.Cleared else Told tells.NotYetClear) ≡ Told tells.Cleared → x ≡ true
      rested true q = refl
      rested false q = let z : ◌≡◌ {A = ℕ} 0 1 = cc in absurd (omega arith)

      at : (L.seats i).stage ≡ Clears → ((L.seats i).stage ≡ Clears) × AllReleased (mine L i) × NoneOwed L (L.seats i).about
      at e =
          let lent = lent_to_law T i Clears e refl in
          let now = rested (eqb (word_now s L i) (word_at_rest (mine L i))) (sym (clears_told i e) ∙ told) in
          let r = at_rest (T.agrees (L.seats i).about lent) (eqb-true (word_now s L i) (word_at_rest (mine L i)) now) in (
            e,
            r.0,
            λ j f a.
                let nobody = below_none (λ x. owes_on (L.seats i).about (L.seats j).kind (L.seats x)) SLOTS (r.1 (L.seats j).kind) j (in_board T j Owes f refl) in
                clash (owes_on (L.seats i).about (L.seats j).kind (L.seats j)) (owing_here j f (L.seats i).about a) nobody,
          )

  cleared_then : ClearedThen L (λ c. (played c s).answer)
  cleared_then i e all none_owed =
      let lent = lent_to_law T i Clears e refl in
      let w = rests (T.agrees (L.seats i).about lent) all (λ k. none_below (λ x. owes_on (L.seats i).about k (L.seats x)) SLOTS (λ j h. owes_not k j)) in
      clears_told i e ∙ rw (eq-eqb (word_now s L i) (word_at_rest (mine L i)) w) refl
    where
      owes_not : (k : Mode) (j : ℕ) → owes_on (L.seats i).about k (L.seats j) ≡ false
      owes_not k j = by (L.seats j).stage refl (eqb (L.seats j).about (L.seats i).about) refl
        where
          by : (g : Stage) → (L.seats j).stage ≡ g → (x : Bool) → eqb (L.seats j).about (L.seats i).about ≡ x → owes_on (L.seats i).about k (L.seats j) ≡ false
          by Nobody f x q = rw f refl
          by Asks f x q = rw f refl
          by Waits f x q = rw f refl
          by Holds f x q = rw f refl
          by Clears f x q = rw f refl
          by Owes f true q = absurd (none_owed j f (eqb-true (L.seats j).about (L.seats i).about q))
          by Owes f false q = rw (f, q) refl

  -- which numbers are records of the board
  is_record_law : (r : ℕ) → not (is_record r s.words) ≡ false → r < n
  is_record_law r e = by (ltb r (length s.words)) refl
    where
      by : (x : Bool) → ltb r (length s.words) ≡ x → r < n
      by true q = omega (arith, ltb-true r (length s.words) q, T.words_long)
      by false q = clash (not (is_record r s.words)) (rw q refl) e

  no_record_law : (r : ℕ) → not (is_record r s.words) ≡ true → n ≤ r
  no_record_law r e = by (ltb r (length s.words)) (ltb r RECORDS) refl refl
    where
      by : (x y : Bool) → ltb r (length s.words) ≡ x → ltb r RECORDS ≡ y → n ≤ r
      by false y p q = omega (arith, ltb-false r (length s.words) p, T.words_long)
      by true false p q = omega (arith, ltb-false r RECORDS q, T.most)
      by true true p q = clash (not (is_record r s.words)) e (rw (p, q) refl)

  -- an open is refused only where it has to be, and else takes a slot that nobody sits in
  opens_where_nobody_sits : OpensWhereNobodySits n L (λ c. (played c s).answer)
  unfolding opened
  opens_where_nobody_sits r m =
      either_by P (not (is_record r s.words)) (λ e. inl (2, refl, inl (no_record_law r e)))
      (λ e. either_by P (ltb 1 m) (λ f. inl (3, refl, inr (inl (ltb-true 1 m f))))
      (λ f. either_by P (leb SLOTS (lowest_free s.slots))
      (λ g. inl (6, refl, inr (inr (λ k h. somebody_there T k h (omega (arith, leb-true SLOTS (lowest_free s.slots) g))))))
      (λ g. inr (lowest_free s.slots, refl, is_record_law r e, ltb-false 1 m f, leb-false SLOTS (lowest_free s.slots) g, nobody_there T g))))
    where
      P : Done → Type 0
      P d = OpenTells n L r m d.answer

  -- who is told to wait is told how many tickets it waits for
  told_number_law : (x : Bool) (d e : Done) (a m : ℕ) → d.answer ≡ Told tells.Granted → e.answer ≡ Told (tells.Waiting a) → (when x then d else e).answer ≡ Told (tells.Waiting m) → m ≡ a
  told_number_law true d e a m p q h = absurd (no_waiting m (sym h ∙ p))
  told_number_law false d e a m p q h = same_number (sym h ∙ q)
    where
      same_number : Told (tells.Waiting m) ≡ Told (tells.Waiting a) → m ≡ a
      same_number z = cc

  -- what a slot waits for, by the seat that it has been given
  seat_waits : (M : Ledger) (i : ℕ) (t : Seat) → waits_for (seated M i t) i ≡ unreleased_before (M.tickets t.about) t.kind t.place
  seat_waits M i t = ap (λ (u : Seat). unreleased_before (M.tickets u.about) u.kind u.place) (put_same M.seats i t)

  told_ahead : (i m : ℕ) → (stepped i s).answer ≡ Told (tells.Waiting m) → (m ≡ waits_for (granted_or_waits (L.seats i).stage i Waits L) i) × (m ≤ 65536)
  told_ahead i m told = by (L.seats i).stage refl
    where
      P : Stage → Type 0
      P g = (m ≡ waits_for (granted_or_waits g i Waits L) i) × (m ≤ 65536)

      other : (g : Stage) → (L.seats i).stage ≡ g → StepTells g (Told (tells.Waiting m))
      other g e = subst (StepTells g) told (subst (λ (h : Stage). StepTells h (stepped i s).answer) e (told_by_stage T i).0)

      not_this : {X : Type 0} (a : Answer) → Told (tells.Waiting m) ≡ a → is_told is_waiting a ≡ false → X
      not_this a q e = clash (is_told is_waiting a) (ap (is_told is_waiting) (sym q)) e

      drawn_waits : waits_for (drawn i Waits L) i ≡ ahead_now (L.seats i).kind (longer i) (length (mine L i))
      drawn_waits =
          seat_waits (tickets_now L (L.seats i).about (longer i)) i _ ∙
          ap (λ (l : List Given). unreleased_before l (L.seats i).kind (length (mine L i))) (put_same L.tickets (L.seats i).about (longer i))

      few : (g : Stage) → (L.seats i).stage ≡ g → is_nobody g ≡ false → (p : ℕ) → ahead_now (L.seats i).kind (mine L i) p ≤ 65536
      few g e f p = let a = T.agrees (L.seats i).about (lent_to_law T i g e f) in few_ahead (L.seats i).kind (mine L i) p (a.cap Writer) (a.cap Reader)

      asked : (L.seats i).stage ≡ Asks → topped (mine L i) ≡ false → m ≡ ahead_now (L.seats i).kind (longer i) (length (mine L i))
      asked e low =
          let here = in_board T i Asks e refl in
          let lent = lent_to_law T i Asks e refl in
          let eq = ap (λ (d : Done). d.answer) (step_asks_turn s i here (L.seats i) (mine L i) (omega (arith, T.words_long)) (omega (arith, T.most)) (T.agrees (L.seats i).about lent) low (keeps_at T i here Asks e)) in
          told_number_law (eqb (ahead_now (L.seats i).kind (longer i) (length (mine L i))) 0) _ _ _ m refl refl (sym eq ∙ told)

      waited : (L.seats i).stage ≡ Waits → m ≡ ahead_now (L.seats i).kind (mine L i) (L.seats i).place
      waited e =
          let here = in_board T i Waits e refl in
          let lent = lent_to_law T i Waits e refl in
          let eq = ap (λ (d : Done). d.answer) (step_waits s i here (L.seats i) (mine L i) (omega (arith, T.words_long)) (omega (arith, T.most)) (T.agrees (L.seats i).about lent) (keeps_at T i here Waits e) (facts_of T i Waits e refl)) in
          told_number_law (eqb (ahead_now (L.seats i).kind (mine L i) (L.seats i).place) 0) _ _ _ m refl refl (sym eq ∙ told)

      by : (g : Stage) → (L.seats i).stage ≡ g → P (L.seats i).stage
      by Asks e =
          subst P (sym e)
          (⊎_elim
          (λ top. not_this _ (sym told ∙ asks_full i e top) refl)
          (λ low. let q = asked e low in (q ∙ sym drawn_waits, omega (arith, few Asks e refl (length (mine L i)), asks_same i)))
          (cases_Bool (topped (mine L i))))
      by Waits e =
          let q = waited e in
          subst P (sym e) (q ∙ sym (seat_waits L i (staged Waits (L.seats i))), omega (arith, few Waits e refl (L.seats i).place))
      by Nobody e = ⊎_elim (λ q. not_this _ q refl) (λ q. not_this _ q refl) (other Nobody e)
      by Holds e = not_this _ (other Holds e) refl
      by Owes e = not_this _ (other Owes e) refl
      by Clears e = ⊎_elim (λ q. not_this _ q refl) (λ q. not_this _ q refl) (other Clears e)

  told_how_many : ToldHowMany L (λ c. (played c s).answer)
  told_how_many (Step i) m told = (i, refl, (told_ahead i m told).0)
  told_how_many (Open r k) m told = clash (is_told is_waiting (opened r k s).answer) (ap (is_told is_waiting) told) (open_never is_waiting r k)
  told_how_many (Release i) m told = clash (is_told is_waiting (released i s).answer) (ap (is_told is_waiting) told) (release_never is_waiting refl refl i)
  told_how_many (Show r) m told = clash (is_told is_waiting (shown r s).answer) (ap (is_told is_waiting) told) (show_never is_waiting r)

  -- never so many that eight bytes would not hold it
  pub told_few : (i m : ℕ) → (played (Step i) s).answer ≡ Told (tells.Waiting m) → m ≤ 65536
  told_few i m told = (told_ahead i m told).1

  pub demand : Demand n L s (λ c. (played c s).answer)
  demand =
      record {
        seat_has_its_ticket = seat_has_its_ticket T;
        ticket_has_its_seat = ticket_has_its_seat T;
        told_by_stage = told_by_stage T;
        due_exactly = due_exactly T;
        opens_where_nobody_sits = opens_where_nobody_sits;
        never_more = λ r k h. (T.agrees r h).cap k;
        words_are_counted = (T.words_long, T.slots_long, λ r h. word_counted (T.agrees r h));
        alone = alone;
        drawn_granted = drawn_granted;
        waiting_granted = waiting_granted;
        none_passed = none_passed;
        full = full;
        cleared_only = cleared_only;
        cleared_then = cleared_then;
        small = small;
        told_how_many = told_how_many;
      }

pub demand_3 : Demand3
demand_3 n some most ms = demand (tied n some most ms)

pub none_to_wait_for : NoneToWaitFor
none_to_wait_for l k i h = (ahead_earlier k l i h, earlier_ahead k l i)

pub care_counts : CareCounts
care_counts n some most ms i = care_told_law (tied n some most ms) i

pub care_is_what_it_makes : CareIsWhatItMakes
care_is_what_it_makes n some most ms later i =
    let s = board_after n ms in
    let L = ledger_after n ms in
    let m = care_makes (L.seats i).stage i in
    let c = care_same (tied n some most ms) i in (
      after_then (Care i) ms later (fresh n) ∙ ap (λ (d : Done). after (state_of d) later) c.0 ∙ sym (after_then m ms later (fresh n)),
      ledger_then (Care i) ms later (fresh n) blank ∙
          ap (λ (M : Ledger). read_off M (events (state_of (cared i s)) later)) c.1 ∙
          ap (λ (d : Done). read_off (noted m (made m s).answer L) (events (state_of d) later)) c.0 ∙
          sym (ledger_then m ms later (fresh n) blank),
    )

pub asking_leaves_no_trace : AskingLeavesNoTrace
unfolding after events read_off
asking_leaves_no_trace n some most ms i e =
    let c = subst (CareIs (board_after n ms) i) e (care_of_law (tied n some most ms) i) in
    let l : ledger_after n (ms ++ Care i ∷ []) ≡ seated (ledger_after n ms) i free = ledger_then (Care i) ms [] (fresh n) blank ∙ rw c refl in (
      ap (λ (x : State). x.words) (after_then (Care i) ms [] (fresh n)) ∙ ap (λ (d : Done). d.words) c,
      ap (λ (M : Ledger). M.tickets) l,
      ap (λ (M : Ledger). M.seats i) l ∙ put_same (ledger_after n ms).seats i free,
    )
