-- That the ledger is read rightly: what ties it to the board says so, and what a step or a release comes to at each stage is known. So is which
-- of them a care is, and that it is noted as that.
-- Assumes nothing.
use Prim.Native.Nat.{ℕ, zero, suc, ◌<◌, ◌≤◌}
use mathlib.Core.Path.{◌≡◌, refl, ap, sym, subst, ◌∙◌}
use mathlib.Core.Bool.{Bool, true, false}
use mathlib.Core.Logic.{inl, inr, ⊎_elim}
use mathlib.Core.List.{[], ◌∷◌, ◌++◌}
use native.Mathlib.Omega.{arith}
use borrow.Author.Tests.{leb-true, leb-false, ltb-false, eqb-false, ne_eqb}
use lib.Dec.{eqb, leb, ltb}
use lib.ListN.{length, set}
use Rattle.std.proofs.lemmas.Bool.{cases_Bool}
use Rattle.common.specs.Choice.{when◌then◌else◌}
use Rattle.common.proofs.Choices.{either_by}
use Rattle.agent_ticket.specs.declared.Mode.{Mode}
use Rattle.agent_ticket.specs.declared.Mode.TheVariants.{Reader, Writer}
use Rattle.agent_request.specs.Request.{free_request}
use Rattle.agent_rules.specs.declared.Answer.TheVariants as tells
use Rattle.board_slots.specs.Slots.{SLOTS}
use Rattle.board_rules.specs.Records.{RECORDS}
use Rattle.board_rules.specs.declared.Answer.{Answer}
use Rattle.board_rules.specs.declared.Answer.TheVariants.{Refused, Begun, Opened, Told, Shown, Fenced}
use Rattle.board_rules.specs.Board.{State, Done, stepped, released, state_of, played, begun}
use Rattle.board_rules.specs.Care.{cared}
use Rattle.board_rules.proofs.Care.{care_releases, care_steps}
use Rattle.history_promises.specs.History.{Move, fresh, made, noted}
use Rattle.history_promises.specs.Tickets.{Given, ticket_at}
use Rattle.history_promises.specs.Ledger.{Stage, Ledger, mine, noted_care}
use Rattle.history_promises.specs.Ledger.Stage.{Nobody, Asks, Waits, Holds, Owes, Clears}
use Rattle.history_promises.specs.Promises.{HasTicket, SeatHasItsTicket, TicketHasItsSeat, StepTells, ReleaseTells, ToldByStage, DueExactly, BegunIsFresh}
use Rattle.history_promises.specs.Promises.{CareTells, care_makes}
use Rattle.history_promises.proofs.Counts.{clash}
use Rattle.history_promises.proofs.Turns.{ahead_now}
use Rattle.history_promises.proofs.Words.{topped, topped_or, or_topped, clearing_for, word_at_rest, rest_is_some}
use Rattle.history_promises.proofs.Tied.{Owns, Facts, Tied, is_nobody, has_ticket, keeps_at, lent_at}
use Rattle.history_promises.proofs.Sent.{step_nobody, step_holds, step_owes, step_clears, step_waits, step_asks_full, step_asks_turn, release_nobody, release_asks, release_waits, release_owes, release_clears, release_holds}
use Rattle.history_promises.proofs.Sent.{phase_of_law, care_nobody, care_asks}
use Rattle.history_promises.proofs.Moves.{word_now, clearing_last, clearing_closes, facts_at}

same_parts : {k k' : Mode} {i i' : ℕ} {b b' : Bool} → k ≡ k' → i ≡ i' → b ≡ b' → ◌≡◌ {A = Given} (record { kind = k; slot = i; released = b }) (record { kind = k'; slot = i'; released = b' })
same_parts p q r = cc

has_or : (g : Stage) → has_ticket g ≡ true → HasTicket g
has_or Waits e = inl refl
has_or Holds e = inr refl
has_or Nobody e = clash false e refl
has_or Asks e = clash false e refl
has_or Owes e = clash false e refl
has_or Clears e = clash false e refl

-- which move the care of the slot i is, by its stage
abbrev pub CareIs : State → ℕ → Stage → Type 0
CareIs s i Nobody = cared i s ≡ stepped i s
CareIs s i Asks = cared i s ≡ record { slots = set s.slots i free_request; words = s.words; answer = Told tells.FreedUnasked }
CareIs s i Waits = cared i s ≡ stepped i s
CareIs s i Holds = cared i s ≡ released i s
CareIs s i Owes = cared i s ≡ stepped i s
CareIs s i Clears = cared i s ≡ stepped i s

-- it leaves the board that this move leaves, and is noted as this move is
abbrev pub SameAs : State → Ledger → ℕ → Move → Type 0
SameAs s L i m = (cared i s ≡ made m s) × (noted_care i (cared i s).answer L ≡ noted m (made m s).answer L)

module _ {n : ℕ} {s : State} {L : Ledger} (T : Tied n s L) where
  -- a slot at a stage is one of the 256
  pub in_board : (i : ℕ) (g : Stage) → (L.seats i).stage ≡ g → is_nobody g ≡ false → i < SLOTS
  in_board i g e f = ⊎_elim (λ h. clash (is_nobody g) (sym (ap is_nobody e) ∙ ap is_nobody (T.beyond i (leb-true SLOTS i h))) f) (λ h. leb-false SLOTS i h) (cases_Bool (leb SLOTS i))

  pub lent_to_law : (i : ℕ) (g : Stage) → (L.seats i).stage ≡ g → is_nobody g ≡ false → (L.seats i).about < n
  lent_to_law i g e f = lent_at T i (in_board i g e f) g e f

  pub facts_of : (i : ℕ) (g : Stage) → (L.seats i).stage ≡ g → is_nobody g ≡ false → Facts g (L.seats i) (mine L i) i
  facts_of i g e f = facts_at T i (in_board i g e f) (lent_to_law i g e f) g e

  pub seat_has_its_ticket : SeatHasItsTicket L
  seat_has_its_ticket i h = by (⊎_elim (λ e. facts_of i Waits e refl) (λ e. (facts_of i Holds e refl).0) h)
    where
      by : Owns (L.seats i) (mine L i) i → ((L.seats i).place < length (mine L i)) × (ticket_at (mine L i) (L.seats i).place ≡ record { kind = (L.seats i).kind; slot = i; released = false })
      by o = (o.inside, same_parts o.kind o.slot o.open_now)

  pub ticket_has_its_seat : TicketHasItsSeat n L
  ticket_has_its_seat r j h l e = let o = T.owner r j h l e in (has_or _ o.has, o.about, o.place)

  step_told_law : (i : ℕ) → i < SLOTS → (g : Stage) → (L.seats i).stage ≡ g → StepTells g (stepped i s).answer
  step_told_law i here Nobody e = rw (step_nobody s i here (keeps_at T i here Nobody e)) (inr refl)
  step_told_law i here Holds e = rw (step_holds s i here (L.seats i) (mine L i) (keeps_at T i here Holds e)) refl
  step_told_law i here Owes e =
      let lent = lent_to_law i Owes e refl in
      rw (step_owes s i here (L.seats i) (mine L i) (omega (arith, T.words_long)) (omega (arith, T.most)) (keeps_at T i here Owes e)) refl
  step_told_law i here Waits e =
      let lent = lent_to_law i Waits e refl in
      subst (λ (d : Done). StepTells Waits d.answer) (sym (step_waits s i here (L.seats i) (mine L i) (omega (arith, T.words_long)) (omega (arith, T.most)) (T.agrees (L.seats i).about lent) (keeps_at T i here Waits e) (facts_of i Waits e refl)))
      (either_by (λ (d : Done). StepTells Waits d.answer) (eqb (ahead_now (L.seats i).kind (mine L i) (L.seats i).place) 0) (λ z. inl refl) (λ z. inr (_, refl)))
  step_told_law i here Asks e =
      let lent = lent_to_law i Asks e refl in
      let inside : (L.seats i).about < length s.words = omega (arith, T.words_long) in
      let few : (L.seats i).about < 4096 = omega (arith, T.most) in
      let a = T.agrees (L.seats i).about lent in
      ⊎_elim
      (λ top. subst (λ (d : Done). StepTells Asks d.answer) (sym (step_asks_full s i here (L.seats i) (mine L i) inside few a (keeps_at T i here Asks e) top)) (inl refl))
      (λ low. subst (λ (d : Done). StepTells Asks d.answer) (sym (step_asks_turn s i here (L.seats i) (mine L i) inside few a low (keeps_at T i here Asks e)))
      (either_by (λ (d : Done). StepTells Asks d.answer) (eqb (ahead_now (L.seats i).kind (mine L i ++ record { kind = (L.seats i).kind; slot = i; released = false } ∷ []) (length (mine L i))) 0) (λ z. inr (inl refl)) (λ z. inr (inr (_, refl)))))
      (cases_Bool (topped (mine L i)))
  step_told_law i here Clears e =
      let lent = lent_to_law i Clears e refl in
      let closing = facts_of i Clears e refl in
      let rest = clearing_last (mine L i) (L.seats i).place closing.final closing.top in
      subst (λ (d : Done). StepTells Clears d.answer) (sym (step_clears s i here (L.seats i) (mine L i) (omega (arith, T.words_long)) (omega (arith, T.most)) (keeps_at T i here Clears e) rest))
      (either_by (λ (d : Done). StepTells Clears d.answer) (eqb (word_now s L i) (word_at_rest (mine L i))) (λ z. inl refl) (λ z. inr refl))

  release_told_law : (i : ℕ) → i < SLOTS → (g : Stage) → (L.seats i).stage ≡ g → ReleaseTells g (released i s).answer
  release_told_law i h Nobody e = rw (release_nobody s i h (keeps_at T i h Nobody e)) (inr refl)
  release_told_law i h Asks e = rw (release_asks s i h (L.seats i) (mine L i) (keeps_at T i h Asks e)) refl
  release_told_law i h Waits e = rw (release_waits s i h (L.seats i) (mine L i) (keeps_at T i h Waits e)) refl
  release_told_law i h Owes e = rw (release_owes s i h (L.seats i) (mine L i) (keeps_at T i h Owes e)) refl
  release_told_law i h Clears e = rw (release_clears s i h (L.seats i) (mine L i) (keeps_at T i h Clears e)) refl
  release_told_law i h Holds e =
      let lent = lent_to_law i Holds e refl in
      subst (λ (d : Done). ReleaseTells Holds d.answer) (sym (release_holds s i h (L.seats i) (mine L i) (omega (arith, T.words_long)) (omega (arith, T.most)) (keeps_at T i h Holds e)))
      (either_by (λ (d : Done). ReleaseTells Holds d.answer) (eqb (clearing_for (mine L i) (L.seats i).place) 0) (λ z. inl refl) (λ z. inr refl))

  -- clearing is due by the youngest ticket at the ceiling, and by no other
  let_go_told :
      (i : ℕ) → (L.seats i).stage ≡ Holds →
      (released i s).answer ≡ (when eqb (clearing_for (mine L i) (L.seats i).place) 0 then Told tells.Released else Told tells.ClearingDue)
  let_go_told i e =
      let lent = lent_to_law i Holds e refl in
      ap (λ (d : Done). d.answer) (release_holds s i (in_board i Holds e refl) (L.seats i) (mine L i) (omega (arith, T.words_long)) (omega (arith, T.most)) (keeps_at T i (in_board i Holds e refl) Holds e)) ∙
      by (eqb (clearing_for (mine L i) (L.seats i).place) 0) _ _
    where
      by : (x : Bool) (d d' : Done) → (when x then d else d').answer ≡ (when x then d.answer else d'.answer)
      by true d d' = refl
      by false d d' = refl

  pub due_exactly : DueExactly L (λ c. (played c s).answer)
  due_exactly i e =
      let a = T.agrees (L.seats i).about (lent_to_law i Holds e refl) in (
        (λ h.
            let c = clearing_closes (mine L i) (L.seats i).place (eqb-false (clearing_for (mine L i) (L.seats i).place) 0 (kept (eqb (clearing_for (mine L i) (L.seats i).place) 0) (sym (let_go_told i e) ∙ h))) in
            (omega (arith, c.1), ⊎_elim (λ w. (Writer, omega (arith, a.cap Writer))) (λ r. (Reader, omega (arith, a.cap Reader))) (topped_or (mine L i) c.0))),
        (λ h.
            let top = or_topped (mine L i) h.1.0 (omega (arith, h.1.1)) in
            let last : suc (L.seats i).place ≡ length (mine L i) = omega (arith, h.0) in
            let_go_told i e ∙ rw (ne_eqb (clearing_for (mine L i) (L.seats i).place) 0 (λ z. rest_is_some (mine L i) top (sym (clearing_last (mine L i) (L.seats i).place last top) ∙ z))) refl),
      )
    where
      kept : (x : Bool) → (when x then Told tells.Released else Told tells.ClearingDue) ≡ Told tells.ClearingDue → x ≡ false
      kept false q = refl
      kept true q = let z : ◌≡◌ {A = ℕ} 0 1 = cc in absurd (omega arith)

  pub told_by_stage : ToldByStage L (λ c. (played c s).answer)
  unfolding stepped released
  told_by_stage i = by (leb SLOTS i) refl
    where
      by : (x : Bool) → leb SLOTS i ≡ x → StepTells (L.seats i).stage (stepped i s).answer × ReleaseTells (L.seats i).stage (released i s).answer
      by true e = rw (T.beyond i (leb-true SLOTS i e), e) (inl refl, inl refl)
      by false e = let here = leb-false SLOTS i e in (step_told_law i here (L.seats i).stage refl, release_told_law i here (L.seats i).stage refl)

  -- the stage tells the phase, and the phase what a care does
  care_at : (i : ℕ) → i < SLOTS → (g : Stage) → (L.seats i).stage ≡ g → CareIs s i g
  care_at i here Nobody e = let k = keeps_at T i here Nobody e in care_nobody s i here k ∙ sym (step_nobody s i here k)
  care_at i here Asks e =
      let lent = lent_to_law i Asks e refl in
      care_asks s i here (L.seats i) (mine L i) (omega (arith, T.words_long)) (omega (arith, T.most)) (keeps_at T i here Asks e)
  care_at i here Waits e = (care_steps i s).0 (ap phase_of_law (keeps_at T i here Waits e))
  care_at i here Holds e = care_releases i s (ap phase_of_law (keeps_at T i here Holds e))
  care_at i here Owes e = (care_steps i s).1 (ap phase_of_law (keeps_at T i here Owes e))
  care_at i here Clears e = (care_steps i s).2 (ap phase_of_law (keeps_at T i here Clears e))

  pub care_of_law : (i : ℕ) → CareIs s i (L.seats i).stage
  unfolding cared stepped
  care_of_law i = by (leb SLOTS i) refl
    where
      by : (x : Bool) → leb SLOTS i ≡ x → CareIs s i (L.seats i).stage
      by true e = rw (T.beyond i (leb-true SLOTS i e), e) refl
      by false e = care_at i (leb-false SLOTS i e) (L.seats i).stage refl

  -- what it is told,
  pub care_told_law : (i : ℕ) → CareTells (L.seats i).stage (cared i s).answer (stepped i s).answer (released i s).answer
  care_told_law i = by (L.seats i).stage (care_of_law i) (told_by_stage i).0
    where
      answers : {d : Done} → cared i s ≡ d → (cared i s).answer ≡ d.answer
      answers c = ap (λ (d : Done). d.answer) c

      by : (g : Stage) → CareIs s i g → StepTells g (stepped i s).answer → CareTells g (cared i s).answer (stepped i s).answer (released i s).answer
      by Nobody c t = subst (StepTells Nobody) (sym (answers c)) t
      by Asks c t = answers c
      by Waits c t = answers c
      by Holds c t = answers c
      by Owes c t = answers c
      by Clears c t = answers c

  -- and which move it is the same as
  pub care_same : (i : ℕ) → SameAs s L i (care_makes (L.seats i).stage i)
  care_same i = let t = told_by_stage i in by (L.seats i).stage (care_of_law i) t.0 t.1
    where
      by : (g : Stage) → CareIs s i g → StepTells g (stepped i s).answer → ReleaseTells g (released i s).answer → SameAs s L i (care_makes g i)
      by Nobody c t u = (c, rw c (⊎_elim (λ q. rw q refl) (λ q. rw q refl) t))
      by Asks c t u = (refl, refl)
      by Waits c t u = (c, rw c (⊎_elim (λ q. rw q refl) (λ q. rw q.1 refl) t))
      by Holds c t u = (c, rw c (⊎_elim (λ q. rw q refl) (λ q. rw q refl) u))
      by Owes c t u = (c, rw c (rw t refl))
      by Clears c t u = (c, rw c (⊎_elim (λ q. rw q refl) (λ q. rw q refl) t))

abbrev is_begun : Answer → Bool
is_begun Begun = true
is_begun (Refused n) = false
is_begun (Opened k) = false
is_begun (Told a) = false
is_begun (Shown w) = false
is_begun Fenced = false

pub begun_is_fresh : BegunIsFresh
unfolding begun
begun_is_fresh s e = by (eqb (length s.words) 0) (ltb RECORDS (length s.words)) refl refl (ap is_begun e)
  where
    by : (x y : Bool) → eqb (length s.words) 0 ≡ x → ltb RECORDS (length s.words) ≡ y → is_begun (begun s).answer ≡ true → (1 ≤ length s.words) × (length s.words ≤ 4096) × (state_of (begun s) ≡ fresh (length s.words))
    by false false p q f = let a = eqb-false _ _ p in let b = ltb-false _ _ q in (pos (length s.words) a, b, rw (p, q) refl)
      where
        pos : (m : ℕ) → (m ≡ 0 → ⊥) → 1 ≤ m
        pos zero d = absurd (d refl)
        pos (suc m) d = omega arith
    by true y p q f = clash false (rw p at f) refl
    by false true p q f = clash false (rw (p, q) at f) refl
