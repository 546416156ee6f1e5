-- Every call keeps board and ledger tied, a fresh board and a blank ledger are tied, and so they are after every sequence of calls. A care keeps
-- them as the step or the release that it is.
-- Assumes nothing.
use Prim.Native.Nat.{ℕ, zero, suc, ◌<◌, ◌≤◌}
use mathlib.Core.Path.{◌≡◌, refl, ap, sym, subst, ◌∙◌}
use mathlib.Core.Bool.{Bool, true, false, ◌&&◌}
use mathlib.Core.Logic.{inl, inr, ⊎_elim}
use mathlib.Core.List.{List, [], ◌∷◌, ◌++◌}
use native.Mathlib.Omega.{arith}
use borrow.Author.Tests.{leb-false, ltb-true, ltb-false, le-ltb, eqb-true, eqb-false, ne_eqb}
use lib.Dec.{eqb, leb, ltb}
use lib.ListN.{length, set, length-set, length-replicate, get_or-replicate}
use lib.Seq.{get_or-set_same, get_or-set_other, set-get_or}
use Rattle.std.proofs.lemmas.Bool.{cases_Bool}
use Rattle.common.proofs.Choices.{either_by}
use Rattle.word_layout.specs.Word.{step_of, add_of}
use Rattle.agent_ticket.specs.declared.Mode.{Mode}
use Rattle.agent_request.specs.Request.{in_use, mode_of, free_request, opened_request}
use Rattle.agent_request.specs.declared.Request.{Request}
use Rattle.agent_request.specs.declared.Phase.TheVariants.{Waiting, Held}
use Rattle.agent_rules.specs.Life.{ticket_counter}
use Rattle.board_slots.specs.Slots.{SLOTS, lowest_free}
use Rattle.board_slots.proofs.Promises.{lowest_is_free, lower_are_used}
use Rattle.board_call.specs.declared.Call.TheVariants.{Open, Step, Release, Show}
use Rattle.board_rules.specs.Records.{RECORDS, is_record}
use Rattle.board_rules.specs.Board.{State, Done, state_of, slot_at, begun, opened, stepped, released, shown}
use Rattle.board_rules.specs.Care.{cared}
use Rattle.history_promises.specs.Tickets.{Given, ticket_at}
use Rattle.history_promises.specs.Ledger.{Stage, Seat, Ledger, free, blank, put, seated, staged, mine, drawn, granted_or_waits, noted_call, begun_with, one, is_owing, owes_on, owed}
use Rattle.history_promises.specs.Ledger.{noted_care}
use Rattle.history_promises.specs.Ledger.Stage.{Nobody, Asks, Waits, Holds, Owes, Clears}
use Rattle.history_promises.specs.History.{Move, fresh, made, after, events, noted, read_off, ledger_after, board_after}
use Rattle.history_promises.specs.History.Move.{Begin, Do, Care}
use Rattle.history_promises.specs.Promises.{care_makes}
use Rattle.history_promises.proofs.Counts.{clash, below_put, none_below}
use Rattle.history_promises.proofs.Turns.{ahead_now, ahead_earlier}
use Rattle.history_promises.proofs.Words.{topped, clearing_for, word_at_rest, agrees_same, agrees_empty}
use Rattle.history_promises.proofs.Tied.{mode_number, with_ticket, request_for, is_nobody, has_ticket, may_clear, Tied, Change, tied_after}
use Rattle.history_promises.proofs.Tied.{keeps_at, lent_at}
use Rattle.history_promises.proofs.Sent.{went_to, step_nobody, step_holds, step_owes, step_clears, step_waits, step_asks_full, step_asks_turn, release_nobody, release_asks, release_waits, release_owes, release_clears, release_holds}
use Rattle.history_promises.proofs.Moves.{put_same, put_other, none_topped, word_now, owes_nothing, clearing_last, tied_went, facts_at, full_moved, withdrawn_moved, waits_moved, granted_moved, drawn_moved, drawn_owns, released_moved, due_moved, cleared_moved}
use Rattle.history_promises.proofs.Moves.{unasked_moved}
use Rattle.history_promises.proofs.Seats.{in_board, lent_to_law, CareIs, care_of_law, care_same}

-- a step of a slot, at the stage that its seat has
module _ {n : ℕ} {s : State} {L : Ledger} (T : Tied n s L) (i : ℕ) (here : i < SLOTS) where
  abbrev StepKeeps : Done → Type 0
  StepKeeps d = Tied n (state_of d) (noted_call (Step i) d.answer L)

  step_kept_at : (g : Stage) → (L.seats i).stage ≡ g → StepKeeps (stepped i s)
  step_kept_at Nobody e = subst StepKeeps (sym (step_nobody s i here (keeps_at T i here Nobody e))) T
  step_kept_at Holds e = subst StepKeeps (sym (step_holds s i here (L.seats i) (mine L i) (keeps_at T i here Holds e))) T
  step_kept_at Owes e =
      let lent = lent_at T i here Owes e refl in
      subst StepKeeps (sym (step_owes s i here (L.seats i) (mine L i) (omega (arith, T.words_long)) (omega (arith, T.most)) (keeps_at T i here Owes e)))
      (tied_went T i here lent _ _ _ (withdrawn_moved T i here lent e))
  step_kept_at Asks e =
      let lent = lent_at T i here Asks e refl in
      let inside : (L.seats i).about < length s.words = omega (arith, T.words_long) in
      let small : (L.seats i).about < 4096 = omega (arith, T.most) in
      let a = T.agrees (L.seats i).about lent in
      let longer = mine L i ++ record { kind = (L.seats i).kind; slot = i; released = false } ∷ [] in
      let at = keeps_at T i here Asks e in
      ⊎_elim
      (λ top. subst StepKeeps (sym (step_asks_full s i here (L.seats i) (mine L i) inside small a at top)) (tied_went T i here lent _ _ _ (full_moved T i here lent e top)))
      (λ low.
      subst StepKeeps (sym (step_asks_turn s i here (L.seats i) (mine L i) inside small a low at))
      (either_by StepKeeps (eqb (ahead_now (L.seats i).kind longer (length (mine L i))) 0)
      (λ z.
      subst (λ (g : Stage). Tied n (went_to s i (L.seats i).about (with_ticket Held (at_last Holds) longer) (add_of (word_now s L i) (step_of (ticket_counter (L.seats i).kind)))) (granted_or_waits g i Holds L)) (sym e)
      (tied_went T i here lent (drawn i Holds L) _ _
      (drawn_moved T i here lent e low Holds refl refl refl
      (drawn_owns T i here lent e low Holds refl refl refl, ahead_earlier (L.seats i).kind longer (length (mine L i)) (omega (arith, (drawn_owns T i here lent e low Holds refl refl refl).inside)) (eqb-true (ahead_now (L.seats i).kind longer (length (mine L i))) 0 z)))))
      (λ z.
      subst (λ (g : Stage). Tied n (went_to s i (L.seats i).about (with_ticket Waiting (at_last Waits) longer) (add_of (word_now s L i) (step_of (ticket_counter (L.seats i).kind)))) (granted_or_waits g i Waits L)) (sym e)
      (tied_went T i here lent (drawn i Waits L) _ _
      (drawn_moved T i here lent e low Waits refl refl refl (drawn_owns T i here lent e low Waits refl refl refl))))))
      (cases_Bool (topped (mine L i)))
    where
      at_last : Stage → Seat
      at_last g = record { stage = g; about = (L.seats i).about; kind = (L.seats i).kind; place = length (mine L i) }
  step_kept_at Waits e =
      let at = keeps_at T i here Waits e in
      let lent = lent_at T i here Waits e refl in
      let own = facts_at T i here lent Waits e in
      let agrees = T.agrees (L.seats i).about lent in
      subst StepKeeps (sym (step_waits s i here (L.seats i) (mine L i) (omega (arith, T.words_long)) (omega (arith, T.most)) agrees at own))
      (either_by StepKeeps (eqb (ahead_now (L.seats i).kind (mine L i) (L.seats i).place) 0)
      (λ z.
      subst (λ (g : Stage). Tied n (went_to s i (L.seats i).about (with_ticket Held (L.seats i) (mine L i)) (word_now s L i)) (granted_or_waits g i Holds L)) (sym e)
      (tied_went T i here lent _ _ _
      (granted_moved T i here lent e (ahead_earlier (L.seats i).kind (mine L i) (L.seats i).place (omega (arith, own.inside)) (eqb-true (ahead_now (L.seats i).kind (mine L i) (L.seats i).place) 0 z)))))
      (λ z.
      subst (λ (g : Stage). Tied n (went_to s i (L.seats i).about (with_ticket Waiting (L.seats i) (mine L i)) (word_now s L i)) (granted_or_waits g i Waits L)) (sym e)
      (tied_went T i here lent _ _ _ (waits_moved T i here lent e))))
  step_kept_at Clears e =
      let at = keeps_at T i here Clears e in
      let lent = lent_at T i here Clears e refl in
      let closing = facts_at T i here lent Clears e in
      let rest = clearing_last (mine L i) (L.seats i).place closing.final closing.top in
      subst StepKeeps (sym (step_clears s i here (L.seats i) (mine L i) (omega (arith, T.words_long)) (omega (arith, T.most)) at rest))
      (either_by StepKeeps (eqb (word_now s L i) (word_at_rest (mine L i)))
      (λ z. tied_went T i here lent _ _ _ (cleared_moved T i here lent e (eqb-true (word_now s L i) (word_at_rest (mine L i)) z)))
      (λ z. subst (λ (x : State). Tied n x L) (sym (same_state Clears e)) T))
    where
      same_state : (g : Stage) → (L.seats i).stage ≡ g → went_to s i (L.seats i).about (request_for g (L.seats i) (mine L i)) (word_now s L i) ≡ s
      same_state g e =
          ap (λ (q : Request). went_to s i (L.seats i).about q (word_now s L i)) (sym (keeps_at T i here g e)) ∙
          rw (set-get_or s.slots i free_request, set-get_or s.words (L.seats i).about 0) refl

  -- the same of a release
  abbrev ReleaseKeeps : Done → Type 0
  ReleaseKeeps d = Tied n (state_of d) (noted_call (Release i) d.answer L)

  release_kept_at : (g : Stage) → (L.seats i).stage ≡ g → ReleaseKeeps (released i s)
  release_kept_at Nobody e = subst ReleaseKeeps (sym (release_nobody s i here (keeps_at T i here Nobody e))) T
  release_kept_at Asks e = subst ReleaseKeeps (sym (release_asks s i here (L.seats i) (mine L i) (keeps_at T i here Asks e))) T
  release_kept_at Waits e = subst ReleaseKeeps (sym (release_waits s i here (L.seats i) (mine L i) (keeps_at T i here Waits e))) T
  release_kept_at Owes e = subst ReleaseKeeps (sym (release_owes s i here (L.seats i) (mine L i) (keeps_at T i here Owes e))) T
  release_kept_at Clears e = subst ReleaseKeeps (sym (release_clears s i here (L.seats i) (mine L i) (keeps_at T i here Clears e))) T
  release_kept_at Holds e =
      let at = keeps_at T i here Holds e in
      let lent = lent_at T i here Holds e refl in
      subst ReleaseKeeps (sym (release_holds s i here (L.seats i) (mine L i) (omega (arith, T.words_long)) (omega (arith, T.most)) at))
      (either_by ReleaseKeeps (eqb (clearing_for (mine L i) (L.seats i).place) 0)
      (λ z. tied_went T i here lent _ _ _ (released_moved T i here lent e free refl (eqb-true (clearing_for (mine L i) (L.seats i).place) 0 z)))
      (λ z. tied_went T i here lent _ _ _ (due_moved T i here lent e (staged Clears (L.seats i)) refl (eqb-false (clearing_for (mine L i) (L.seats i).place) 0 z))))

module _ {n : ℕ} {s : State} {L : Ledger} (T : Tied n s L) where
  -- a step and a release of any slot
  step_kept : (i : ℕ) → Tied n (state_of (stepped i s)) (noted_call (Step i) (stepped i s).answer L)
  unfolding stepped
  step_kept i = by (leb SLOTS i) refl
    where
      by : (x : Bool) → leb SLOTS i ≡ x → Tied n (state_of (stepped i s)) (noted_call (Step i) (stepped i s).answer L)
      by true e = rw e T
      by false e = step_kept_at T i (leb-false SLOTS i e) (L.seats i).stage refl

  release_kept : (i : ℕ) → Tied n (state_of (released i s)) (noted_call (Release i) (released i s).answer L)
  unfolding released
  release_kept i = by (leb SLOTS i) refl
    where
      by : (x : Bool) → leb SLOTS i ≡ x → Tied n (state_of (released i s)) (noted_call (Release i) (released i s).answer L)
      by true e = rw e T
      by false e = release_kept_at T i (leb-false SLOTS i e) (L.seats i).stage refl

  -- a care is one of them, or frees a slot that asks
  care_kept : (i : ℕ) → Tied n (state_of (cared i s)) (noted_care i (cared i s).answer L)
  care_kept i =
      let m = care_makes (L.seats i).stage i in
      let same = care_same T i in
      subst (Tied n (state_of (cared i s))) (sym same.1)
      (subst (λ (d : Done). Tied n (state_of d) (noted m (made m s).answer L)) (sym same.0) (by (L.seats i).stage refl))
    where
      freed : (L.seats i).stage ≡ Asks → Tied n (record { slots = set s.slots i free_request; words = s.words }) (seated L i free)
      freed e =
          let lent = lent_to_law T i Asks e refl in
          let here = in_board T i Asks e refl in
          subst (λ (w : List ℕ). Tied n (record { slots = set s.slots i free_request; words = w }) (seated L i free))
          (set-get_or s.words (L.seats i).about 0) (tied_went T i here lent _ _ _ (unasked_moved T i here lent e))

      by : (g : Stage) → (L.seats i).stage ≡ g → Tied n (state_of (made (care_makes g i) s)) (noted (care_makes g i) (made (care_makes g i) s).answer L)
      by Nobody e = step_kept i
      by Asks e = subst (λ (d : Done). Tied n (state_of d) (noted_care i d.answer L)) (sym (subst (CareIs s i) e (care_of_law T i))) (freed e)
      by Waits e = step_kept i
      by Holds e = release_kept i
      by Owes e = step_kept i
      by Clears e = step_kept i

  show_kept : (r : ℕ) → Tied n (state_of (shown r s)) L
  unfolding shown
  show_kept r = T

  -- an open takes a slot that nobody sits in
  used : (g : Stage) (t : Seat) (l : List Given) → in_use (request_for g t l) ≡ false → g ≡ Nobody
  used Nobody t l e = refl
  used Asks t l e = clash true refl e
  used Waits t l e = clash true refl e
  used Holds t l e = clash true refl e
  used Owes t l e = clash true refl e
  used Clears t l e = clash true refl e

  pub nobody_there : leb SLOTS (lowest_free s.slots) ≡ false → (L.seats (lowest_free s.slots)).stage ≡ Nobody
  nobody_there c =
      let k = lowest_free s.slots in
      let here = leb-false SLOTS k c in
      let free-there = lowest_is_free s.slots (omega (arith, T.slots_long)) in
      used (L.seats k).stage (L.seats k) (mine L k) (ap in_use (sym (T.sits k here).keeps) ∙ free-there)

  -- and below it, or where there is none, somebody sits
  pub somebody_there : (k : ℕ) → k < SLOTS → k < lowest_free s.slots → (L.seats k).stage ≡ Nobody → ⊥
  somebody_there k here low e = clash (in_use (slot_at s k)) (lower_are_used s.slots k low) (ap in_use (keeps_at T k here Nobody e))

  module _ (r m k : ℕ) (lent : r < n) (mode : m ≤ 1) (here : k < SLOTS) (nobody : (L.seats k).stage ≡ Nobody) where
    abbrev seat_then : Seat
    seat_then = record { stage = Asks; about = r; kind = mode_of m; place = 0 }

    abbrev board_then : State
    board_then = record { slots = set s.slots k (opened_request r m); words = s.words }

    mode_same : (m : ℕ) → m ≤ 1 → m ≡ mode_number (mode_of m)
    mode_same m h = by (eqb m 0) refl
      where
        one_of : (m : ℕ) → m ≤ 1 → (m ≡ 0 → ⊥) → m ≡ 1
        one_of zero h d = absurd (d refl)
        one_of (suc m) h d = omega arith

        by : (x : Bool) → eqb m 0 ≡ x → m ≡ mode_number (mode_of m)
        by true e = rw e (eqb-true m 0 e)
        by false e = rw e (one_of m h (eqb-false m 0 e))

    open_owed : (j : Mode) → owed (put L.seats k seat_then) r j ≡ owed L.seats r j
    open_owed j =
        let p = below_put (λ x. owes_on r j (L.seats x)) (λ x. owes_on r j (put L.seats k seat_then x)) SLOTS k here (λ x d. ap (owes_on r j) (put_other L.seats k seat_then x d)) in
        omega (arith, ap one (owes_nothing r j (L.seats k) (ap is_owing nobody)), ap one (ap (owes_on r j) (put_same L.seats k seat_then)))

    elsewhere : (test : Stage → Bool) → test Nobody ≡ false → (j : ℕ) → test (L.seats j).stage ≡ true → put L.seats k seat_then j ≡ L.seats j
    elsewhere test f j e = put_other L.seats k seat_then j (λ q. clash (test Nobody) (sym (ap test nobody) ∙ subst (λ (x : ℕ). test (L.seats x).stage ≡ true) q e) f)

    open_change : Change n s L board_then (seated L k seat_then) k r
    open_change =
        let at = put_same L.seats k seat_then in
        record {
          here = here;
          lent = lent;
          slots_long = length-set s.slots k (opened_request r m) ∙ T.slots_long;
          words_long = T.words_long;
          slots_other = λ j d. get_or-set_other s.slots k j (opened_request r m) free_request d;
          words_other = λ x d. refl;
          tickets_other = λ x d. refl;
          seats_other = put_other L.seats k seat_then;
          before_on = inl (ap is_nobody nobody);
          after_on = rw at (inr refl);
          own = rw (at, get_or-set_same s.slots k (opened_request r m) free_request (omega (arith, T.slots_long))) (record { keeps = ap (opened_request r) (mode_same m mode); lent = inr lent; facts = tt });
          others = λ j d h e q sit. sit;
          agrees = agrees_same (T.agrees r lent) (owed (put L.seats k seat_then) r) open_owed;
          owner = λ p h o. let w = T.owner r p lent h o in let same = elsewhere has_ticket refl (ticket_at (L.tickets r) p).slot w.has in record { small = w.small; about = ap (λ (u : Seat). u.about) same ∙ w.about; place = ap (λ (u : Seat). u.place) same ∙ w.place; has = ap (λ (u : Seat). has_ticket u.stage) same ∙ w.has };
          last = λ h. let w = T.last r lent h in let same = elsewhere may_clear refl w.slot w.may in record { slot = w.slot; small = w.small; about = ap (λ (u : Seat). u.about) same ∙ w.about; final = ap (λ (u : Seat). suc u.place) same ∙ w.final; may = ap (λ (u : Seat). may_clear u.stage) same ∙ w.may };
        }

  and_first : (x y : Bool) → (x && y) ≡ true → x ≡ true
  and_first true y e = refl
  and_first false y e = e

  open_kept : (r m : ℕ) → Tied n (state_of (opened r m s)) (noted_call (Open r m) (opened r m s).answer L)
  unfolding opened
  open_kept r m = by (is_record r s.words) (ltb 1 m) (leb SLOTS (lowest_free s.slots)) refl refl refl
    where
      by :
          (x y f : Bool) → is_record r s.words ≡ x → ltb 1 m ≡ y → leb SLOTS (lowest_free s.slots) ≡ f →
          Tied n (state_of (opened r m s)) (noted_call (Open r m) (opened r m s).answer L)
      by false y f a b c = rw a T
      by true true f a b c = rw (a, b) T
      by true false true a b c = rw (a, b, c) T
      by true false false a b c =
          let k = lowest_free s.slots in
          let here = leb-false SLOTS k c in
          let nobody = nobody_there c in
          let inside = ltb-true r (length s.words) (and_first (ltb r (length s.words)) (ltb r RECORDS) a) in
          let mode = ltb-false 1 m b in
          rw (a, b, c) (tied_after T _ _ k r (open_change r m k (omega (arith, T.words_long)) mode here nobody))

-- a fresh board and a blank ledger
pub tied_fresh : (n : ℕ) → 1 ≤ n → n ≤ 4096 → Tied n (fresh n) blank
tied_fresh n some most =
    record {
      some = some;
      most = most;
      slots_long = length-replicate SLOTS free_request;
      words_long = length-replicate {A = ℕ} n 0;
      beyond = λ i h. refl;
      sits = λ i h. record { keeps = get_or-replicate SLOTS i free_request free_request h; lent = inl refl; facts = tt };
      agrees = λ r h. rw (get_or-replicate {A = ℕ} n r 0 0 h) (agrees_empty (owed (λ i. free) r) (λ k. none_below (λ i. owes_on r k free) SLOTS (λ i m. refl)));
      owner = λ r p h m o. absurd (omega arith);
      last = λ r h top. clash (topped []) top none_topped;
    }

-- begin makes one
begin_kept : {n : ℕ} {s : State} {L : Ledger} → Tied n s L → Tied n (state_of (begun s)) (begun_with (begun s).answer L)
unfolding begun
begin_kept {n} {s} {L} T =
    let some : eqb (length s.words) 0 ≡ false = ne_eqb (length s.words) 0 (λ e. absurd (omega (arith, T.words_long, T.some))) in
    let most : ltb RECORDS (length s.words) ≡ false = le-ltb RECORDS (length s.words) (omega (arith, T.words_long, T.most)) in
    rw (some, most) (rw T.words_long (tied_fresh n T.some T.most))

-- every call keeps them tied
pub kept : {n : ℕ} {s : State} {L : Ledger} → Tied n s L → (m : Move) → Tied n (state_of (made m s)) (noted m (made m s).answer L)
kept T Begin = begin_kept T
kept T (Do (Open r m)) = open_kept T r m
kept T (Do (Step i)) = step_kept T i
kept T (Do (Release i)) = release_kept T i
kept T (Do (Show r)) = show_kept T r
kept T (Care i) = care_kept T i

-- Any relation between a board and a ledger that every call keeps holds after every sequence of calls, if it holds before it.
pub always :
    (R : State → Ledger → Type 0) → ((s : State) (L : Ledger) (m : Move) → R s L → R (state_of (made m s)) (noted m (made m s).answer L)) →
    (ms : List Move) (s : State) (L : Ledger) → R s L → R (after s ms) (read_off L (events s ms))
unfolding after events read_off
always R step [] s L r = r
always R step (m ∷ ms) s L r = always R step ms (state_of (made m s)) (noted m (made m s).answer L) (step s L m r)

pub tied : (n : ℕ) → 1 ≤ n → n ≤ 4096 → (ms : List Move) → Tied n (board_after n ms) (ledger_after n ms)
tied n some most ms = always (Tied n) (λ s L m T. kept T m) ms (fresh n) blank (tied_fresh n some most)

-- The board and the ledger after some calls, one more, and the later ones.
pub after_then : (m : Move) (ms later : List Move) (s : State) → after s (ms ++ m ∷ later) ≡ after (state_of (made m (after s ms))) later
unfolding after
after_then m [] later s = refl
after_then m (x ∷ ms) later s = after_then m ms later (state_of (made x s))

pub ledger_then :
    (m : Move) (ms later : List Move) (s : State) (L : Ledger) →
    read_off L (events s (ms ++ m ∷ later)) ≡
    read_off (noted m (made m (after s ms)).answer (read_off L (events s ms))) (events (state_of (made m (after s ms))) later)
unfolding after events read_off
ledger_then m [] later s L = refl
ledger_then m (x ∷ ms) later s L = ledger_then m ms later (state_of (made x s)) (noted x (made x s).answer L)
