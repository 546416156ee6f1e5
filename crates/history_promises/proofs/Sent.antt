-- What a step or a release of a slot comes to, by its seat: the request, the word and the answer afterwards. So too a care where it is neither.
-- Assumes nothing.
use Prim.Native.Nat.{ℕ, ◌<◌}
use mathlib.Core.Path.{◌≡◌, refl, ap, sym, ◌∙◌}
use mathlib.Core.Bool.{Bool, true, false}
use mathlib.Core.List.{List, [], ◌∷◌, ◌++◌}
use native.Mathlib.Omega.{arith}
use borrow.Author.Tests.{lt-leb, lt-ltb}
use lib.Dec.{eqb}
use lib.ListN.{length, get_or, set, length-append}
use lib.Seq.{take-append_seam, get_or-append_seam}
use Rattle.common.specs.Choice.{when◌then◌else◌}
use Rattle.word_layout.specs.Word.{step_of, back_of, split_of, add_of, swap_of}
use Rattle.word_layout.specs.declared.Counters.{Counters}
use Rattle.agent_ticket.specs.Turn.{turn_of}
use Rattle.agent_ticket.specs.Promises.{behind}
use Rattle.agent_ceiling.specs.Ceiling.{full_at, clearing_word_of}
use Rattle.agent_ticket.specs.declared.Mode.{Mode}
use Rattle.agent_ticket.specs.declared.Mode.TheVariants.{Reader, Writer}
use Rattle.agent_request.specs.Request.{in_use, phase_number, phase_of, mode_of, free_request, in_phase}
use Rattle.agent_request.specs.declared.Request.{Request}
use Rattle.agent_request.specs.declared.Phase.{Phase}
use Rattle.agent_request.specs.declared.Phase.TheVariants.{Asking, Waiting, Held, Owing, Clearing}
use Rattle.agent_rules.specs.Life.{left_by, ticket_counter, release_counter, step_sends, release_sends, step_takes, release_takes, asked, waited, ticketed, turned, becomes}
use Rattle.agent_rules.specs.declared.Answer.{Answer as Tells}
use Rattle.agent_rules.specs.declared.Answer.TheVariants as tells
use Rattle.agent_rules.specs.declared.Taken.{Taken}
use Rattle.agent_rules.specs.declared.Verb.{Verb}
use Rattle.board_slots.specs.Slots.{SLOTS}
use Rattle.board_rules.specs.Records.{is_nothing, refusal_of}
use Rattle.board_rules.specs.declared.Answer.TheVariants.{Told}
use Rattle.board_rules.specs.Board.{State, Done, slot_at, sent, stepped, released, refused}
use Rattle.board_rules.specs.Care.{cared}
use Rattle.board_rules.proofs.Care.{care_frees}
use Rattle.history_promises.specs.Tickets.{Given, past_the_last, given_of}
use Rattle.history_promises.specs.Ledger.{Stage, Seat}
use Rattle.history_promises.specs.Ledger.Stage.{Asks, Waits, Holds, Owes, Clears}
use Rattle.history_promises.proofs.Order.{append_ordered}
use Rattle.history_promises.proofs.Turns.{ticket_of, drawn_at, ahead_now, turn_law}
use Rattle.history_promises.proofs.Words.{Agrees, topped, clearing_for, word_at_rest, full_topped, clearing_drawn, released_more}
use Rattle.history_promises.proofs.Tied.{mode_number, with_ticket, request_for, Owns}

abbrev pub phase_of_law : Request → Phase
phase_of_law q = phase_of q.phase

-- a verb was sent for the slot i, on the record r: the request, the word and what is told afterwards
abbrev pub went : State → ℕ → ℕ → Request → ℕ → Tells → Done
went s i r q w a = record { slots = set s.slots i q; words = set s.words r w; answer = Told a }

-- the board afterwards, whatever is told
abbrev pub went_to : State → ℕ → ℕ → Request → ℕ → State
went_to s i r q w = record { slots = set s.slots i q; words = set s.words r w }

pub mode_number_law : (k : Mode) → mode_of (mode_number k) ≡ k
mode_number_law Reader = refl
mode_number_law Writer = refl

abbrev parts : ℕ → ℕ → ℕ → ℕ → ℕ → ℕ → Request
parts r m p x s c = record { «record» = r; mode = m; phase = p; ticket = drawn_at x s; clearing = c }

same_parts : (r m p : ℕ) {x x' s s' c c' : ℕ} → x ≡ x' → s ≡ s' → c ≡ c' → parts r m p x s c ≡ parts r m p x' s' c'
same_parts r m p e f g = cc

asked_full : (q : Request) (p : Counters) → full_at p ≡ true → asked q p ≡ becomes (in_phase Owing q) tells.Full
unfolding asked
asked_full q p e = rw e refl

asked_turn : (q : Request) (p : Counters) → full_at p ≡ false → asked q p ≡ waited (ticketed q p) p
unfolding asked
asked_turn q p e = rw e refl

module _ (s : State) (i : ℕ) (here : i < SLOTS) where
  sent_accepted :
      (q : Request) (verb : Verb) (takes : ℕ → Taken) → in_use q ≡ true → is_nothing verb ≡ false →
      q.«record» < length s.words → q.«record» < 4096 →
      sent i q verb takes s ≡
      went s i q.«record» (takes (get_or s.words q.«record» 0)).request (left_by verb (get_or s.words q.«record» 0)) (takes (get_or s.words q.«record» 0)).answer
  unfolding sent refusal_of
  sent_accepted q verb takes u v a b = rw (u, v, lt-ltb q.«record» (length s.words) a, lt-ltb q.«record» 4096 b) refl

  sent_refused : (q : Request) (verb : Verb) (takes : ℕ → Taken) → in_use q ≡ true → is_nothing verb ≡ true → sent i q verb takes s ≡ refused 5 s
  unfolding sent refusal_of
  sent_refused q verb takes u v = rw (u, v) refl

  sent_free : (q : Request) (verb : Verb) (takes : ℕ → Taken) → in_use q ≡ false → sent i q verb takes s ≡ refused 4 s
  unfolding sent refusal_of
  sent_free q verb takes u = rw u refl

  step_of_law : (q : Request) → slot_at s i ≡ q → stepped i s ≡ sent i q (step_sends q) (step_takes q) s
  unfolding stepped
  step_of_law q e = rw (lt-leb SLOTS i here, e) refl

  release_of : (q : Request) → slot_at s i ≡ q → released i s ≡ sent i q (release_sends q) (release_takes q) s
  unfolding released
  release_of q e = rw (lt-leb SLOTS i here, e) refl

  -- refusals
  pub step_nobody : slot_at s i ≡ free_request → stepped i s ≡ refused 4 s
  step_nobody e = step_of_law free_request e ∙ sent_free free_request (step_sends free_request) (step_takes free_request) refl

  pub release_nobody : slot_at s i ≡ free_request → released i s ≡ refused 4 s
  release_nobody e = release_of free_request e ∙ sent_free free_request (release_sends free_request) (release_takes free_request) refl

  pub care_nobody : slot_at s i ≡ free_request → cared i s ≡ refused 4 s
  unfolding cared
  care_nobody e = rw (lt-leb SLOTS i here, e) refl

  pub step_holds : (t : Seat) (l : List Given) → slot_at s i ≡ request_for Holds t l → stepped i s ≡ refused 5 s
  unfolding step_sends
  step_holds t l e = step_of_law (request_for Holds t l) e ∙ sent_refused (request_for Holds t l) (step_sends (request_for Holds t l)) (step_takes (request_for Holds t l)) refl refl

  release_unheld : (q : Request) → slot_at s i ≡ q → in_use q ≡ true → is_nothing (release_sends q) ≡ true → released i s ≡ refused 5 s
  release_unheld q e u v = release_of q e ∙ sent_refused q (release_sends q) (release_takes q) u v

  pub release_asks : (t : Seat) (l : List Given) → slot_at s i ≡ request_for Asks t l → released i s ≡ refused 5 s
  unfolding release_sends
  release_asks t l e = release_unheld (request_for Asks t l) e refl refl

  pub release_waits : (t : Seat) (l : List Given) → slot_at s i ≡ request_for Waits t l → released i s ≡ refused 5 s
  unfolding release_sends
  release_waits t l e = release_unheld (request_for Waits t l) e refl refl

  pub release_owes : (t : Seat) (l : List Given) → slot_at s i ≡ request_for Owes t l → released i s ≡ refused 5 s
  unfolding release_sends
  release_owes t l e = release_unheld (request_for Owes t l) e refl refl

  pub release_clears : (t : Seat) (l : List Given) → slot_at s i ≡ request_for Clears t l → released i s ≡ refused 5 s
  unfolding release_sends
  release_clears t l e = release_unheld (request_for Clears t l) e refl refl

  -- a seat on a record that is lent
  module _ (t : Seat) (l : List Given) (lent : t.about < length s.words) (small : t.about < 4096) where
    pub step_owes : slot_at s i ≡ request_for Owes t l → stepped i s ≡ went s i t.about free_request (add_of (get_or s.words t.about 0) (back_of (ticket_counter t.kind))) tells.Withdrawn
    unfolding step_sends step_takes
    step_owes e =
        step_of_law (request_for Owes t l) e ∙
        sent_accepted (request_for Owes t l) (step_sends (request_for Owes t l)) (step_takes (request_for Owes t l)) refl refl lent small ∙
        rw (mode_number_law t.kind) refl

    -- a care before the slot has asked
    pub care_asks :
        slot_at s i ≡ request_for Asks t l →
        cared i s ≡ record { slots = set s.slots i free_request; words = s.words; answer = Told tells.FreedUnasked }
    care_asks e =
        care_frees i s here (ap phase_of_law e) (rw (e, lt-ltb t.about (length s.words) lent, lt-ltb t.about 4096 small) refl)

    -- a slot that clears
    pub step_clears :
        slot_at s i ≡ request_for Clears t l → clearing_for l t.place ≡ word_at_rest l →
        stepped i s ≡
        (when eqb (get_or s.words t.about 0) (word_at_rest l)
        then went s i t.about free_request 0 tells.Cleared
        else went s i t.about (with_ticket Clearing t l) (get_or s.words t.about 0) tells.NotYetClear)
    unfolding step_sends step_takes
    step_clears e c =
        step_of_law (request_for Clears t l) e ∙
        sent_accepted (request_for Clears t l) (step_sends (request_for Clears t l)) (step_takes (request_for Clears t l)) refl refl lent small ∙
        rw c (by (eqb (get_or s.words t.about 0) (word_at_rest l)) refl)
      where
        kept : Request
        kept = record { «record» = t.about; mode = mode_number t.kind; phase = phase_number Clearing; ticket = ticket_of l t.place; clearing = word_at_rest l }

        by :
            (x : Bool) → eqb (get_or s.words t.about 0) (word_at_rest l) ≡ x →
            went s i t.about (step_takes kept (get_or s.words t.about 0)).request (swap_of (get_or s.words t.about 0) (word_at_rest l) 0) (step_takes kept (get_or s.words t.about 0)).answer ≡
            (when eqb (get_or s.words t.about 0) (word_at_rest l)
            then went s i t.about free_request 0 tells.Cleared
            else went s i t.about kept (get_or s.words t.about 0) tells.NotYetClear)
        by true q = rw q refl
        by false q = rw q refl

    -- a slot that holds lets go
    pub release_holds :
        slot_at s i ≡ request_for Holds t l →
        released i s ≡
        (when eqb (clearing_for l t.place) 0
        then went s i t.about free_request (add_of (get_or s.words t.about 0) (step_of (release_counter t.kind))) tells.Released
        else went s i t.about (with_ticket Clearing t l) (add_of (get_or s.words t.about 0) (step_of (release_counter t.kind))) tells.ClearingDue)
    unfolding release_sends release_takes
    release_holds e =
        release_of (request_for Holds t l) e ∙
        sent_accepted (request_for Holds t l) (release_sends (request_for Holds t l)) (release_takes (request_for Holds t l)) refl refl lent small ∙
        rw (mode_number_law t.kind) (by (eqb (clearing_for l t.place) 0) refl)
      where
        by :
            (x : Bool) → eqb (clearing_for l t.place) 0 ≡ x →
            went s i t.about (release_takes (request_for Holds t l) (get_or s.words t.about 0)).request (add_of (get_or s.words t.about 0) (step_of (release_counter t.kind))) (release_takes (request_for Holds t l) (get_or s.words t.about 0)).answer ≡
            (when eqb (clearing_for l t.place) 0
            then went s i t.about free_request (add_of (get_or s.words t.about 0) (step_of (release_counter t.kind))) tells.Released
            else went s i t.about (with_ticket Clearing t l) (add_of (get_or s.words t.about 0) (step_of (release_counter t.kind))) tells.ClearingDue)
        by true q = rw q refl
        by false q = rw q refl

    -- the record's word agrees with its tickets
    module _ {o : Mode → ℕ} (a : Agrees l o (get_or s.words t.about 0)) where
      -- what a request comes to by the turn test
      turned_at :
          (q : Request) (k : Mode) (n v : ℕ) → turn_of k q.ticket (split_of (get_or s.words t.about 0)) ≡ behind n →
          went s i t.about (turned (turn_of k q.ticket (split_of (get_or s.words t.about 0))) q).request v (turned (turn_of k q.ticket (split_of (get_or s.words t.about 0))) q).answer ≡
          (when eqb n 0 then went s i t.about (in_phase Held q) v tells.Granted else went s i t.about (in_phase Waiting q) v (tells.Waiting n))
      turned_at q k n v e = rw e (by (eqb n 0) refl)
        where
          by :
              (x : Bool) → eqb n 0 ≡ x →
              went s i t.about (turned (behind n) q).request v (turned (behind n) q).answer ≡
              (when eqb n 0 then went s i t.about (in_phase Held q) v tells.Granted else went s i t.about (in_phase Waiting q) v (tells.Waiting n))
          by true z = rw z refl
          by false z = rw z refl

      -- a slot that waits
      pub step_waits :
          slot_at s i ≡ request_for Waits t l → Owns t l i →
          stepped i s ≡
          (when eqb (ahead_now t.kind l t.place) 0
          then went s i t.about (with_ticket Held t l) (get_or s.words t.about 0) tells.Granted
          else went s i t.about (with_ticket Waiting t l) (get_or s.words t.about 0) (tells.Waiting (ahead_now t.kind l t.place)))
      unfolding step_sends step_takes
      step_waits e own =
          step_of_law (request_for Waits t l) e ∙
          sent_accepted (request_for Waits t l) (step_sends (request_for Waits t l)) (step_takes (request_for Waits t l)) refl refl lent small ∙
          rw (mode_number_law t.kind) (turned_at (with_ticket Waiting t l) t.kind (ahead_now t.kind l t.place) (get_or s.words t.about 0) law)
        where
          law : turn_of t.kind (ticket_of l t.place) (split_of (get_or s.words t.about 0)) ≡ behind (ahead_now t.kind l t.place)
          law = turn_law t.kind l t.place (split_of (get_or s.words t.about 0)) a.order own.inside own.open_now own.kind (ap (λ (c : Counters). c.nx.0) a.word) (ap (λ (c : Counters). c.ns.0) a.word)

      -- a slot that asks
      asks_sent :
          slot_at s i ≡ request_for Asks t l →
          stepped i s ≡
          went s i t.about (asked (request_for Asks t l) (split_of (get_or s.words t.about 0))).request (add_of (get_or s.words t.about 0) (step_of (ticket_counter t.kind)))
          (asked (request_for Asks t l) (split_of (get_or s.words t.about 0))).answer
      unfolding step_sends step_takes
      asks_sent e =
          step_of_law (request_for Asks t l) e ∙
          sent_accepted (request_for Asks t l) (step_sends (request_for Asks t l)) (step_takes (request_for Asks t l)) refl refl lent small ∙
          rw (mode_number_law t.kind) refl

      pub step_asks_full :
          slot_at s i ≡ request_for Asks t l → topped l ≡ true →
          stepped i s ≡ went s i t.about (request_for Owes t l) (add_of (get_or s.words t.about 0) (step_of (ticket_counter t.kind))) tells.Full
      step_asks_full e top =
          asks_sent e ∙
          ap (λ (x : Taken). went s i t.about x.request (add_of (get_or s.words t.about 0) (step_of (ticket_counter t.kind))) x.answer)
          (asked_full (request_for Asks t l) (split_of (get_or s.words t.about 0)) (full_topped a ∙ top))

      -- the ticket that it draws, and its seat
      module _ (low : topped l ≡ false) where
        abbrev pub fresh_ticket : Given
        fresh_ticket = record { kind = t.kind; slot = i; released = false }

        abbrev pub longer : List Given
        longer = l ++ fresh_ticket ∷ []

        abbrev pub at_last : Stage → Seat
        at_last g = record { stage = g; about = t.about; kind = t.kind; place = length l }

        ticketed_last : ticketed (request_for Asks t l) (split_of (get_or s.words t.about 0)) ≡ with_ticket Asking (at_last Asks) longer
        ticketed_last =
            let c = a.word in
            let seam = take-append_seam l (fresh_ticket ∷ []) in
            let mx = ap (λ (v : Counters). v.mx.0) c in
            let ms = ap (λ (v : Counters). v.ms.0) c in
            let x : (split_of (get_or s.words t.about 0)).mx.0 ≡ given_of Writer l = omega (arith, a.owing low Writer) in
            let y : (split_of (get_or s.words t.about 0)).ms.0 ≡ given_of Reader l = omega (arith, a.owing low Reader) in
            let z = clearing_drawn l fresh_ticket low (split_of (get_or s.words t.about 0)) x y in
            same_parts t.about (mode_number t.kind) (phase_number Asking) (x ∙ ap (given_of Writer) (sym seam)) (y ∙ ap (given_of Reader) (sym seam))
            (ap (λ (k : Mode). clearing_word_of k (split_of (get_or s.words t.about 0))) (mode_number_law t.kind) ∙ z)

        law : turn_of t.kind (ticket_of longer (length l)) (split_of (get_or s.words t.about 0)) ≡ behind (ahead_now t.kind longer (length l))
        law =
            let mine = get_or-append_seam l fresh_ticket [] past_the_last in
            turn_law t.kind longer (length l) (split_of (get_or s.words t.about 0)) (append_ordered l fresh_ticket refl a.order)
            (omega (arith, length-append l (fresh_ticket ∷ []))) (ap (λ (g : Given). g.released) mine) (ap (λ (g : Given). g.kind) mine)
            (ap (λ (c : Counters). c.nx.0) a.word ∙ sym (released_more a fresh_ticket refl low Writer))
            (ap (λ (c : Counters). c.ns.0) a.word ∙ sym (released_more a fresh_ticket refl low Reader))

        pub step_asks_turn :
            slot_at s i ≡ request_for Asks t l →
            stepped i s ≡
            (when eqb (ahead_now t.kind longer (length l)) 0
            then went s i t.about (with_ticket Held (at_last Holds) longer) (add_of (get_or s.words t.about 0) (step_of (ticket_counter t.kind))) tells.Granted
            else went s i t.about (with_ticket Waiting (at_last Waits) longer) (add_of (get_or s.words t.about 0) (step_of (ticket_counter t.kind))) (tells.Waiting (ahead_now t.kind longer (length l))))
        step_asks_turn e =
            let w = get_or s.words t.about 0 in
            asks_sent e ∙
            ap (λ (x : Taken). went s i t.about x.request (add_of w (step_of (ticket_counter t.kind))) x.answer)
            (asked_turn (request_for Asks t l) (split_of w) (full_topped a ∙ low) ∙ ap (λ (q : Request). waited q (split_of w)) ticketed_last) ∙
            rw (mode_number_law t.kind) (turned_at (with_ticket Asking (at_last Asks) longer) t.kind (ahead_now t.kind longer (length l)) (add_of w (step_of (ticket_counter t.kind))) law)
