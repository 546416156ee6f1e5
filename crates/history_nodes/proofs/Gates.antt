-- What the fences do, on any board that is tied to its ledger: where somebody sits the slot is in use, so the gate asks for the fence alone; where
-- nobody sits it stops nothing, and neither does it at an open whose record or mode is none, which is refused inside.
-- Assumes nothing.
use Prim.Native.Nat.{ℕ, ◌<◌, ◌≤◌}
use mathlib.Core.Path.{◌≡◌, refl, ap, sym, subst, ◌∙◌}
use mathlib.Core.Bool.{Bool, true, false, not, ◌&&◌}
use mathlib.Core.Logic.{◌↔◌, inl, inr, ⊎_elim}
use mathlib.Core.List.{List}
use native.Mathlib.Omega.{arith}
use borrow.Author.Tests.{ltb-true, ltb-false, lt-ltb}
use lib.Dec.{ltb}
use lib.ListN.{length}
use Rattle.common.specs.Choice.{when◌then◌else◌}
use Rattle.agent_request.specs.Request.{in_use}
use Rattle.agent_request.specs.declared.Request.{Request}
use Rattle.board_slots.specs.Slots.{SLOTS, lowest_free}
use Rattle.board_call.specs.declared.Call.TheVariants.{Open, Step, Release}
use Rattle.board_call.specs.declared.AnyCall.{AnyCall}
use Rattle.board_call.specs.declared.AnyCall.TheVariants.{Base, OpenAs, Care}
use Rattle.board_rules.specs.Records.{RECORDS, is_record}
use Rattle.board_rules.specs.declared.Answer.{Answer}
use Rattle.board_rules.specs.declared.Answer.TheVariants.{Refused}
use Rattle.board_rules.specs.Board.{State, Done, slot_at, refused, opened}
use Rattle.board_rules.specs.Care.{cared}
use Rattle.board_nodes.specs.Site.{Site, SiteDone, inner, fenced_at, shut_at, refused_at, around, used_shut, played_at}
use Rattle.board_nodes.specs.Site.{opened_by, stepped_at, released_at, cared_at, fenced_by, shown_at}
use Rattle.history_promises.specs.Tickets.{Given}
use Rattle.history_promises.specs.Ledger.{Stage, Seat, Ledger, mine}
use Rattle.history_promises.specs.Ledger.Stage.{Nobody, Asks, Waits, Holds, Owes, Clears}
use Rattle.history_promises.specs.Promises.{CareTells}
use Rattle.history_promises.proofs.Counts.{clash}
use Rattle.history_promises.proofs.Tied.{request_for, is_nobody, Tied, keeps_at}
use Rattle.history_promises.proofs.Seats.{in_board, care_told_law}
use Rattle.history_nodes.specs.Promises.{plain, AsPlain, FencedSlotIsCaredFor, LivingSlotIsLeftAlone, FreeSlotHasNoFence}
use Rattle.history_nodes.specs.Promises.{Gates}

-- the answer behind a gate that stops, and behind one that lets through
shut : (x : Bool) (d e : SiteDone) → x ≡ true → (when x then d else e).answer ≡ d.answer
shut true d e h = refl
shut false d e h = clash false h refl

open_way : (x : Bool) (d e : SiteDone) → x ≡ false → (when x then d else e).answer ≡ e.answer
open_way true d e h = clash true refl h
open_way false d e h = refl

-- a seat in which somebody sits is one that is in use
somebody : (g : Stage) → (g ≡ Nobody → ⊥) → is_nobody g ≡ false
somebody Nobody d = absurd (d refl)
somebody Asks d = refl
somebody Waits d = refl
somebody Holds d = refl
somebody Owes d = refl
somebody Clears d = refl

used_at : (g : Stage) (u : Seat) (l : List Given) → is_nobody g ≡ false → (q : Request) → q ≡ request_for g u l → in_use q ≡ true
used_at Nobody u l f q e = clash true refl f
used_at Asks u l f q e = ap in_use e
used_at Waits u l f q e = ap in_use e
used_at Holds u l f q e = ap in_use e
used_at Owes u l f q e = ap in_use e
used_at Clears u l f q e = ap in_use e

module _ {n : ℕ} {s : State} {L : Ledger} (T : Tied n s L) (i : ℕ) where
  pub in_use_law : ((L.seats i).stage ≡ Nobody → ⊥) → in_use (slot_at s i) ≡ true
  in_use_law d =
      let f = somebody (L.seats i).stage d in
      used_at (L.seats i).stage (L.seats i) (mine L i) f (slot_at s i) (keeps_at T i (in_board T i (L.seats i).stage refl f) (L.seats i).stage refl)

  -- there the gate asks for the fence alone
  taken : ((L.seats i).stage ≡ Nobody → ⊥) → (x : Bool) → used_shut i (slot_at s i) x ≡ x
  taken d x = rw (lt-ltb i SLOTS (in_board T i (L.seats i).stage refl (somebody (L.seats i).stage d)), in_use_law d) refl

  -- and where nobody sits it stops nothing
  untaken : (L.seats i).stage ≡ Nobody → (x : Bool) → used_shut i (slot_at s i) x ≡ false
  untaken e x = by (ltb i SLOTS) refl
    where
      by : (y : Bool) → ltb i SLOTS ≡ y → used_shut i (slot_at s i) x ≡ false
      by false h = rw h refl
      by true h = rw (h, ap in_use (keeps_at T i (ltb-true i SLOTS h) Nobody e)) refl

abbrev says : Site → AnyCall → Answer
says t o = (played_at o t).answer

module _ {n : ℕ} (t : Site) {L : Ledger} (T : Tied n (inner t) L) where
  -- a step, a release and a care whose gate stops, and does not
  module _ (i : ℕ) where
    stopped : used_shut i (slot_at (inner t) i) (shut_at t i) ≡ true → (says t (Base (Step i)) ≡ Refused 15) × (says t (Base (Release i)) ≡ Refused 15)
    unfolding stepped_at released_at
    stopped h = (shut _ (refused_at 15 t) _ h, shut _ (refused_at 15 t) _ h)

    let_through : used_shut i (slot_at (inner t) i) (shut_at t i) ≡ false → AsPlain t (says t) i
    unfolding stepped_at released_at
    let_through h = (open_way _ (refused_at 15 t) _ h, open_way _ (refused_at 15 t) _ h)

    care_stopped : used_shut i (slot_at (inner t) i) (not (shut_at t i)) ≡ true → says t (Care i) ≡ Refused 16
    unfolding cared_at
    care_stopped h = shut _ (refused_at 16 t) _ h

    care_let_through : used_shut i (slot_at (inner t) i) (not (shut_at t i)) ≡ false → says t (Care i) ≡ (cared i (inner t)).answer
    unfolding cared_at
    care_let_through h = open_way _ (refused_at 16 t) _ h

  fenced_slot : FencedSlotIsCaredFor L t (says t)
  fenced_slot i d e =
      let s = stopped i (taken T i d (shut_at t i) ∙ e) in
      let c = care_let_through i (taken T i d (not (shut_at t i)) ∙ ap not e) in
      (s.0, s.1, subst (λ (a : Answer). CareTells (L.seats i).stage a (plain t (Step i)) (plain t (Release i))) (sym c) (care_told_law T i))

  living_slot : LivingSlotIsLeftAlone L t (says t)
  living_slot i d e = (let_through i (taken T i d (shut_at t i) ∙ e), care_stopped i (taken T i d (not (shut_at t i)) ∙ ap not e))

  free_slot : FreeSlotHasNoFence L t (says t)
  free_slot i e =
      let c = care_let_through i (untaken T i e (not (shut_at t i))) in
      let told = subst (λ (g : Stage). CareTells g (cared i (inner t)).answer (plain t (Step i)) (plain t (Release i))) e (care_told_law T i) in
      (let_through i (untaken T i e (shut_at t i)), ⊎_elim (λ q. inl (c ∙ q)) (λ q. inr (c ∙ q)) told)

  -- opens: the record is one of the n, and the mode is 0 or 1
  module _ (r m k : ℕ) where
    living_node : fenced_at t k ≡ false → says t (OpenAs r m k) ≡ plain t (Open r m)
    unfolding opened_by
    living_node e = open_way _ (refused_at 14 t) _ (gate (is_record r t.words) (not (ltb 1 m)) (fenced_at t k) e)
      where
        gate : (x y z : Bool) → z ≡ false → (x && (y && z)) ≡ false
        gate true true z h = h
        gate true false z h = refl
        gate false y z h = refl

    record_is : r < n → is_record r t.words ≡ true
    record_is h = rw (lt-ltb r (length t.words) (omega (arith, T.words_long)), lt-ltb r RECORDS (omega (arith, T.most))) refl

    -- 2, 3 and 14, in this order
    by_tests :
        (x y z : Bool) (i : ℕ) (d : Done) → z ≡ true →
        (when x && (not y && z) then refused_at 14 t else around t i k (when not x then refused 2 (inner t) else when y then refused 3 (inner t) else d)).answer ≡
        (when not x then Refused 2 else when y then Refused 3 else Refused 14)
    by_tests false y z i d e = refl
    by_tests true true z i d e = refl
    by_tests true false z i d e = rw e refl

    fenced_told : fenced_at t k ≡ true → says t (OpenAs r m k) ≡ (when not (is_record r t.words) then Refused 2 else when ltb 1 m then Refused 3 else Refused 14)
    unfolding opened_by opened
    fenced_told e = by_tests (is_record r t.words) (ltb 1 m) (fenced_at t k) (lowest_free t.slots) _ e

    is_record_law : is_record r t.words ≡ true → r < n
    is_record_law e = omega (arith, ltb-true r (length t.words) (and_first (ltb r (length t.words)) (ltb r RECORDS) e), T.words_long)
      where
        and_first : (x y : Bool) → (x && y) ≡ true → x ≡ true
        and_first true y e = refl
        and_first false y e = e

    fenced_node : fenced_at t k ≡ true → ((x : ℕ) × (says t (OpenAs r m k) ≡ Refused x)) × ((says t (OpenAs r m k) ≡ Refused 14) ↔ ((r < n) × (m ≤ 1)))
    fenced_node e = by (is_record r t.words) (ltb 1 m) refl refl (fenced_told e)
      where
        number : {x y : ℕ} → Refused x ≡ Refused y → x ≡ y
        number h = cc

        by :
            (x y : Bool) → is_record r t.words ≡ x → ltb 1 m ≡ y →
            says t (OpenAs r m k) ≡ (when not x then Refused 2 else when y then Refused 3 else Refused 14) →
            ((x : ℕ) × (says t (OpenAs r m k) ≡ Refused x)) × ((says t (OpenAs r m k) ≡ Refused 14) ↔ ((r < n) × (m ≤ 1)))
        by true false p q told = ((14, told), ((λ z. (is_record_law p, ltb-false 1 m q)), (λ z. told)))
        by true true p q told =
            ((3, told), ((λ z. absurd (omega (arith, number (sym told ∙ z)))), (λ z. absurd (omega (arith, z.1, ltb-true 1 m q)))))
        by false y p q told =
            ((2, told), ((λ z. absurd (omega (arith, number (sym told ∙ z)))), (λ z. clash (is_record r t.words) (record_is z.0) p)))

  pub gates : Gates n L t (says t)
  unfolding fenced_by shown_at
  gates =
      record {
        fenced_slot = fenced_slot;
        living_slot = living_slot;
        free_slot = free_slot;
        living_node = living_node;
        fenced_node = fenced_node;
        plain_open = λ r m. refl;
        show = λ r. refl;
        fence = λ k. refl;
      }
