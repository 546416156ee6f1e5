-- Demand 3 over histories of all seven calls. The history inside is tied to the ledger, so the demand holds inside, and the gates say which answers
-- come from there. Only a step inside is granted, told to wait, full, cleared or passed, and only a step or a care comes from one: so each
-- sentence of every call is that of the step inside.
-- Assumes nothing.
use Prim.Native.Nat.{ℕ, zero, suc, ◌≤◌}
use mathlib.Core.Path.{◌≡◌, refl, ap, sym, subst, ◌∙◌}
use mathlib.Core.Bool.{Bool, true, false, not, ◌||◌}
use mathlib.Core.Logic.{◌⊎◌, inl, inr, ⊎_elim}
use mathlib.Core.List.{List, [], ◌∷◌, ◌++◌}
use native.Mathlib.Omega.{arith}
use borrow.Author.Tests.{eqb-false, ltb-false}
use lib.Dec.{eqb, ltb}
use lib.ListN.{length, length-set, length-replicate}
use Rattle.std.proofs.lemmas.Bool.{cases_Bool}
use Rattle.common.specs.Choice.{when◌then◌else◌}
use Rattle.common.proofs.Choices.{either_by}
use Rattle.agent_rules.specs.Answers.{numbers_of}
use Rattle.agent_rules.specs.declared.Answer.{Answer as Tells}
use Rattle.agent_rules.specs.declared.Answer.TheVariants as tells
use Rattle.board_slots.specs.Slots.{SLOTS, lowest_free}
use Rattle.board_call.specs.declared.Call.TheVariants.{Open, Step, Release, Show}
use Rattle.board_call.specs.declared.AnyCall.{AnyCall}
use Rattle.board_call.specs.declared.AnyCall.TheVariants.{Base, OpenAs, Fence, Care}
use Rattle.board_rules.specs.Records.{RECORDS, is_record}
use Rattle.board_rules.specs.declared.Answer.{Answer}
use Rattle.board_rules.specs.declared.Answer.TheVariants.{Refused, Begun, Opened, Told, Shown, Fenced}
use Rattle.board_rules.specs.Board.{State, Done, slot_at, opened, stepped, released, shown, shown_of}
use Rattle.board_rules.specs.Care.{cared}
use Rattle.board_nodes.specs.Site.{Site, SiteDone, site_of, inner, fenced_at, shut_at, played_at, begun_at, NODES}
use Rattle.board_nodes.specs.Site.{opened_by, stepped_at, released_at, cared_at, fenced_by, shown_at, refused_at, around, opens_shut, used_shut}
use Rattle.history_promises.specs.Ledger.{Stage, Ledger, blank, free, waits_for, noted_call, seated}
use Rattle.history_promises.specs.Ledger.Stage.{Nobody, Asks, Waits, Holds, Owes, Clears}
use Rattle.history_promises.specs.Promises.{StepTells, ReleaseTells, CareTells, Demand}
use Rattle.history_promises.proofs.Counts.{clash}
use Rattle.history_promises.proofs.Tied.{Tied}
use Rattle.history_promises.proofs.Moves.{put_same}
use Rattle.history_promises.proofs.Kept.{tied}
use Rattle.history_promises.proofs.Seats.{CareIs, care_of_law}
use Rattle.history_promises.proofs.Demand.{demand, told_few}
use Rattle.history_nodes.specs.History.{AnyMove, fresh_site, made_at, after_at, events_at, noted_any, noted_at, read_off_at, ledger_at, site_at, answer_at}
use Rattle.history_nodes.specs.History.AnyMove.{Begin, Do}
use Rattle.history_nodes.specs.Promises.{plain, Gates, TurnOf, NotRefused, AnyDrawnIsGrantedExactly, AnyWaitingIsGrantedExactly}
use Rattle.history_nodes.specs.Promises.{GrantedOnly, NoneIsPassed, AnyFullExactly, FullOnly, AnyClearedOnly, AnyToldHowMany, SiteIsWhole}
use Rattle.history_nodes.specs.Promises.{AnyDemand, AnyDemand3, BegunIsFreshSite, UnaskedWasNeverDrawn}
use Rattle.history_nodes.proofs.Inward.{inward, board_inside, ledger_inside}
use Rattle.history_nodes.proofs.Gates.{gates}

-- which answer it is, as a test
abbrev is_told : (Tells → Bool) → Answer → Bool
is_told f (Told a) = f a
is_told f (Refused n) = false
is_told f Begun = false
is_told f (Opened k) = false
is_told f (Shown w) = false
is_told f Fenced = false

abbrev outcome_is : ℕ → Tells → Bool
outcome_is o a = eqb (numbers_of a).outcome o

nobody_or_not : (g : Stage) → (g ≡ Nobody) ⊎ (g ≡ Nobody → ⊥)
nobody_or_not Nobody = inl refl
nobody_or_not Asks = inr (λ e. let z : ◌≡◌ {A = ℕ} 0 1 = cc in absurd (omega arith))
nobody_or_not Waits = inr (λ e. let z : ◌≡◌ {A = ℕ} 0 1 = cc in absurd (omega arith))
nobody_or_not Holds = inr (λ e. let z : ◌≡◌ {A = ℕ} 0 1 = cc in absurd (omega arith))
nobody_or_not Owes = inr (λ e. let z : ◌≡◌ {A = ℕ} 0 1 = cc in absurd (omega arith))
nobody_or_not Clears = inr (λ e. let z : ◌≡◌ {A = ℕ} 0 1 = cc in absurd (omega arith))

-- an answer that a test does not find
gone : {X : Type 0} (f : Tells → Bool) (a b : Answer) → is_told f a ≡ true → a ≡ b → is_told f b ≡ false → X
gone f a b h e q = clash (is_told f b) (sym (ap (is_told f) e) ∙ h) q

abbrev is_asking : Stage → Bool
is_asking Nobody = false
is_asking Asks = true
is_asking Waits = false
is_asking Holds = false
is_asking Owes = false
is_asking Clears = false

-- the call takes the slot's turn, and is answered as the step inside
abbrev Turns : Ledger → ℕ → AnyCall → Type 0
Turns L i o = (o ≡ Base (Step i)) ⊎ ((o ≡ Care i) × ((L.seats i).stage ≡ Asks → ⊥))

abbrev Turned : Ledger → Site → (AnyCall → Answer) → AnyCall → Type 0
Turned L t says o = (i : ℕ) × Turns L i o × (says o ≡ plain t (Step i))

turn_of_law : (L : Ledger) (i : ℕ) (o : AnyCall) → Turns L i o → TurnOf i o
turn_of_law L i o w = ⊎_elim (λ e. inl e) (λ e. inr e.0) w

module _ {n : ℕ} {L : Ledger} (t : Site) (says : AnyCall → Answer) (D : Demand n L (inner t) (plain t)) (G : Gates n L t says) where
  -- a step and a release are stopped or answered as inside, and a care is stopped or told what it makes
  step_way : (i : ℕ) → (says (Base (Step i)) ≡ Refused 15) ⊎ (says (Base (Step i)) ≡ plain t (Step i))
  step_way i =
      ⊎_elim (λ e. inr (G.free_slot i e).0.0)
      (λ d. ⊎_elim (λ s. inl (G.fenced_slot i d s).0) (λ s. inr (G.living_slot i d s).0.0) (cases_Bool (shut_at t i)))
      (nobody_or_not (L.seats i).stage)

  release_way : (i : ℕ) → (says (Base (Release i)) ≡ Refused 15) ⊎ (says (Base (Release i)) ≡ plain t (Release i))
  release_way i =
      ⊎_elim (λ e. inr (G.free_slot i e).0.1)
      (λ d. ⊎_elim (λ s. inl (G.fenced_slot i d s).1) (λ s. inr (G.living_slot i d s).0.1) (cases_Bool (shut_at t i)))
      (nobody_or_not (L.seats i).stage)

  care_way : (i : ℕ) → ((x : ℕ) × (says (Care i) ≡ Refused x)) ⊎ CareTells (L.seats i).stage (says (Care i)) (plain t (Step i)) (plain t (Release i))
  care_way i =
      ⊎_elim (λ e. inl (⊎_elim (λ q. (1, q)) (λ q. (4, q)) (G.free_slot i e).1))
      (λ d. ⊎_elim (λ s. inr (G.fenced_slot i d s).2) (λ s. inl (16, (G.living_slot i d s).1)) (cases_Bool (shut_at t i)))
      (nobody_or_not (L.seats i).stage)

  -- one that is not refused
  step_plain : (i : ℕ) → NotRefused (says (Base (Step i))) → says (Base (Step i)) ≡ plain t (Step i)
  step_plain i accepted = ⊎_elim (λ e. absurd (accepted 15 e)) (λ e. e) (step_way i)

  care_plain : (i : ℕ) → (L.seats i).stage ≡ Waits → NotRefused (says (Care i)) → says (Care i) ≡ plain t (Step i)
  care_plain i e accepted =
      ⊎_elim
      (λ q. absurd (accepted q.0 q.1))
      (λ c. subst (λ (g : Stage). CareTells g (says (Care i)) (plain t (Step i)) (plain t (Release i))) e c)
      (care_way i)

  turn_plain : (i : ℕ) (o : AnyCall) → TurnOf i o → (L.seats i).stage ≡ Waits → NotRefused (says o) → says o ≡ plain t (Step i)
  turn_plain i o w e accepted =
      ⊎_elim
      (λ p. subst (λ (x : AnyCall). NotRefused (says x) → says x ≡ plain t (Step i)) (sym p) (step_plain i) accepted)
      (λ p. subst (λ (x : AnyCall). NotRefused (says x) → says x ≡ plain t (Step i)) (sym p) (care_plain i e) accepted)
      w

  -- what no release tells, no open, no show and no fence, and no care of a slot that asks, only a step inside tells
  module _ (f : Tells → Bool) (let_go : f tells.Released ≡ false) (due : f tells.ClearingDue ≡ false) (unasked : f tells.FreedUnasked ≡ false) where
    release_not : (i : ℕ) → is_told f (plain t (Release i)) ≡ false
    release_not i = by (L.seats i).stage (D.told_by_stage i).1
      where
        by : (g : Stage) → ReleaseTells g (plain t (Release i)) → is_told f (plain t (Release i)) ≡ false
        by Nobody r = ⊎_elim (λ q. ap (is_told f) q) (λ q. ap (is_told f) q) r
        by Asks r = ap (is_told f) r
        by Waits r = ap (is_told f) r
        by Holds r = ⊎_elim (λ q. ap (is_told f) q ∙ let_go) (λ q. ap (is_told f) q ∙ due) r
        by Owes r = ap (is_told f) r
        by Clears r = ap (is_told f) r

    open_not : (r m : ℕ) → is_told f (plain t (Open r m)) ≡ false
    open_not r m = ⊎_elim (λ q. ap (is_told f) q.1) (λ q. ap (is_told f) q.1) (D.opens_where_nobody_sits r m)

    show_not : (r : ℕ) → is_told f (plain t (Show r)) ≡ false
    unfolding shown shown_of
    show_not r = either_by (λ (a : Answer). is_told f a ≡ false) (is_record r t.words) (λ e. refl) (λ e. refl)

    open_by_not : (r m k : ℕ) → is_told f (says (OpenAs r m k)) ≡ false
    open_by_not r m k =
        ⊎_elim
        (λ e. ap (is_told f) (G.fenced_node r m k e).0.1)
        (λ e. ap (is_told f) (G.living_node r m k e) ∙ open_not r m)
        (cases_Bool (fenced_at t k))

    turn : (o : AnyCall) → is_told f (says o) ≡ true → Turned L t says o
    turn (Base (Open r m)) h = gone f _ _ h (G.plain_open r m) (open_by_not r m 0)
    turn (Base (Step i)) h = ⊎_elim (λ e. gone f _ _ h e refl) (λ e. (i, inl refl, e)) (step_way i)
    turn (Base (Release i)) h = ⊎_elim (λ e. gone f _ _ h e refl) (λ e. gone f _ _ h e (release_not i)) (release_way i)
    turn (Base (Show r)) h = gone f _ _ h (G.show r) (show_not r)
    turn (OpenAs r m k) h = clash (is_told f (says (OpenAs r m k))) h (open_by_not r m k)
    turn (Fence k) h = gone f _ _ h (G.fence k) refl
    turn (Care i) h = ⊎_elim (λ q. gone f _ _ h q.1 refl) (λ c. by (L.seats i).stage refl c) (care_way i)
      where
        busy : (g : Stage) → (L.seats i).stage ≡ g → is_asking g ≡ false → (L.seats i).stage ≡ Asks → ⊥
        busy g e a q = clash (is_asking g) (sym (ap is_asking e) ∙ ap is_asking q) a

        by : (g : Stage) → (L.seats i).stage ≡ g → CareTells g (says (Care i)) (plain t (Step i)) (plain t (Release i)) → Turned L t says (Care i)
        by Nobody e c = ⊎_elim (λ q. gone f _ _ h q refl) (λ q. gone f _ _ h q refl) c
        by Asks e c = gone f _ _ h c unasked
        by Waits e c = (i, inr (refl, busy Waits e refl), c)
        by Holds e c = gone f _ _ h c (release_not i)
        by Owes e c = (i, inr (refl, busy Owes e refl), c)
        by Clears e c = (i, inr (refl, busy Clears e refl), c)

  drawn_granted : AnyDrawnIsGrantedExactly L says
  drawn_granted i e accepted not_full =
      let q = step_plain i accepted in
      let x = D.drawn_granted i e (λ z. not_full (q ∙ z)) in
      ((λ h. x.0 (sym q ∙ h)), (λ r. q ∙ x.1 r))

  waiting_granted : AnyWaitingIsGrantedExactly L says
  waiting_granted i o w e accepted =
      let q = turn_plain i o w e accepted in
      let x = D.waiting_granted i e in
      ((λ h. x.0 (sym q ∙ h)), (λ r. q ∙ x.1 r))

  full : AnyFullExactly L says
  full i e accepted =
      let q = step_plain i accepted in
      let x = D.full i e in
      ((λ h. x.0 (sym q ∙ h)), (λ r. q ∙ x.1 r))

  none_passed : NoneIsPassed says
  none_passed o e =
      let w = turn (outcome_is 11) refl refl refl o (ap (is_told (outcome_is 11)) e) in
      D.none_passed (Step w.0) (sym w.2 ∙ e)

  -- what the step inside is told, by its slot's stage
  told_at : (i : ℕ) (a : Answer) → plain t (Step i) ≡ a → (g : Stage) → (L.seats i).stage ≡ g → StepTells g a
  told_at i a q g e = subst (StepTells g) q (subst (λ (h : Stage). StepTells h (plain t (Step i))) e (D.told_by_stage i).0)

  granted_only : GrantedOnly L says
  granted_only o e = by (L.seats i).stage refl (told_at i (Told tells.Granted) (sym w.2 ∙ e))
    where
      w : Turned L t says o
      w = turn (outcome_is 2) refl refl refl o (ap (is_told (outcome_is 2)) e)

      i : ℕ
      i = w.0

      Result : Type 0
      Result = (i : ℕ) × (((o ≡ Base (Step i)) × ((L.seats i).stage ≡ Asks)) ⊎ (TurnOf i o × ((L.seats i).stage ≡ Waits)))

      other : {X : Type 0} (a : Answer) → Told tells.Granted ≡ a → is_told (outcome_is 2) a ≡ false → X
      other a q f = gone (outcome_is 2) (Told tells.Granted) a refl q f

      by : (g : Stage) → (L.seats i).stage ≡ g → ((h : Stage) → (L.seats i).stage ≡ h → StepTells h (Told tells.Granted)) → Result
      by Nobody g s = ⊎_elim (λ q. other _ q refl) (λ q. other _ q refl) (s Nobody g)
      by Asks g s = (i, inl (⊎_elim (λ q. q) (λ q. absurd (q.1 g)) w.1, g))
      by Waits g s = (i, inr (turn_of_law L i o w.1, g))
      by Holds g s = other _ (s Holds g) refl
      by Owes g s = other _ (s Owes g) refl
      by Clears g s = ⊎_elim (λ q. other _ q refl) (λ q. other _ q refl) (s Clears g)

  full_only : FullOnly L says
  full_only o e = by (L.seats i).stage refl (told_at i (Told tells.Full) (sym w.2 ∙ e))
    where
      w : Turned L t says o
      w = turn (outcome_is 4) refl refl refl o (ap (is_told (outcome_is 4)) e)

      i : ℕ
      i = w.0

      other : {X : Type 0} (a : Answer) → Told tells.Full ≡ a → is_told (outcome_is 4) a ≡ false → X
      other a q f = gone (outcome_is 4) (Told tells.Full) a refl q f

      by :
          (g : Stage) → (L.seats i).stage ≡ g → ((h : Stage) → (L.seats i).stage ≡ h → StepTells h (Told tells.Full)) →
          (i : ℕ) × (o ≡ Base (Step i)) × ((L.seats i).stage ≡ Asks)
      by Nobody g s = ⊎_elim (λ q. other _ q refl) (λ q. other _ q refl) (s Nobody g)
      by Asks g s = (i, ⊎_elim (λ q. q) (λ q. absurd (q.1 g)) w.1, g)
      by Waits g s = ⊎_elim (λ q. other _ q refl) (λ q. other _ q.1 refl) (s Waits g)
      by Holds g s = other _ (s Holds g) refl
      by Owes g s = other _ (s Owes g) refl
      by Clears g s = ⊎_elim (λ q. other _ q refl) (λ q. other _ q refl) (s Clears g)

  cleared_only : AnyClearedOnly L says
  cleared_only o e =
      let w = turn (outcome_is 8) refl refl refl o (ap (is_told (outcome_is 8)) e) in
      let c = D.cleared_only w.0 (sym w.2 ∙ e) in
      (w.0, turn_of_law L w.0 o w.1, c.0, c.1, c.2)

  told_how_many : AnyToldHowMany L says
  told_how_many o m e =
      let w = turn (outcome_is 3) refl refl refl o (ap (is_told (outcome_is 3)) e) in
      let d = D.told_how_many (Step w.0) m (sym w.2 ∙ e) in
      let inside = noted_call (Step w.0) (Told (tells.Waiting m)) L in
      let count : m ≡ waits_for inside w.0 = d.2 ∙ ap (waits_for inside) (sym (slot d.1)) in
      (w.0, turn_of_law L w.0 o w.1, count ∙ ap (λ (M : Ledger). waits_for M w.0) (sym (noted_same w.0 w.1)))
    where
      slot : {i j : ℕ} → Step i ≡ Step j → i ≡ j
      slot q = cc

      notes : AnyCall → Ledger
      notes x = noted_any x (Told (tells.Waiting m)) L

      noted_same : (i : ℕ) → Turns L i o → notes o ≡ noted_call (Step i) (Told (tells.Waiting m)) L
      noted_same i w = ⊎_elim (λ q. ap notes q) (λ q. ap notes q.0) w

  -- what is told to wait is told so by the step inside
  told_inside : (o : AnyCall) (m : ℕ) → says o ≡ Told (tells.Waiting m) → (i : ℕ) × (plain t (Step i) ≡ Told (tells.Waiting m))
  told_inside o m e =
      let w = turn (outcome_is 3) refl refl refl o (ap (is_told (outcome_is 3)) e) in
      (w.0, sym w.2 ∙ e)

  any_demand : SiteIsWhole t → AnyDemand n L t says
  any_demand whole =
      record {
        demand = D;
        gates = G;
        whole = whole;
        alone = D.alone;
        drawn_granted = drawn_granted;
        waiting_granted = waiting_granted;
        granted_only = granted_only;
        none_passed = none_passed;
        full = full;
        full_only = full_only;
        cleared_only = cleared_only;
        small = D.small;
        told_how_many = told_how_many;
      }

-- Any relation between a site and a ledger that every call keeps holds after every sequence of calls, if it holds before it.
pub always_at :
    (R : Site → Ledger → Type 0) →
    ((t : Site) (L : Ledger) (m : AnyMove) → R t L → R (site_of (made_at m t)) (noted_at m (made_at m t).answer L)) →
    (ms : List AnyMove) (t : Site) (L : Ledger) → R t L → R (after_at t ms) (read_off_at L (events_at t ms))
unfolding after_at events_at read_off_at
always_at R step [] t L r = r
always_at R step (m ∷ ms) t L r = always_at R step ms (site_of (made_at m t)) (noted_at m (made_at m t).answer L) (step t L m r)

-- every call keeps how long nodes and fences are
abbrev Long : Site → Ledger → Type 0
Long t L = (length t.nodes ≡ SLOTS) × (length t.fenced ≡ NODES)

long_behind :
    (t : Site) (L M : Ledger) → Long t L → (n i k : ℕ) (d : Done) (x : Bool) → Long (site_of (when x then refused_at n t else around t i k d)) M
long_behind t L M l n i k d true = l
long_behind t L M l n i k d false = (length-set t.nodes i _ ∙ l.0, l.1)

long_kept : (t : Site) (L : Ledger) (m : AnyMove) → Long t L → Long (site_of (made_at m t)) (noted_at m (made_at m t).answer L)
unfolding opened_by stepped_at released_at cared_at fenced_by shown_at begun_at
long_kept t L Begin l =
    either_by (λ (d : SiteDone). Long (site_of d) L) (eqb (length t.words) 0 || ltb RECORDS (length t.words))
    (λ e. l) (λ e. (length-replicate {A = ℕ} SLOTS 0, length-replicate NODES false))
long_kept t L (Do (Base (Open r m))) l =
    long_behind t L L l 14 (lowest_free t.slots) 0 (opened r m (inner t)) (opens_shut r m (fenced_at t 0) t.words)
long_kept t L (Do (Base (Step i))) l = long_behind t L L l 15 i 0 (stepped i (inner t)) (used_shut i (slot_at (inner t) i) (shut_at t i))
long_kept t L (Do (Base (Release i))) l = long_behind t L L l 15 i 0 (released i (inner t)) (used_shut i (slot_at (inner t) i) (shut_at t i))
long_kept t L (Do (Base (Show r))) l = l
long_kept t L (Do (OpenAs r m k)) l =
    long_behind t L L l 14 (lowest_free t.slots) k (opened r m (inner t)) (opens_shut r m (fenced_at t k) t.words)
long_kept t L (Do (Fence n)) l = (l.0, length-set t.fenced n true ∙ l.1)
long_kept t L (Do (Care i)) l = long_behind t L L l 16 i 0 (cared i (inner t)) (used_shut i (slot_at (inner t) i) (not (shut_at t i)))

-- after every sequence of calls
pub tied_at : (n : ℕ) → 1 ≤ n → n ≤ 4096 → (ms : List AnyMove) → Tied n (inner (site_at n ms)) (ledger_at n ms)
tied_at n some most ms =
    let inside = inward (fresh_site n) ms in
    subst (λ (s : State). Tied n s (ledger_at n ms)) (sym (board_inside ms (fresh_site n)))
    (subst (Tied n _) (sym (ledger_inside ms (fresh_site n) blank)) (tied n some most inside))

pub whole_at_law : (n : ℕ) → 1 ≤ n → n ≤ 4096 → (ms : List AnyMove) → SiteIsWhole (site_at n ms)
whole_at_law n some most ms =
    let l = always_at Long long_kept ms (fresh_site n) blank (length-replicate {A = ℕ} SLOTS 0, length-replicate NODES false) in
    ((tied_at n some most ms).slots_long, l.0, l.1)

pub any_demand_3 : AnyDemand3
any_demand_3 n some most ms =
    let T = tied_at n some most ms in
    let t = site_at n ms in
    any_demand t (answer_at n ms) (demand T) (gates t T) (whole_at_law n some most ms)

-- no number ahead is large
pub any_told_few : (n : ℕ) → 1 ≤ n → n ≤ 4096 → (ms : List AnyMove) (o : AnyCall) (m : ℕ) → answer_at n ms o ≡ Told (tells.Waiting m) → m ≤ 65536
any_told_few n some most ms o m e =
    let T = tied_at n some most ms in
    let t = site_at n ms in
    let w = told_inside t (answer_at n ms) (demand T) (gates t T) o m e in
    told_few T w.0 m w.1

-- The site and the ledger after some calls and then others.
pub after_at_both : (ms ns : List AnyMove) (t : Site) → after_at t (ms ++ ns) ≡ after_at (after_at t ms) ns
unfolding after_at
after_at_both [] ns t = refl
after_at_both (m ∷ ms) ns t = after_at_both ms ns (site_of (made_at m t))

pub ledger_at_both :
    (ms ns : List AnyMove) (t : Site) (L : Ledger) →
    read_off_at L (events_at t (ms ++ ns)) ≡ read_off_at (read_off_at L (events_at t ms)) (events_at (after_at t ms) ns)
unfolding after_at events_at read_off_at
ledger_at_both [] ns t L = refl
ledger_at_both (m ∷ ms) ns t L = ledger_at_both ms ns (site_of (made_at m t)) (noted_at m (made_at m t).answer L)

-- a slot that is freed unasked asks, since a slot at no other stage is told so
module _ {n : ℕ} (t : Site) {L : Ledger} (T : Tied n (inner t) L) (i : ℕ) (e : (played_at (Care i) t).answer ≡ Told tells.FreedUnasked) where
  other : {X : Type 0} (a : Answer) → (played_at (Care i) t).answer ≡ a → is_told (outcome_is 12) a ≡ false → X
  other a q f = gone (outcome_is 12) (played_at (Care i) t).answer a (ap (is_told (outcome_is 12)) e) q f

  unasked_asks : (L.seats i).stage ≡ Asks
  unasked_asks =
      let d = (demand T).told_by_stage i in
      ⊎_elim (λ q. other _ q.1 refl) (λ c. by (L.seats i).stage c d.0 d.1)
      (care_way t (λ o. (played_at o t).answer) (demand T) (gates t T) i)
    where
      by :
          (g : Stage) → CareTells g (played_at (Care i) t).answer (plain t (Step i)) (plain t (Release i)) →
          StepTells g (plain t (Step i)) → ReleaseTells g (plain t (Release i)) → g ≡ Asks
      by Nobody c s r = ⊎_elim (λ q. other _ q refl) (λ q. other _ q refl) c
      by Asks c s r = refl
      by Waits c s r = ⊎_elim (λ q. other _ (c ∙ q) refl) (λ q. other _ (c ∙ q.1) refl) s
      by Holds c s r = ⊎_elim (λ q. other _ (c ∙ q) refl) (λ q. other _ (c ∙ q) refl) r
      by Owes c s r = other _ (c ∙ s) refl
      by Clears c s r = ⊎_elim (λ q. other _ (c ∙ q) refl) (λ q. other _ (c ∙ q) refl) s

  unasked_words : (site_of (cared_at i t)).words ≡ t.words
  unfolding cared_at
  unasked_words =
      either_by (λ (d : SiteDone). (site_of d).words ≡ t.words) (used_shut i (slot_at (inner t) i) (not (shut_at t i)))
      (λ z. refl) (λ z. ap (λ (d : Done). d.words) (subst (CareIs (inner t) i) unasked_asks (care_of_law T i)))

pub unasked_was_never_drawn : UnaskedWasNeverDrawn
unfolding after_at events_at read_off_at
unasked_was_never_drawn n some most ms i e =
    let t = site_at n ms in
    let T = tied_at n some most ms in
    let l : ledger_at n (ms ++ Do (Care i) ∷ []) ≡ seated (ledger_at n ms) i free = ledger_at_both ms (Do (Care i) ∷ []) (fresh_site n) blank ∙ rw e refl in (
      unasked_asks t T i e,
      ap (λ (u : Site). u.words) (after_at_both ms (Do (Care i) ∷ []) (fresh_site n)) ∙ unasked_words t T i e,
      ap (λ (M : Ledger). M.tickets) l,
      ap (λ (M : Ledger). M.seats i) l ∙ put_same (ledger_at n ms).seats i free,
    )

-- an accepted begin
abbrev is_begun : Answer → Bool
is_begun Begun = true
is_begun (Refused n) = false
is_begun (Opened k) = false
is_begun (Told a) = false
is_begun (Shown w) = false
is_begun Fenced = false

pub begun_is_fresh_site : BegunIsFreshSite
unfolding begun_at
begun_is_fresh_site t e = by (eqb (length t.words) 0) (ltb RECORDS (length t.words)) refl refl (ap is_begun e)
  where
    pos : (m : ℕ) → (m ≡ 0 → ⊥) → 1 ≤ m
    pos zero d = absurd (d refl)
    pos (suc m) d = omega arith

    by :
        (x y : Bool) → eqb (length t.words) 0 ≡ x → ltb RECORDS (length t.words) ≡ y → is_begun (begun_at t).answer ≡ true →
        (1 ≤ length t.words) × (length t.words ≤ 4096) × (site_of (begun_at t) ≡ fresh_site (length t.words))
    by false false p q f = (pos (length t.words) (eqb-false _ _ p), ltb-false _ _ q, rw (p, q) refl)
    by true y p q f = clash false (rw p at f) refl
    by false true p q f = clash false (rw (p, q) at f) refl
