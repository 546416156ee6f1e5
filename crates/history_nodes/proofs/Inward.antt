-- Why a history of all seven calls has one inside it, without nodes and fences, with the same slots, words and ledger: a call whose gate lets it
-- through is one call inside, with the same answer; one that its gate stops changes nothing and tells nothing, and a fence changes no slot and no
-- word. So each is one call inside or none.
-- Assumes nothing.
use Prim.Native.Nat.{ℕ}
use mathlib.Core.Path.{◌≡◌, refl, ap, sym, ◌∙◌}
use mathlib.Core.Bool.{Bool, true, false, not, ◌||◌}
use mathlib.Core.List.{List, [], ◌∷◌, ◌++◌}
use lib.Dec.{eqb, ltb}
use lib.ListN.{length}
use Rattle.common.specs.Choice.{when◌then◌else◌}
use Rattle.board_call.specs.declared.Call.TheVariants.{Open, Step, Release, Show}
use Rattle.board_call.specs.declared.AnyCall.TheVariants as any
use Rattle.board_rules.specs.Records.{RECORDS}
use Rattle.board_rules.specs.declared.Answer.TheVariants.{Refused}
use Rattle.board_rules.specs.Board.{State, Done, state_of, slot_at, refused, begun, shown}
use Rattle.board_nodes.specs.Site.{Site, SiteDone, site_of, inner, fenced_at, shut_at, refused_at, around, opens_shut, used_shut}
use Rattle.board_nodes.specs.Site.{opened_by, stepped_at, released_at, cared_at, fenced_by, shown_at, begun_at}
use Rattle.history_promises.specs.Ledger.{Ledger, blank}
use Rattle.history_promises.specs.History.{Move, made, after, events, noted, read_off}
use Rattle.history_promises.specs.History.Move.{Begin, Do, Care}
use Rattle.history_nodes.specs.History.{AnyMove, fresh_site, made_at, after_at, events_at, noted_at, read_off_at}
use Rattle.history_nodes.specs.History.AnyMove.{Begin as BeginAt, Do as DoAt}
use Rattle.history_nodes.specs.Promises.{HistoriesGoInward}

-- the call inside, unless the gate stops it
abbrev unless : Bool → Move → List Move
unless stopped m = when stopped then [] else m ∷ []

abbrev pub inside_of : AnyMove → Site → List Move
inside_of BeginAt t = Begin ∷ []
inside_of (DoAt (any.Base (Open r m))) t = unless (opens_shut r m (fenced_at t 0) t.words) (Do (Open r m))
inside_of (DoAt (any.Base (Step i))) t = unless (used_shut i (slot_at (inner t) i) (shut_at t i)) (Do (Step i))
inside_of (DoAt (any.Base (Release i))) t = unless (used_shut i (slot_at (inner t) i) (shut_at t i)) (Do (Release i))
inside_of (DoAt (any.Base (Show r))) t = Do (Show r) ∷ []
inside_of (DoAt (any.OpenAs r m k)) t = unless (opens_shut r m (fenced_at t k) t.words) (Do (Open r m))
inside_of (DoAt (any.Fence n)) t = []
inside_of (DoAt (any.Care i)) t = unless (used_shut i (slot_at (inner t) i) (not (shut_at t i))) (Care i)

unfoldable pub inward : Site → List AnyMove → List Move
inward t [] = []
inward t (m ∷ ms) = inside_of m t ++ inward (site_of (made_at m t)) ms

-- a refusal tells nothing
refused_noted : (m : Move) (n : ℕ) (L : Ledger) → noted m (Refused n) L ≡ L
refused_noted Begin n L = refl
refused_noted (Do (Open r m)) n L = refl
refused_noted (Do (Step i)) n L = refl
refused_noted (Do (Release i)) n L = refl
refused_noted (Do (Show r)) n L = refl
refused_noted (Care i) n L = refl

-- what a call leaves inside, and what it tells, are those of the calls inside
pub record Inside (m : AnyMove) (t : Site) (d : SiteDone) (ms : List Move) : Type 0 where
  pub board : inner (site_of d) ≡ after (inner t) ms
  pub ledger : (L : Ledger) → noted_at m d.answer L ≡ read_off L (events (inner t) ms)

-- a call behind its gate
behind :
    (o : AnyMove) (m : Move) (t : Site) (n i k : ℕ) →
    ((L : Ledger) (d : Done) → noted_at o d.answer L ≡ noted m d.answer L) →
    (x : Bool) → Inside o t (when x then refused_at n t else around t i k (made m (inner t))) (unless x m)
unfolding after events read_off
behind o m t n i k same true = record { board = refl; ledger = λ L. same L (refused n (inner t)) ∙ refused_noted m n L }
behind o m t n i k same false = record { board = refl; ledger = λ L. same L (made m (inner t)) }

-- begin is begin inside
begun_inside : (t : Site) → Inside BeginAt t (begun_at t) (Begin ∷ [])
unfolding begun begun_at after events read_off
begun_inside t = by (eqb (length t.words) 0 || ltb RECORDS (length t.words)) refl
  where
    by : (x : Bool) → (eqb (length t.words) 0 || ltb RECORDS (length t.words)) ≡ x → Inside BeginAt t (begun_at t) (Begin ∷ [])
    by true e = record { board = rw e refl; ledger = λ L. rw e refl }
    by false e = record { board = rw e refl; ledger = λ L. rw e refl }

-- each call
pub is_inside : (m : AnyMove) (t : Site) → Inside m t (made_at m t) (inside_of m t)
unfolding opened_by stepped_at released_at cared_at fenced_by shown_at shown after events read_off
is_inside BeginAt t = begun_inside t
is_inside (DoAt (any.Base (Open r m))) t = behind _ (Do (Open r m)) t 14 _ 0 (λ L d. refl) (opens_shut r m (fenced_at t 0) t.words)
is_inside (DoAt (any.Base (Step i))) t = behind _ (Do (Step i)) t 15 i 0 (λ L d. refl) (used_shut i (slot_at (inner t) i) (shut_at t i))
is_inside (DoAt (any.Base (Release i))) t = behind _ (Do (Release i)) t 15 i 0 (λ L d. refl) (used_shut i (slot_at (inner t) i) (shut_at t i))
is_inside (DoAt (any.Base (Show r))) t = record { board = refl; ledger = λ L. refl }
is_inside (DoAt (any.OpenAs r m k)) t = behind _ (Do (Open r m)) t 14 _ k (λ L d. refl) (opens_shut r m (fenced_at t k) t.words)
is_inside (DoAt (any.Fence n)) t = record { board = refl; ledger = λ L. refl }
is_inside (DoAt (any.Care i)) t = behind _ (Care i) t 16 i 0 (λ L d. refl) (used_shut i (slot_at (inner t) i) (not (shut_at t i)))

-- board and ledger after some calls and then others
after_both : (ms ns : List Move) (s : State) → after s (ms ++ ns) ≡ after (after s ms) ns
unfolding after
after_both [] ns s = refl
after_both (m ∷ ms) ns s = after_both ms ns (state_of (made m s))

ledger_both : (ms ns : List Move) (s : State) (L : Ledger) → read_off L (events s (ms ++ ns)) ≡ read_off (read_off L (events s ms)) (events (after s ms) ns)
unfolding after events read_off
ledger_both [] ns s L = refl
ledger_both (m ∷ ms) ns s L = ledger_both ms ns (state_of (made m s)) (noted m (made m s).answer L)

-- the history inside leads to the same board
pub board_inside : (ms : List AnyMove) (t : Site) → inner (after_at t ms) ≡ after (inner t) (inward t ms)
unfolding after_at inward after
board_inside [] t = refl
board_inside (m ∷ ms) t =
    let u = site_of (made_at m t) in
    board_inside ms u ∙
    ap (λ (s : State). after s (inward u ms)) (is_inside m t).board ∙
    sym (after_both (inside_of m t) (inward u ms) (inner t))

-- and to the same ledger
pub ledger_inside : (ms : List AnyMove) (t : Site) (L : Ledger) → read_off_at L (events_at t ms) ≡ read_off L (events (inner t) (inward t ms))
unfolding events_at read_off_at inward events read_off
ledger_inside [] t L = refl
ledger_inside (m ∷ ms) t L =
    let u = site_of (made_at m t) in
    let i = is_inside m t in
    ledger_inside ms u (noted_at m (made_at m t).answer L) ∙
    ap (λ (s : State). read_off (noted_at m (made_at m t).answer L) (events s (inward u ms))) i.board ∙
    ap (λ (M : Ledger). read_off M (events (after (inner t) (inside_of m t)) (inward u ms))) (i.ledger L) ∙
    sym (ledger_both (inside_of m t) (inward u ms) (inner t) L)

pub histories_go_inward : HistoriesGoInward
histories_go_inward n ms = (inward (fresh_site n) ms, board_inside ms (fresh_site n), ledger_inside ms (fresh_site n) blank)
