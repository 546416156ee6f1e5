-- Why a visit of the aimed slot is any call: behind its gate it is the call of the base, or the care, whose visits they are; a refused call writes back
-- what stood there, node and fence too.
-- Assumes nothing.
use Prim.Native.Nat.{ℕ, ◌<◌}
use mathlib.Core.Path.{◌≡◌, refl, ap, sym, ◌∙◌}
use mathlib.Core.Bool.{Bool, true, false, not}
use mathlib.Core.List.{List}
use native.Mathlib.Omega.{arith}
use borrow.Author.Tests.{leb-true, leb-false, le-ltb}
use lib.Dec.{eqb, ltb, leb}
use lib.ListN.{length, get_or, set}
use lib.Seq.{set-get_or, get_or-set_same}
use Rattle.common.specs.Choice.{when◌then◌else◌}
use Rattle.common.proofs.Choices.{either}
use Rattle.agent_request.specs.Request.{phase_of, used_phase, in_use, free_request}
use Rattle.agent_request.specs.declared.Request.{Request}
use Rattle.agent_request.specs.declared.Phase.{Phase}
use Rattle.agent_request.specs.declared.Phase.TheVariants.{Free, Asking, Waiting, Held, Owing, Clearing}
use Rattle.agent_rules.specs.Life.{left_by, step_sends, step_sends_in, step_takes, release_sends, release_sends_in, release_takes}
use Rattle.agent_rules.specs.Care.{care_sends, care_sends_in, care_takes, care_takes_in}
use Rattle.agent_rules.specs.declared.Verb.{Verb}
use Rattle.agent_rules.specs.declared.Taken.{Taken}
use Rattle.agent_rules.specs.declared.Answer.TheVariants.{FreedUnasked}
use Rattle.board_slots.specs.Slots.{SLOTS, lowest_free}
use Rattle.board_slots.specs.Map.{map_of}
use Rattle.board_slots.proofs.Promises.{map_finds_lowest}
use Rattle.board_rules.specs.Records.{is_record, is_nothing, refusal_of}
use Rattle.board_rules.specs.Sent.{Visited, visited, sent_visit}
use Rattle.board_rules.specs.Visit.{within_board, open_visit, named_visit}
use Rattle.board_rules.specs.declared.Answer.TheVariants.{Refused, Told}
use Rattle.board_call.specs.declared.Call.TheVariants.{Open, Step, Release, Show}
use Rattle.board_call.specs.declared.AnyCall.{AnyCall}
use Rattle.board_call.specs.declared.AnyCall.TheVariants.{Base, OpenAs, Fence, Care}
use Rattle.board_rules.specs.Board.{Done, slot_at, refused, opened, stepped, released, shown}
use Rattle.board_rules.specs.Care.{cared}
use Rattle.board_rules.specs.Visit.{aim_of, show_visit, stored}
use Rattle.board_rules.proofs.Visits.{visit_is_played, aimed_use}
use Rattle.board_rules.proofs.Words.{open_words}
use Rattle.board_nodes.specs.Site.{Site, SiteDone, inner, node_at, fenced_at, shut_at, refused_at, kept_node, around, opens_shut, used_shut}
use Rattle.board_nodes.specs.Site.{opened_by, stepped_at, released_at, cared_at, fenced_by, shown_at}
use Rattle.board_nodes.specs.Visit.{watched_node, opening_node, fence_after, gate_of, care_visit, unasked_visit, any_visit, stored_at}
use Rattle.board_nodes.specs.Promises.{AnyVisitIsPlayed}

-- A care as a visit, by phase: what is sent and taken is the step's or the release's, and the tests are the same.
sent_care :
    (q : Request) (ws : List ℕ) (verb : Verb) (takes : ℕ → Taken) →
    in_use q ≡ true →
    is_nothing verb ≡ false →
    care_sends q ≡ verb →
    care_takes q (get_or ws q.«record» 0) ≡ takes (get_or ws q.«record» 0) →
    care_visit q ws ≡ sent_visit q verb takes ws
unfolding care_visit sent_visit refusal_of
sent_care q ws verb takes used one e f = rw (e, f, used, one) (by (is_record q.«record» ws))
  where
    v : ℕ
    v = get_or ws q.«record» 0

    by : (y : Bool) → (when not y then visited q ws (Refused 2) else visited (takes v).request (set ws q.«record» (left_by verb v)) (Told (takes v).answer)) ≡
        (when eqb (when not y then 2 else 0) 0
        then visited (takes v).request (set ws q.«record» (left_by verb v)) (Told (takes v).answer)
        else visited q ws (Refused (when not y then 2 else 0)))
    by true = refl
    by false = refl

pub release_care : (q : Request) (ws : List ℕ) → phase_of q.phase ≡ Held → care_visit q ws ≡ sent_visit q (release_sends q) (release_takes q) ws
unfolding care_sends care_takes release_sends
release_care q ws p =
    sent_care q ws (release_sends q) (release_takes q) (ap used_phase p) (ap (λ (x : Phase). is_nothing (release_sends_in x q)) p)
    (ap (λ (x : Phase). care_sends_in x q) p) (ap (λ (x : Phase). care_takes_in x q (get_or ws q.«record» 0)) p)

module _ (q : Request) (ws : List ℕ) (p : Phase) (h : phase_of q.phase ≡ p) where
  step_care :
      used_phase p ≡ true →
      is_nothing (step_sends_in p q) ≡ false →
      care_sends_in p q ≡ step_sends q →
      care_takes_in p q (get_or ws q.«record» 0) ≡ step_takes q (get_or ws q.«record» 0) →
      care_visit q ws ≡ sent_visit q (step_sends q) (step_takes q) ws
  unfolding care_sends care_takes step_sends
  step_care used one e f =
      sent_care q ws (step_sends q) (step_takes q) (ap used_phase h ∙ used) (ap (λ (x : Phase). is_nothing (step_sends_in x q)) h ∙ one)
      (ap (λ (x : Phase). care_sends_in x q) h ∙ e) (ap (λ (x : Phase). care_takes_in x q (get_or ws q.«record» 0)) h ∙ f)

pub waiting_care : (q : Request) (ws : List ℕ) → phase_of q.phase ≡ Waiting → care_visit q ws ≡ sent_visit q (step_sends q) (step_takes q) ws
waiting_care q ws h = step_care q ws Waiting h refl refl refl refl

pub owing_care : (q : Request) (ws : List ℕ) → phase_of q.phase ≡ Owing → care_visit q ws ≡ sent_visit q (step_sends q) (step_takes q) ws
owing_care q ws h = step_care q ws Owing h refl refl refl refl

pub clearing_care : (q : Request) (ws : List ℕ) → phase_of q.phase ≡ Clearing → care_visit q ws ≡ sent_visit q (step_sends q) (step_takes q) ws
clearing_care q ws h = step_care q ws Clearing h refl refl refl refl

pub free_care : (q : Request) (ws : List ℕ) → phase_of q.phase ≡ Free → care_visit q ws ≡ visited q ws (Refused 4)
unfolding care_visit
free_care q ws h = rw h refl

pub asking_care : (q : Request) (ws : List ℕ) → phase_of q.phase ≡ Asking → care_visit q ws ≡ unasked_visit q ws
unfolding care_visit unasked_visit care_sends care_takes
asking_care q ws h =
    rw h (ap (λ (w : List ℕ). when not (is_record q.«record» ws) then visited q ws (Refused 2) else visited free_request w (Told FreedUnasked)) (set-get_or ws q.«record» 0))

pub unasked_words : (q : Request) (ws : List ℕ) → (unasked_visit q ws).words ≡ ws
unfolding unasked_visit
unasked_words q ws = either (λ (v : Visited). v.words ≡ ws) (not (is_record q.«record» ws)) refl refl

-- A request that stays keeps its node.
pub kept_same : (k n : ℕ) (q : Request) → kept_node k q q n ≡ n
kept_same k n q = by (in_use q)
  where
    by : (x : Bool) → (when x then (when x then n else k) else (when x then 0 else n)) ≡ n
    by true = refl
    by false = refl

-- the nodes after the visit of a slot that stays are the nodes
pub same_node : (t : Site) (k i : ℕ) (q : Request) → q ≡ slot_at (inner t) i → set t.nodes i (kept_node k (slot_at (inner t) i) q (node_at t i)) ≡ t.nodes
same_node t k i q e =
    ap (λ (x : Request). set t.nodes i (kept_node k (slot_at (inner t) i) x (node_at t i))) e ∙
    ap (λ (n : ℕ). set t.nodes i n) (kept_same k (node_at t i) (slot_at (inner t) i)) ∙ set-get_or t.nodes i 0

-- a call that sets no fence
abbrev Leaving : AnyCall → Type 0
Leaving o = (b : Bool) → fence_after o b ≡ b

same_fences : (t : Site) (o : AnyCall) (n : ℕ) → Leaving o → set t.fenced n (fence_after o (fenced_at t n)) ≡ t.fenced
same_fences t o n l = ap (λ (b : Bool). set t.fenced n b) (l (fenced_at t n)) ∙ set-get_or t.fenced n false

-- a refused visit writes back what stood there
back_at : (t : Site) (o : AnyCall) (i n : ℕ) → Leaving o → refused_at n t ≡ stored_at t o i (visited (slot_at (inner t) i) t.words (Refused n))
back_at t o i n l =
    sym
    (rw (set-get_or t.slots i free_request, same_node t (opening_node o) i (slot_at (inner t) i) refl, same_fences t o (watched_node o (node_at t i)) l) refl)

-- what a call of the base leaves of the whole, where it stores in the slot i and its node goes by the slot j
around_is :
    (t : Site) (o : AnyCall) (i j : ℕ) (v : Visited) (d : Done) →
    Leaving o →
    d ≡ stored (inner t) i v →
    set t.nodes j (kept_node (opening_node o) (slot_at (inner t) j) (slot_at (record { slots = set t.slots i v.request; words = v.words }) j) (node_at t j)) ≡
    set t.nodes i (kept_node (opening_node o) (slot_at (inner t) i) v.request (node_at t i)) →
    around t j (opening_node o) d ≡ stored_at t o i v
around_is t o i j v d l e n =
    ap (around t j (opening_node o)) e ∙
    ap (λ (ns : List ℕ). record { slots = set t.slots i v.request; nodes = ns; fenced = t.fenced; words = v.words; answer = v.answer }) n ∙
    ap (λ (fs : List Bool). record { slots = set t.slots i v.request; nodes = set t.nodes i (kept_node (opening_node o) (slot_at (inner t) i) v.request (node_at t i)); fenced = fs; words = v.words; answer = v.answer })
    (sym (same_fences t o (watched_node o (node_at t i)) l))

-- the same slot
around_here :
    (t : Site) (o : AnyCall) (i : ℕ) (v : Visited) (d : Done) → Leaving o → i < length t.slots → d ≡ stored (inner t) i v → around t i (opening_node o) d ≡ stored_at t o i v
around_here t o i v d l h e =
    around_is t o i i v d l e
    (ap (λ (q : Request). set t.nodes i (kept_node (opening_node o) (slot_at (inner t) i) q (node_at t i))) (get_or-set_same t.slots i v.request free_request h))

-- no slot: the request stays
around_nowhere :
    (t : Site) (o : AnyCall) (i j : ℕ) (v : Visited) (d : Done) →
    Leaving o → v.request ≡ slot_at (inner t) i → d ≡ stored (inner t) i v → around t j (opening_node o) d ≡ stored_at t o i v
around_nowhere t o i j v d l s e =
    around_is t o i j v d l e
    (same_node t (opening_node o) j _ (ap (λ (q : Request). get_or (set t.slots i q) j free_request) s ∙ ap (λ (qs : List Request). get_or qs j free_request) (set-get_or t.slots i free_request)) ∙
    sym (same_node t (opening_node o) i v.request s))

-- a gate and what is behind it, where the call names a slot
through :
    (t : Site) (o : AnyCall) (i g : ℕ) (x : Bool) (d : SiteDone) (v : Visited) →
    Leaving o →
    (eqb g 0 ≡ false) →
    (x ≡ false → d ≡ stored_at t o i v) →
    (when x then refused_at g t else d) ≡
    stored_at t o i (when eqb (when x then g else 0) 0 then v else visited (slot_at (inner t) i) t.words (Refused (when x then g else 0)))
through t o i g true d v l e f = rw e (back_at t o i g l)
through t o i g false d v l e f = f refl

-- a call that names the slot n, aimed at it or at slot 0
named :
    (t : Site) (o : AnyCall) (n g : ℕ) (b c : Bool) (d : Done) (v : Visited) →
    length t.slots ≡ SLOTS →
    Leaving o →
    opening_node o ≡ 0 →
    eqb g 0 ≡ false →
    d ≡ stored (inner t) (within_board n) (named_visit n (slot_at (inner t) (within_board n)) t.words v) →
    (leb SLOTS n ≡ false → b ≡ c) →
    (when used_shut n (slot_at (inner t) n) b then refused_at g t else around t n 0 d) ≡
    stored_at t o (within_board n)
    (when eqb (when used_shut n (slot_at (inner t) (within_board n)) c then g else 0) 0
    then named_visit n (slot_at (inner t) (within_board n)) t.words v
    else visited (slot_at (inner t) (within_board n)) t.words (Refused (when used_shut n (slot_at (inner t) (within_board n)) c then g else 0)))
unfolding named_visit
named t o n g b c d v long l k g0 e same = by (leb SLOTS n) refl
  where
    Goal : Type 0
    Goal =
        (when used_shut n (slot_at (inner t) n) b then refused_at g t else around t n 0 d) ≡
        stored_at t o (within_board n)
        (when eqb (when used_shut n (slot_at (inner t) (within_board n)) c then g else 0) 0
        then named_visit n (slot_at (inner t) (within_board n)) t.words v
        else visited (slot_at (inner t) (within_board n)) t.words (Refused (when used_shut n (slot_at (inner t) (within_board n)) c then g else 0)))

    by : (x : Bool) → leb SLOTS n ≡ x → Goal
    by true h =
        let past : ltb n SLOTS ≡ false = le-ltb n SLOTS (leb-true SLOTS n h) in
        let f : d ≡ stored (inner t) 0 (visited (slot_at (inner t) 0) t.words (Refused 1)) = e ∙ (rw h refl) in
        rw (past, h) (ap (λ (j : ℕ). around t n j d) (sym k) ∙ around_nowhere t o 0 n (visited (slot_at (inner t) 0) t.words (Refused 1)) d l refl f)
    by false h =
        let below = leb-false SLOTS n h in
        let f : d ≡ stored (inner t) n v = e ∙ (rw h refl) in
        rw (h, sym (same h))
        (through t o n g (used_shut n (slot_at (inner t) n) b) (around t n 0 d) v l g0
        (λ z. ap (λ (j : ℕ). around t n j d) (sym k) ∙ around_here t o n v d l (omega arith) f))

-- the care of a slot
care_stored :
    (t : Site) (n : ℕ) →
    cared n (inner t) ≡
    stored (inner t) (within_board n)
    (named_visit n (slot_at (inner t) (within_board n)) t.words (care_visit (slot_at (inner t) (within_board n)) t.words))
unfolding cared named_visit care_visit
care_stored t n = by (leb SLOTS n) refl
  where
    Goal : Type 0
    Goal = cared n (inner t) ≡ stored (inner t) (within_board n) (named_visit n (slot_at (inner t) (within_board n)) t.words (care_visit (slot_at (inner t) (within_board n)) t.words))

    back : (i m : ℕ) → refused m (inner t) ≡ stored (inner t) i (visited (slot_at (inner t) i) t.words (Refused m))
    back i m = ap (λ (qs : List Request). record { slots = qs; words = t.words; answer = Refused m }) (sym (set-get_or t.slots i free_request))

    inside : (x y : Bool) (w : Visited) →
        (when not x then refused 4 (inner t) else when not y then refused 2 (inner t) else stored (inner t) n w) ≡
        stored (inner t) n
        (when not x then visited (slot_at (inner t) n) t.words (Refused 4) else when not y then visited (slot_at (inner t) n) t.words (Refused 2) else w)
    inside true true w = refl
    inside true false w = back n 2
    inside false y w = back n 4

    by : (x : Bool) → leb SLOTS n ≡ x → Goal
    by true h = rw h (back 0 1)
    by false h = rw h (inside (in_use (slot_at (inner t) n)) (is_record (slot_at (inner t) n).«record» t.words) _)

-- an open that finds no free slot leaves the slot that it aims at
open_stays : (r m i : ℕ) (q : Request) (ws : List ℕ) → in_use q ≡ true → (open_visit r m i q ws).request ≡ q
unfolding open_visit
open_stays r m i q ws used =
    rw used
    (either (λ (v : Visited). v.request ≡ q) (not (is_record r ws)) refl (either (λ (v : Visited). v.request ≡ q) (ltb 1 m) refl refl))

open_stored :
    (t : Site) (o : AnyCall) (r m : ℕ) →
    length t.slots ≡ SLOTS →
    Leaving o →
    (x : Bool) → leb SLOTS (lowest_free t.slots) ≡ x →
    opened r m (inner t) ≡ stored (inner t) (within_board (lowest_free t.slots)) (open_visit r m (within_board (lowest_free t.slots)) (slot_at (inner t) (within_board (lowest_free t.slots))) t.words) →
    around t (lowest_free t.slots) (opening_node o) (opened r m (inner t)) ≡
    stored_at t o (within_board (lowest_free t.slots)) (open_visit r m (within_board (lowest_free t.slots)) (slot_at (inner t) (within_board (lowest_free t.slots))) t.words)
open_stored t o r m long l true h e =
    around_nowhere t o (within_board (lowest_free t.slots)) (lowest_free t.slots) _ (opened r m (inner t)) l
    (open_stays r m (within_board (lowest_free t.slots)) (slot_at (inner t) (within_board (lowest_free t.slots))) t.words (aimed_use t.slots long true h)) e
open_stored t o r m long l false h e =
    let below = leb-false SLOTS (lowest_free t.slots) h in
    let at : within_board (lowest_free t.slots) ≡ lowest_free t.slots = rw h refl in
    ap (λ (j : ℕ). around t j (opening_node o) (opened r m (inner t))) (sym at) ∙
    around_here t o (within_board (lowest_free t.slots)) _ (opened r m (inner t)) l (rw at (omega arith)) e

-- an open by a node
opens :
    (t : Site) (o : AnyCall) (r m k : ℕ) →
    length t.slots ≡ SLOTS →
    Leaving o →
    opening_node o ≡ k →
    let i = aim_of (Open r m) (map_of t.slots) in
    opened_by r m k t ≡
    stored_at t o i
    (when eqb (when opens_shut r m (fenced_at t k) t.words then 14 else 0) 0
    then open_visit r m i (slot_at (inner t) i) t.words
    else visited (slot_at (inner t) i) t.words (Refused (when opens_shut r m (fenced_at t k) t.words then 14 else 0)))
unfolding opened_by aim_of
opens t o r m k long l e =
    let j = lowest_free t.slots in
    rw (map_finds_lowest t.slots long)
    (through t o (within_board j) 14 (opens_shut r m (fenced_at t k) t.words) (around t j k (opened r m (inner t))) _ l refl
    (λ z.
    ap (λ (n : ℕ). around t j n (opened r m (inner t))) (sym e) ∙
    open_stored t o r m long l (leb SLOTS j) refl (visit_is_played (Open r m) (inner t) long ∙ (rw (map_finds_lowest t.slots long) refl))))

-- what a slot's node is, where the slot is of the board
same_bit : (t : Site) (n : ℕ) (f : Bool → Bool) → leb SLOTS n ≡ false → f (shut_at t n) ≡ f (shut_at t (within_board n))
same_bit t n f h = rw h refl

pub any_visit_is_played : AnyVisitIsPlayed
unfolding aim_of stepped_at released_at cared_at shown_at fenced_by any_visit stepped released shown show_visit
any_visit_is_played (Base (Open r m)) t long = opens t (Base (Open r m)) r m 0 long (λ b. refl) refl
any_visit_is_played (Base (Step n)) t long =
    named t (Base (Step n)) n 15 (shut_at t n) (shut_at t (within_board n)) (stepped n (inner t)) _ long (λ b. refl) refl refl
    (visit_is_played (Step n) (inner t) long) (same_bit t n (λ b. b))
any_visit_is_played (Base (Release n)) t long =
    named t (Base (Release n)) n 15 (shut_at t n) (shut_at t (within_board n)) (released n (inner t)) _ long (λ b. refl) refl refl
    (visit_is_played (Release n) (inner t) long) (same_bit t n (λ b. b))
any_visit_is_played (Base (Show r)) t long =
    sym (rw (set-get_or t.slots 0 free_request, same_node t 0 0 (slot_at (inner t) 0) refl, set-get_or t.fenced (node_at t 0) false) refl)
any_visit_is_played (OpenAs r m k) t long = opens t (OpenAs r m k) r m k long (λ b. refl) refl
any_visit_is_played (Fence k) t long = sym (rw (set-get_or t.slots 0 free_request, same_node t 0 0 (slot_at (inner t) 0) refl) refl)
any_visit_is_played (Care n) t long =
    named t (Care n) n 16 (not (shut_at t n)) (not (shut_at t (within_board n))) (cared n (inner t)) _ long (λ b. refl) refl refl (care_stored t n) (same_bit t n not)

-- an open leaves the words
pub any_open_words : (r m i : ℕ) (shut : Bool) (q : Request) (ws : List ℕ) → (any_visit (Base (Open r m)) i shut q ws).words ≡ ws
unfolding any_visit
any_open_words r m i shut q ws = either (λ (v : Visited). v.words ≡ ws) (eqb (gate_of (Base (Open r m)) shut q ws) 0) (open_words r m i q ws) refl
