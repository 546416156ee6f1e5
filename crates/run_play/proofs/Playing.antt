-- What is kept while a run goes on: the whole run is what has been played so far and the run from here. A turn plays one record and keeps it.
-- Assumes nothing.
use Prim.Native.Nat.{ℕ, ◌+◌, ◌-◌, ◌*◌, ◌<◌, ◌≤◌}
use mathlib.Core.Path.{◌≡◌, refl, ap, sym, ◌∙◌}
use mathlib.Core.Bool.{Bool, true, false, ◌&&◌}
use mathlib.Core.Logic.{⊎_elim}
use mathlib.Core.List.{List, ◌++◌, append_assoc, append-nil}
use native.Mathlib.Omega.{arith}
use native.Mathlib.Nat.{add-zero, sub-zero, eq-or-lt_of_le}
use borrow.Author.Tests.{eq-eqb, ne_eqb}
use lib.Dec.{eqb, ltb}
use lib.ListN.{length, take, drop, set, length-append, length-set}
use lib.Seq.{set-get_or, sets-eq, length-sets, drop-append-add, drop-drop, take_at, length-take-le}
use Rattle.std.specs.Prelude.{Some, None}
use Rattle.common.specs.Choice.{when◌then◌else◌, but}
use Rattle.agent_request.specs.Request.{in_use, free_request}
use Rattle.agent_request.specs.declared.Request.{Request}
use Rattle.agent_rules.specs.declared.Answer.TheVariants.{Waiting}
use Rattle.board_slots.specs.Slots.{SLOTS}
use Rattle.board_slots.specs.Map.{map_of, marked_of}
use Rattle.board_slots.specs.declared.Board.{Board}
use Rattle.board_slots.proofs.Promises.{mark_follows_store}
use Rattle.board_call.specs.declared.Call.{Call}
use Rattle.board_call.specs.declared.Call.TheVariants.{Open, Step}
use Rattle.board_call.specs.declared.AnyCall.{AnyCall}
use Rattle.board_call.specs.declared.AnyCall.TheVariants.{Base, OpenAs, Fence, Care}
use Rattle.board_rules.specs.Answers.{said_of, sends_verb, verbs_of}
use Rattle.board_rules.specs.Board.{slot_at}
use Rattle.board_rules.specs.Sent.{Visited}
use Rattle.board_rules.specs.Visit.{aim_of}
use Rattle.board_rules.specs.declared.Said.{Said}
use Rattle.board_rules.specs.declared.Answer.{Answer}
use Rattle.board_rules.specs.declared.Answer.TheVariants.{Told}
use Rattle.board_rules.proofs.Visits.{aim_small}
use Rattle.board_nodes.specs.Site.{Site, SiteDone, site_of, inner, node_at, fenced_at, shut_at, kept_node, played_at}
use Rattle.board_nodes.specs.Answers.{reported_as, said_of_any, verbs_of_any}
use Rattle.board_nodes.specs.Visit.{watched_node, opening_node, fence_after, any_visit, visited_at}
use Rattle.board_nodes.specs.Promises.{aim_at}
use Rattle.board_nodes.specs.Leaves.{lent_to}
use Rattle.board_nodes.proofs.Visits.{any_visit_is_played, any_open_words, kept_same}
use Rattle.board_nodes.proofs.Same.{same_site, set_small}
use Rattle.board_visit_waiting.specs.Waits.{still_ahead, stepped_slot}
use Rattle.board_visit_waiting.proofs.Waits.{is_its_step, aims_there, waits_visit}
use Rattle.schedule_bytes.specs.Schedule.{next_of}
use Rattle.schedule_bytes.specs.declared.Next.{Next}
use Rattle.schedule_bytes.specs.declared.Next.TheVariants.{Record}
use Rattle.schedule_bytes.proofs.Bodies.{record_after}
use Rattle.run_entry.specs.Entry.{entry_of, put_of}
use Rattle.run_entry.proofs.Stores.{fits}
use Rattle.run_rules.specs.Endings.{ending_number}
use Rattle.run_rules.specs.declared.Ending.{Ending}
use Rattle.run_rules.specs.Halts.{is_end, halted_of, leaves_of}
use Rattle.run_rules.specs.Run.{Whole, ended, followed, run_of, joined, report_of}
use Rattle.common.proofs.But.{some_but, none_but}
use Rattle.run_rules.proofs.Runs.{plays, halts, leaves}
use Rattle.run_rules.proofs.Wholes.{so_far, whole_at, same_whole, nothing_yet}
use Rattle.run_turn.specs.Turns.{reported, turn_leaves}
use Rattle.run_turn.specs.declared.Turned.{Turned}
use Rattle.run_play.specs.Comes.{Comes}

pub one_more_law :
    (n v : ℕ) (e : List ℕ) (c : AnyCall) (a : Answer) (w : Whole) →
    joined (so_far n v e) (followed c a w) ≡ joined (so_far (n + 1) (v + verbs_of_any c a) (e ++ entry_of (said_of_any c a))) w
one_more_law n v e c a w = same_whole (omega arith) (omega arith) (sym (append_assoc e (entry_of (said_of_any c a)) w.entries))

entry_long : (d : Said) → length (entry_of d) ≡ 12
unfolding entry_of
entry_long d = refl

-- the report after one entry more
module _
    (report report₀ : List ℕ) (n : ℕ) (d : Said) (room : length report ≡ length report₀) (more : n * 12 + 12 ≤ length report₀)
    (kept : report ≡ take (n * 12) report ++ drop (n * 12) report₀) where
  put_is : put_of report (n * 12) d ≡ (take (n * 12) report ++ entry_of d) ++ drop ((n + 1) * 12) report₀
  put_is =
      let len = entry_long d in
      let before : length (take (n * 12) report) ≡ n * 12 = length-take-le (n * 12) report (omega arith) in
      let next : n * 12 + 12 ≡ (n + 1) * 12 = omega arith in
      let past : drop (n * 12 + 12) report ≡ drop ((n + 1) * 12) report₀ =
      ap (drop (n * 12 + 12)) kept ∙ ap (λ (k : ℕ). drop (k + 12) (take (n * 12) report ++ drop (n * 12) report₀)) (sym before) ∙
      drop-append-add (take (n * 12) report) (drop (n * 12) report₀) 12 ∙ drop-drop 12 (n * 12) report₀ ∙ ap (λ (k : ℕ). drop k report₀) next in
      fits report (n * 12) d (omega arith) ∙ sets-eq (entry_of d) report (n * 12) (omega arith) ∙
      ap (λ (k : ℕ). take (n * 12) report ++ entry_of d ++ drop (n * 12 + k) report) len ∙
      ap (λ (r : List ℕ). take (n * 12) report ++ entry_of d ++ r) past

  pub put_front : take ((n + 1) * 12) (put_of report (n * 12) d) ≡ take (n * 12) report ++ entry_of d
  put_front =
      let len = entry_long d in
      let before : length (take (n * 12) report) ≡ n * 12 = length-take-le (n * 12) report (omega arith) in
      ap (take ((n + 1) * 12)) put_is ∙
      take_at (take (n * 12) report ++ entry_of d) (drop ((n + 1) * 12) report₀) ((n + 1) * 12) (rw length-append (omega arith))

  pub put_kept : put_of report (n * 12) d ≡ take ((n + 1) * 12) (put_of report (n * 12) d) ++ drop ((n + 1) * 12) report₀
  put_kept = put_is ∙ ap (λ (r : List ℕ). r ++ drop ((n + 1) * 12) report₀) (sym put_front)

  pub put_long : length (put_of report (n * 12) d) ≡ length report₀
  put_long = ap length (fits report (n * 12) d (omega arith)) ∙ length-sets report (n * 12) (entry_of d) ∙ room

pub record Playing
    (t₀ : Site) (bytes : List ℕ) (at allowance : ℕ) (report₀ : List ℕ) (t : Site) (report map : List ℕ) (place records verbs : ℕ) :
    Type 0 where
  pub long : length t.slots ≡ 256
  pub noded : (i : ℕ) → node_at t i < 256
  pub mapped : map ≡ map_of t.slots
  pub lent : length t.words ≡ length t₀.words
  pub room : length report ≡ length report₀
  pub within : records ≤ allowance
  pub fit : records * 12 ≤ length report₀
  pub few : verbs ≤ records
  pub ahead : at ≤ place
  pub kept : report ≡ take (records * 12) report ++ drop (records * 12) report₀
  pub whole :
      run_of allowance (length report₀) bytes at t₀ ≡
      joined (so_far records verbs (take (records * 12) report)) (run_of (allowance - records) (length report₀ - records * 12) bytes place t)

-- before the first record
pub begins :
    (t : Site) (bytes : List ℕ) (at allowance : ℕ) (report map : List ℕ) →
    length t.slots ≡ 256 →
    ((i : ℕ) → node_at t i < 256) →
    map ≡ map_of t.slots →
    Playing t bytes at allowance report t report map at 0 0
begins t bytes at allowance report map long noded mapped =
    record {
      long = long;
      noded = noded;
      mapped = mapped;
      lent = refl;
      room = refl;
      within = omega arith;
      fit = omega arith;
      few = omega arith;
      ahead = omega arith;
      kept = refl;
      whole = rw (sub-zero allowance, sub-zero (length report)) (nothing_yet (run_of allowance (length report) bytes at t));
    }

-- the test that the code makes on the allowance
pub spent_test : (records allowance : ℕ) → records ≤ allowance → eqb (allowance - records) 0 ≡ eqb records allowance
spent_test records allowance h =
    ⊎_elim
    (λ (e : records ≡ allowance). eq-eqb (allowance - records) 0 (omega arith) ∙ sym (eq-eqb records allowance e))
    (λ (l : records < allowance). ne_eqb (allowance - records) 0 (λ z. omega arith) ∙ sym (ne_eqb records allowance (λ z. omega arith)))
    (eq-or-lt_of_le h)

verb_le : (c : AnyCall) (a : Answer) → verbs_of_any c a ≤ 1
unfolding verbs_of_any verbs_of
verb_le c a = at_most (eqb (said_of_any c a).outcome 12) (sends_verb (reported_as c) && eqb (said_of_any c a).number 0)
  where
    at_most : (x y : Bool) → (when x then 0 else when y then 1 else 0) ≤ 1
    at_most true y = omega arith
    at_most false true = omega arith
    at_most false false = omega arith

pub one_verb : (c : AnyCall) (q : Request) (a : Answer) (t : Turned) → t ≡ record { request = q; verbs = verbs_of_any c a } → t.verbs ≤ 1
one_verb c q a t e = rw e (verb_le c a)

-- a step that goes on waiting sends one verb, and its slot's bit stays
waits_verb : (k n : ℕ) → verbs_of_any (Base (Step k)) (Told (Waiting n)) ≡ 1
unfolding verbs_of_any verbs_of
waits_verb k n = refl

unmarked : (b : Bool) (m x y : List ℕ) → m ≡ (when b then (when b then m else x) else (when b then y else m))
unmarked true m x y = refl
unmarked false m x y = refl

map_stays : (m : List ℕ) (i : ℕ) (q : Request) → m ≡ marked_of m i q q
unfolding marked_of
map_stays m i q = unmarked (in_use q) m _ _

-- an open by any node is visited as an open, sends no verb and leaves the fences
clash : {A : Type 0} → ◌≡◌ {A = ℕ} 0 1 → A
clash e = absurd (omega arith)

open_visit_law :
    (c : AnyCall) (r m : ℕ) →
    reported_as c ≡ Open r m →
    (i : ℕ) (shut : Bool) (q : Request) (ws : List ℕ) →
    any_visit c i shut q ws ≡ any_visit (Base (Open r m)) i shut q ws
unfolding any_visit
open_visit_law (Base b) r m e i shut q ws = ap (λ (x : Call). any_visit (Base x) i shut q ws) e
open_visit_law (OpenAs r' m' k) r m e i shut q ws =
    let er : r' ≡ r = cc in
    let em : m' ≡ m = cc in
    rw (er, em) refl
open_visit_law (Fence k) r m e i shut q ws = clash cc
open_visit_law (Care k) r m e i shut q ws = clash cc

open_fence : (c : AnyCall) (r m : ℕ) → reported_as c ≡ Open r m → (shut : Bool) → fence_after c shut ≡ shut
open_fence (Base b) r m e shut = refl
open_fence (OpenAs r' m' k) r m e shut = refl
open_fence (Fence k) r m e shut = clash cc
open_fence (Care k) r m e shut = refl

open_verbs : (c : AnyCall) (r m : ℕ) → reported_as c ≡ Open r m → (n : ℕ) (a : Answer) → n ≡ n + verbs_of_any c a
unfolding verbs_of_any verbs_of
open_verbs c r m e n a = rw e (sym (ap (λ (k : ℕ). n + k) (by (eqb (said_of (Open r m) a).outcome 12)) ∙ add-zero n))
  where
    by : (x : Bool) → ◌≡◌ {A = ℕ} (when x then 0 else 0) 0
    by true = refl
    by false = refl

-- the visit of the slot i, g being the node that the call looks at, and what it leaves of a site
abbrev pub visit_by : AnyCall → Site → ℕ → ℕ → Visited
visit_by c t i g = any_visit c i (fenced_at t g) (slot_at (inner t) i) t.words

abbrev site_after : AnyCall → Site → ℕ → ℕ → Visited → Site
site_after c t i g v =
    record {
      slots = set t.slots i v.request;
      nodes = set t.nodes i (kept_node (opening_node c) (slot_at (inner t) i) v.request (node_at t i));
      fenced = set t.fenced g (fence_after c (fenced_at t g));
      words = v.words;
    }

-- where a record is played: what is kept, the record that stands at the place, and that nothing stops the run before it
pub record Turning
    (t₀ : Site) (bytes : List ℕ) (at allowance : ℕ) (report₀ : List ℕ) (t : Site) (report map : List ℕ) (place records verbs : ℕ) (c : AnyCall)
    (after : ℕ) :
    Type 0 where
  pub inv : Playing t₀ bytes at allowance report₀ t report map place records verbs
  pub here : next_of bytes place ≡ Record c after
  pub free : halted_of (is_end (next_of bytes place)) (eqb records allowance) (ltb (length report - records * 12) 12) ≡ 0

-- which is so where the code reads a record there, and its test finds nothing that stops the run
pub turning :
    {t₀ : Site} {bytes : List ℕ} {at allowance : ℕ} {report₀ : List ℕ} {t : Site} {report map : List ℕ} {place records verbs : ℕ}
    (p : Playing t₀ bytes at allowance report₀ t report map place records verbs) (c : AnyCall) (after : ℕ) (n : Next) →
    n ≡ next_of bytes place →
    Record c after ≡ next_of bytes place →
    None ≡ but 0 (halted_of (is_end n) (eqb records allowance) (ltb (length report - records * 12) 12)) →
    Turning t₀ bytes at allowance report₀ t report map place records verbs c after
turning {allowance = allowance} {report = report} {records = records} p c after n e r test =
    record {
      inv = p;
      here = sym r;
      free =
          ap (λ (x : Next). halted_of (is_end x) (eqb records allowance) (ltb (length report - records * 12) 12)) (sym e) ∙ none_but 0 _ test;
    }

module _
    {t₀ : Site} {bytes : List ℕ} {at allowance : ℕ} {report₀ : List ℕ} {t : Site} {report map : List ℕ} {place records verbs : ℕ} {c : AnyCall}
    {after : ℕ} (turn : Turning t₀ bytes at allowance report₀ t report map place records verbs c after) where
  -- what the run does at this record
  goes :
      (run_of (allowance - records) (length report₀ - records * 12) bytes place t ≡
      followed c (played_at c t).answer (run_of (allowance - records - 1) (length report₀ - records * 12 - 12) bytes after (site_of (played_at c t)))) ×
      ((0 < allowance - records) × (12 ≤ length report₀ - records * 12))
  goes =
      let p = turn.inv in
      let room = length report₀ - records * 12 in
      let test : halted_of (is_end (next_of bytes place)) (eqb (allowance - records) 0) (ltb room 12) ≡ 0 =
      ap (λ (x : Bool). halted_of (is_end (next_of bytes place)) x (ltb room 12)) (spent_test records allowance p.within) ∙
      ap (λ (k : ℕ). halted_of (is_end (next_of bytes place)) (eqb records allowance) (ltb (k - records * 12) 12)) (sym p.room) ∙ turn.free in
      plays bytes place t room (allowance - records) c after turn.here test

  -- where a record is played the allowance is not spent and an entry fits
  pub turn_bounds :
      (records < allowance) × (records * 12 + 12 ≤ length report₀)
  turn_bounds =
      let a = goes.1.0 in
      let r = goes.1.1 in
      (omega arith, omega (arith, turn.inv.fit))

  -- one record played
  plays_one :
      (i : ℕ) →
      i ≡ aim_of (reported_as c) map →
      (g : ℕ) →
      g ≡ watched_node c (node_at t i) →
      (t' : Site) →
      t' ≡ site_after c t i g (visit_by c t i g) →
      ((j : ℕ) → node_at t' j < 256) →
      length t'.words ≡ length t.words →
      (map' report' : List ℕ) (verbs' : ℕ) →
      map' ≡ marked_of map i (slot_at (inner t) i) (visit_by c t i g).request →
      report' ≡ reported report (records * 12) c (visit_by c t i g) →
      verbs' ≡ verbs + verbs_of_any c (visit_by c t i g).answer →
      Playing t₀ bytes at allowance report₀ t' report' map' after (records + 1) verbs'
  plays_one i aim g watched t' et noded lw map' report' verbs' em er ev =
      let v = visit_by c t i g in
      let answer = v.answer in
      let p = turn.inv in
      let room = length report₀ - records * 12 in
      let aimed : i ≡ aim_at c t = aim ∙ ap (aim_of (reported_as c)) p.mapped in
      let small : i < 256 = rw aimed (aim_small (reported_as c) (map_of t.slots)) in
      let visit : played_at c t ≡ visited_at c t i = any_visit_is_played c t p.long ∙ ap (visited_at c t) (sym aimed) in
      let told : (played_at c t).answer ≡ answer = ap (λ (d : SiteDone). d.answer) visit ∙ ap (λ (n : ℕ). (visit_by c t i n).answer) (sym watched) in
      let left : site_of (played_at c t) ≡ t' = ap site_of visit ∙ ap (λ (n : ℕ). site_after c t i n (visit_by c t i n)) (sym watched) ∙ sym et in
      let d = said_of_any c answer in
      let more : records * 12 + 12 ≤ length report₀ = turn_bounds.1 in
      let front = put_front report report₀ records d p.room more p.kept in
      let fewer : allowance - records - 1 ≡ allowance - (records + 1) = omega arith in
      let shorter : room - 12 ≡ length report₀ - (records + 1) * 12 = omega arith in
      let e = take (records * 12) report in
      let all :
      run_of allowance (length report₀) bytes at t₀ ≡
      joined (so_far (records + 1) verbs' (take ((records + 1) * 12) report'))
      (run_of (allowance - (records + 1)) (length report₀ - (records + 1) * 12) bytes after t') =
      p.whole ∙ ap (λ (w : Whole). joined (so_far records verbs e) w) goes.0 ∙
      one_more_law records verbs e c (played_at c t).answer (run_of (allowance - records - 1) (room - 12) bytes after (site_of (played_at c t))) ∙
      ap
      (λ (a : Answer).
      joined (so_far (records + 1) (verbs + verbs_of_any c a) (e ++ entry_of (said_of_any c a)))
      (run_of (allowance - records - 1) (room - 12) bytes after (site_of (played_at c t))))
      told ∙
      ap
      (λ (u : Site).
      joined (so_far (records + 1) (verbs + verbs_of_any c answer) (e ++ entry_of d)) (run_of (allowance - records - 1) (room - 12) bytes after u))
      left ∙
      ap (λ (k : ℕ). joined (so_far (records + 1) (verbs + verbs_of_any c answer) (e ++ entry_of d)) (run_of k (room - 12) bytes after t')) fewer ∙
      ap
      (λ (k : ℕ).
      joined (so_far (records + 1) (verbs + verbs_of_any c answer) (e ++ entry_of d)) (run_of (allowance - (records + 1)) k bytes after t'))
      shorter ∙
      ap
      (λ (n : ℕ).
      joined (so_far (records + 1) n (e ++ entry_of d)) (run_of (allowance - (records + 1)) (length report₀ - (records + 1) * 12) bytes after t'))
      (sym ev) ∙
      ap
      (λ (f : List ℕ).
      joined (so_far (records + 1) verbs' f) (run_of (allowance - (records + 1)) (length report₀ - (records + 1) * 12) bytes after t'))
      (sym front ∙ ap (take ((records + 1) * 12)) (sym er)) in
      record {
        long = ap (λ (s : Site). length s.slots) et ∙ length-set t.slots i v.request ∙ p.long;
        noded = noded;
        mapped =
            em ∙ ap (λ (m : List ℕ). marked_of m i (slot_at (inner t) i) v.request) p.mapped ∙
            mark_follows_store t.slots p.long i small v.request ∙ ap (λ (s : Site). map_of s.slots) (sym et);
        lent = lw ∙ p.lent;
        room = ap length er ∙ put_long report report₀ records d p.room more p.kept;
        within = let h = turn_bounds.0 in omega arith;
        fit = omega arith;
        few = omega (arith, p.few, verb_le c answer);
        ahead = omega (arith, p.ahead, record_after bytes place c after turn.here);
        kept = rw er (put_kept report report₀ records d p.room more p.kept);
        whole = all;
      }

  -- one record played as the code plays it, by a turn
  pub turns_one :
      (b : Call) →
      b ≡ reported_as c →
      (i : ℕ) →
      i ≡ aim_of b map →
      (g : ℕ) →
      g ≡ watched_node c (node_at t i) →
      (r : Turned) (words' : List ℕ) →
      r ≡ turn_leaves c (visit_by c t i g) →
      words' ≡ (visit_by c t i g).words →
      length words' ≡ length t.words →
      (node : ℕ) (fence : Bool) →
      node < 256 →
      node ≡ kept_node (opening_node c) (slot_at (inner t) i) r.request (node_at t i) →
      fence ≡ fence_after c (fenced_at t g) →
      (map' report' : List ℕ) →
      map' ≡ marked_of map i (slot_at (inner t) i) r.request →
      report' ≡ reported report (records * 12) c (visit_by c t i g) →
      Playing t₀ bytes at allowance report₀
      (record { slots = set t.slots i r.request; nodes = set t.nodes i node; fenced = set t.fenced g fence; words = words' })
      report' map' after (records + 1) (verbs + r.verbs)
  turns_one b alike i aim g watched r words' et ew lw node fence small en ef map' report' em er =
      let v = visit_by c t i g in
      let q = slot_at (inner t) i in
      let got : r.request ≡ v.request = ap (λ (x : Turned). x.request) et in
      plays_one i (aim ∙ ap (λ (x : Call). aim_of x map) alike) g watched _
      (same_site
      (ap (λ (x : Request). set t.slots i x) got)
      (ap (λ (x : ℕ). set t.nodes i x) (en ∙ ap (λ (x : Request). kept_node (opening_node c) q x (node_at t i)) got))
      (ap (λ (x : Bool). set t.fenced g x) ef)
      ew)
      (set_small t.nodes i node small turn.inv.noded) lw map' report' (verbs + r.verbs)
      (em ∙ ap (λ (x : Request). marked_of map i q x) got) er (ap (λ (x : Turned). verbs + x.verbs) et)

  -- one open played: the fences, the words and the count of verbs stay
  pub opens_one :
      (b : Call) →
      b ≡ reported_as c →
      (r m : ℕ) →
      b ≡ Open r m →
      (i : ℕ) →
      i ≡ aim_of b map →
      (g : ℕ) →
      g ≡ watched_node c (node_at t i) →
      (request : Request) →
      request ≡ (any_visit (Base (Open r m)) i (fenced_at t g) (slot_at (inner t) i) t.words).request →
      (node : ℕ) →
      node < 256 →
      node ≡ kept_node (opening_node c) (slot_at (inner t) i) request (node_at t i) →
      (map' report' : List ℕ) →
      map' ≡ marked_of map i (slot_at (inner t) i) request →
      report' ≡ reported report (records * 12) (Base (Open r m)) (any_visit (Base (Open r m)) i (fenced_at t g) (slot_at (inner t) i) t.words) →
      Playing t₀ bytes at allowance report₀
      (record { slots = set t.slots i request; nodes = set t.nodes i node; fenced = t.fenced; words = t.words })
      report' map' after (records + 1) verbs
  opens_one b alike r m opens i aim g watched request eq node small en map' report' em er =
      let q = slot_at (inner t) i in
      let v = visit_by c t i g in
      let opening : reported_as c ≡ Open r m = sym alike ∙ opens in
      let same : any_visit (Base (Open r m)) i (fenced_at t g) q t.words ≡ v = sym (open_visit_law c r m opening i (fenced_at t g) q t.words) in
      let got : request ≡ v.request = eq ∙ ap (λ (x : Visited). x.request) same in
      plays_one i (aim ∙ ap (λ (x : Call). aim_of x map) alike) g watched _
      (same_site
      (ap (λ (x : Request). set t.slots i x) got)
      (ap (λ (x : ℕ). set t.nodes i x) (en ∙ ap (λ (x : Request). kept_node (opening_node c) q x (node_at t i)) got))
      (sym (ap (λ (x : Bool). set t.fenced g x) (open_fence c r m opening (fenced_at t g)) ∙ set-get_or t.fenced g false))
      (sym (any_open_words r m i (fenced_at t g) q t.words) ∙ ap (λ (x : Visited). x.words) same))
      (set_small t.nodes i node small turn.inv.noded) refl map' report' verbs (em ∙ ap (λ (x : Request). marked_of map i q x) got)
      (er ∙ ap (λ (x : Visited). put_of report (records * 12) (said_of (Open r m) x.answer)) same ∙
      ap (λ (x : Call). put_of report (records * 12) (said_of x v.answer)) (sym opening))
      (open_verbs c r m opening verbs v.answer)

  -- one step played that goes on waiting: only the report and the counts change
  pub waits_one :
      (k : ℕ) →
      k ≡ stepped_slot c →
      k < SLOTS →
      (n : ℕ) →
      n ≡ still_ahead (shut_at t k) (slot_at (inner t) k) t.words →
      (n ≡ 0 → ⊥) →
      (report' : List ℕ) →
      report' ≡ put_of report (records * 12) (said_of (Step k) (Told (Waiting n))) →
      Playing t₀ bytes at allowance report₀ t report' map after (records + 1) (verbs + 1)
  waits_one k ek small n en ne report' er =
      let i = aim_of (reported_as c) map in
      let q = slot_at (inner t) i in
      let g = node_at t k in
      let v = visit_by c t i g in
      let step : c ≡ Base (Step k) = is_its_step c k (sym ek) small in
      let there : i ≡ k = ap (λ (x : AnyCall). aim_of (reported_as x) map) step ∙ aims_there k map small in
      let watched : g ≡ watched_node c (node_at t i) = sym (ap (λ (x : AnyCall). watched_node x (node_at t i)) step ∙ ap (node_at t) there) in
      let e = waits_visit c map t.slots (shut_at t k) t.words k n (sym ek) small (sym en) ne in
      let same : v.request ≡ q = ap (λ (x : Visited). x.request) e in
      let told : Told (Waiting n) ≡ v.answer = sym (ap (λ (x : Visited). x.answer) e) in
      let stays : site_after c t i g v ≡ t =
      same_site
      (ap (λ (x : Request). set t.slots i x) same ∙ set-get_or t.slots i free_request)
      (ap (λ (x : Request). set t.nodes i (kept_node (opening_node c) q x (node_at t i))) same ∙
      ap (λ (x : ℕ). set t.nodes i x) (kept_same (opening_node c) (node_at t i) q) ∙ set-get_or t.nodes i 0)
      (ap (λ (x : AnyCall). set t.fenced g (fence_after x (fenced_at t g))) step ∙ set-get_or t.fenced g false)
      (ap (λ (x : Visited). x.words) e) in
      plays_one i refl g watched t (sym stays) turn.inv.noded refl map report' (verbs + 1)
      (map_stays map i q ∙ ap (λ (x : Request). marked_of map i q x) (sym same))
      (er ∙ ap (λ (x : AnyCall). put_of report (records * 12) (said_of_any x (Told (Waiting n)))) (sym step) ∙
      ap (λ (a : Answer). put_of report (records * 12) (said_of_any c a)) told)
      (ap (λ (x : ℕ). verbs + x)
      (sym (waits_verb k n) ∙ ap (λ (x : AnyCall). verbs_of_any x (Told (Waiting n))) (sym step) ∙ ap (verbs_of_any c) told))

-- where the run ends: what has been played so far is the whole
module _
    (b : Board) (words₀ bytes : List ℕ) (at allowance : ℕ) (report₀ : List ℕ) (cur : Board) (words report map : List ℕ) (place records verbs : ℕ)
    (p : Playing (lent_to b words₀) bytes at allowance report₀ (lent_to cur words) report map place records verbs) where
  test_is :
      (h : ℕ) →
      halted_of (is_end (next_of bytes place)) (eqb records allowance) (ltb (length report - records * 12) 12) ≡ h →
      halted_of (is_end (next_of bytes place)) (eqb (allowance - records) 0) (ltb (length report₀ - records * 12) 12) ≡ h
  test_is h e =
      ap (λ (x : Bool). halted_of (is_end (next_of bytes place)) x (ltb (length report₀ - records * 12) 12)) (spent_test records allowance p.within) ∙
      ap (λ (k : ℕ). halted_of (is_end (next_of bytes place)) (eqb records allowance) (ltb (k - records * 12) 12)) (sym p.room) ∙ e

  -- the whole with an ending, as the result has it
  comes :
      (e : Ending) →
      run_of (allowance - records) (length report₀ - records * 12) bytes place (lent_to cur words) ≡ ended (ending_number e) place (lent_to cur words) →
      Comes b words₀ bytes at allowance report₀ (record { ending = e; records = records; bytes = place - at; verbs = verbs; board = cur }) words report
  comes ending ends =
      let front = take (records * 12) report in
      let e : run_of allowance (length report₀) bytes at (lent_to b words₀) ≡ whole_at (ending_number ending) records place verbs (lent_to cur words) front =
      p.whole ∙ ap (joined (so_far records verbs front)) ends ∙ same_whole (add-zero records) (add-zero verbs) (append-nil front) in
      let long : length front ≡ records * 12 = length-take-le (records * 12) report (omega (arith, p.fit, p.room)) in
      record {
        ending = sym (ap (λ (w : Whole). w.ending) e);
        records = sym (ap (λ (w : Whole). w.records) e);
        taken = sym (ap (λ (w : Whole). w.place - at) e);
        verbs = sym (ap (λ (w : Whole). w.verbs) e);
        slots_after = sym (ap (λ (w : Whole). w.slots) e);
        nodes_after = sym (ap (λ (w : Whole). w.nodes) e);
        fenced_after = sym (ap (λ (w : Whole). w.fenced) e);
        words_after = sym (ap (λ (w : Whole). w.words) e);
        report_after = p.kept ∙ ap (λ (k : ℕ). front ++ drop k report₀) (sym long) ∙ sym (ap (report_of report₀) e);
      }

  pub halts_here :
      (e : Ending) (n : Next) →
      n ≡ next_of bytes place →
      Some (ending_number e) ≡ but 0 (halted_of (is_end n) (eqb records allowance) (ltb (length report - records * 12) 12)) →
      Comes b words₀ bytes at allowance report₀ (record { ending = e; records = records; bytes = place - at; verbs = verbs; board = cur }) words report
  halts_here e n stands test =
      let h = some_but 0 _ (ending_number e) test in
      let stops : halted_of (is_end (next_of bytes place)) (eqb records allowance) (ltb (length report - records * 12) 12) ≡ ending_number e =
      ap (λ (x : Next). halted_of (is_end x) (eqb records allowance) (ltb (length report - records * 12) 12)) (sym stands) ∙ sym h.1 in
      comes e
      (halts bytes place (lent_to cur words) (length report₀ - records * 12) (allowance - records) (ending_number e) (test_is (ending_number e) stops)
      (λ z. h.0 (sym h.1 ∙ z)))

  pub leaves_here :
      (e : Ending) (n : Next) →
      n ≡ next_of bytes place →
      None ≡ but 0 (halted_of (is_end n) (eqb records allowance) (ltb (length report - records * 12) 12)) →
      ((c : AnyCall) (next : ℕ) → n ≡ Record c next → ⊥) →
      ending_number e ≡ leaves_of n →
      Comes b words₀ bytes at allowance report₀ (record { ending = e; records = records; bytes = place - at; verbs = verbs; board = cur }) words report
  leaves_here e n stands test none l =
      let free : halted_of (is_end (next_of bytes place)) (eqb records allowance) (ltb (length report - records * 12) 12) ≡ 0 =
      ap (λ (x : Next). halted_of (is_end x) (eqb records allowance) (ltb (length report - records * 12) 12)) (sym stands) ∙ none_but 0 _ test in
      comes e
      (leaves bytes place (lent_to cur words) (length report₀ - records * 12) (allowance - records) (λ c next r. none c next (stands ∙ r)) (test_is 0 free) ∙
      ap (λ (k : ℕ). ended k place (lent_to cur words)) (ap leaves_of (sym stands) ∙ sym l))
