-- Why a report is of a history: a run comes to what its records come to (`RunPlaysItsRecords`), and one run after the other plays the calls of
-- both.
-- Assumes nothing.
use Prim.Native.Nat.{ℕ, zero, suc, ◌+◌, ◌*◌, ◌<◌, ◌≤◌}
use mathlib.Core.Path.{◌≡◌, refl, ap, sym, ◌∙◌}
use mathlib.Core.List.{List, [], ◌∷◌, ◌++◌, append_assoc, map-append}
use native.Mathlib.Omega.{arith}
use lib.ListN.{length, take, drop}
use lib.Seq.{take_at, drop-append-add}
use Rattle.board_call.specs.declared.AnyCall.{AnyCall}
use Rattle.agent_rules.specs.declared.Answer.TheVariants.{WrongPhase, Granted, Waiting, Full, Withdrawn, Released, ClearingDue, Cleared, NotYetClear, Passed, FreedUnasked}
use Rattle.board_rules.specs.Answers.{said_with}
use Rattle.board_nodes.specs.Answers.{said_of_any}
use Rattle.board_rules.specs.declared.Said.{Said}
use Rattle.board_rules.specs.declared.Answer.{Answer}
use Rattle.board_rules.specs.declared.Answer.TheVariants.{Refused, Begun, Opened, Told, Shown, Fenced}
use Rattle.board_nodes.specs.Site.{Site, site_of, played_at}
use Rattle.board_nodes.specs.Leaves.{lent_to}
use Rattle.board_nodes.proofs.Same.{same_site}
use Rattle.run_entry.specs.Entry.{ENTRY, entry_of}
use Rattle.run_entry.specs.Promises.{outcome_in, value_in}
use Rattle.run_entry.proofs.ReadsBack.{entry_reads_back}
use Rattle.schedule_bytes.specs.Schedule.{calls_from}
use Rattle.run_rules.specs.Run.{run_of}
use Rattle.run_rules.specs.Promises.{all_played, entries_from}
use Rattle.run_rules.proofs.Plays.{run_plays_its_records, entry_long, entries_long}
use Rattle.run_play.specs.Comes.{Comes}
use Rattle.run_play.specs.declared.Ran.{Ran}
use Rattle.history_promises.specs.Ledger.{Ledger, blank, waits_for}
use Rattle.history_nodes.specs.History.{fresh_site, after_at, events_at, read_off_at, noted_any, ledger_at, site_at, answer_at}
use Rattle.history_nodes.specs.History.AnyMove.{Do}
use Rattle.history_nodes.specs.Promises.{TurnOf, AnyDemand}
use Rattle.history_nodes.proofs.Demand.{any_demand_3, any_told_few, after_at_both}
use Rattle.history_reports.specs.Reports.{board_of, Runs, no_run, one_more}
use Rattle.history_reports.specs.Promises.{as_moves, nth_call, nth_entry, waits_after, ReportsAreOfHistories}

-- the entry of each call
entry_at :
    (s : Site) (cs : List AnyCall) (k : ℕ) →
    k < length cs →
    nth_entry (entries_from s cs) k ≡ entry_of (said_of_any (nth_call cs k) (played_at (nth_call cs k) (after_at s (as_moves (take k cs)))).answer)
unfolding entries_from after_at
entry_at s [] k h = absurd (omega arith)
entry_at s (c ∷ cs) zero h =
    let d = said_of_any c (played_at c s).answer in
    take_at (entry_of d) (entries_from (site_of (played_at c s)) cs) ENTRY (entry_long d)
entry_at s (c ∷ cs) (suc k) h =
    let d = said_of_any c (played_at c s).answer in
    let rest = entries_from (site_of (played_at c s)) cs in
    let place : ENTRY * suc k ≡ length (entry_of d) + ENTRY * k = omega (arith, entry_long d) in
    ap (λ (n : ℕ). take ENTRY (drop n (entry_of d ++ rest))) place ∙
    ap (take ENTRY) (drop-append-add (entry_of d) rest (ENTRY * k)) ∙
    entry_at (site_of (played_at c s)) cs k (omega arith)

-- the ledger after one call more
read_next :
    (s : Site) (L : Ledger) (cs : List AnyCall) (k : ℕ) → k < length cs →
    read_off_at L (events_at s (as_moves (take (suc k) cs))) ≡
    noted_any (nth_call cs k) (played_at (nth_call cs k) (after_at s (as_moves (take k cs)))).answer (read_off_at L (events_at s (as_moves (take k cs))))
unfolding read_off_at events_at after_at
read_next s L [] k h = absurd (omega arith)
read_next s L (c ∷ cs) zero h = refl
read_next s L (c ∷ cs) (suc k) h = read_next (site_of (played_at c s)) (noted_any c (played_at c s).answer L) cs k (omega arith)

outcome_byte : (d : Said) → d.outcome ≡ outcome_in (entry_of d)
unfolding entry_of
outcome_byte d = refl

-- the outcome 3 says waiting, with some number
says_waiting : (k : ℕ) (a : Answer) → (said_with k a).outcome ≡ 3 → (m : ℕ) × (a ≡ Told (Waiting m))
says_waiting k (Told (Waiting m)) e = (m, refl)
says_waiting k (Refused n) e = absurd (omega arith)
says_waiting k Begun e = absurd (omega arith)
says_waiting k (Opened j) e = absurd (omega arith)
says_waiting k (Shown w) e = absurd (omega arith)
says_waiting k Fenced e = absurd (omega arith)
says_waiting k (Told WrongPhase) e = absurd (omega arith)
says_waiting k (Told Granted) e = absurd (omega arith)
says_waiting k (Told Full) e = absurd (omega arith)
says_waiting k (Told Withdrawn) e = absurd (omega arith)
says_waiting k (Told Released) e = absurd (omega arith)
says_waiting k (Told ClearingDue) e = absurd (omega arith)
says_waiting k (Told Cleared) e = absurd (omega arith)
says_waiting k (Told NotYetClear) e = absurd (omega arith)
says_waiting k (Told Passed) e = absurd (omega arith)
says_waiting k (Told FreedUnasked) e = absurd (omega arith)

-- one sequence after the other
entries_both : (s : Site) (cs ds : List AnyCall) → entries_from s (cs ++ ds) ≡ entries_from s cs ++ entries_from (after_at s (as_moves cs)) ds
unfolding entries_from after_at
entries_both s [] ds = refl
entries_both s (c ∷ cs) ds =
    ap (λ (l : List ℕ). entry_of (said_of_any c (played_at c s).answer) ++ l) (entries_both (site_of (played_at c s)) cs ds) ∙
    sym (append_assoc (entry_of (said_of_any c (played_at c s).answer)) (entries_from (site_of (played_at c s)) cs) (entries_from (after_at (site_of (played_at c s)) (as_moves cs)) ds))

-- calls one after the other are a history's moves
as_moves_law : (s : Site) (cs : List AnyCall) → all_played s cs ≡ after_at s (as_moves cs)
unfolding all_played after_at
as_moves_law s [] = refl
as_moves_law s (c ∷ cs) = as_moves_law (site_of (played_at c s)) cs

-- what the contract says of a run
record Goes (s : Site) (t : Site) (calls : List AnyCall) (entries : List ℕ) : Type 0 where
  board : t ≡ after_at s (as_moves calls)
  reported : entries ≡ entries_from s calls

goes : (s : Site) (bytes : List ℕ) (at allowance : ℕ) (report : List ℕ) (r : Ran) (words' report' : List ℕ) → Comes (board_of s) s.words bytes at allowance report r words' report' → Goes s (lent_to r.board words') (calls_from r.records bytes at) (take (ENTRY * r.records) report')
goes s bytes at allowance report r words' report' c =
    let w = run_of allowance (length report) bytes at s in
    let p = run_plays_its_records allowance (length report) bytes at s in
    let these : calls_from w.records bytes at ≡ calls_from r.records bytes at = ap (λ (k : ℕ). calls_from k bytes at) (sym c.records) in
    let long : length w.entries ≡ ENTRY * r.records =
    ap length p.reported ∙ entries_long s (calls_from w.records bytes at) ∙ ap (λ (n : ℕ). ENTRY * n) (p.count ∙ sym c.records) in
    record {
      board =
          same_site c.slots_after c.nodes_after c.fenced_after c.words_after ∙ p.board ∙ ap (all_played s) these ∙ as_moves_law s (calls_from r.records bytes at);
      reported =
          ap (take (ENTRY * r.records)) c.report_after ∙
          take_at w.entries (drop (length w.entries) report) (ENTRY * r.records) long ∙ p.reported ∙ ap (entries_from s) these;
    }

-- and so of one after the other
both_joined : {a b c d : List ℕ} → a ≡ c → b ≡ d → a ++ b ≡ c ++ d
both_joined p q = cc

both_go : {s t u : Site} {cs ds : List AnyCall} {e f : List ℕ} → Goes s t cs e → Goes t u ds f → Goes s u (cs ++ ds) (e ++ f)
both_go {s} {t} {u} {cs} {ds} p q =
    let moves : as_moves (cs ++ ds) ≡ as_moves cs ++ as_moves ds = map-append (λ (c : AnyCall). Do c) cs ds in
    let there : after_at s (as_moves (cs ++ ds)) ≡ after_at t (as_moves ds) =
    ap (after_at s) moves ∙ after_at_both (as_moves cs) (as_moves ds) s ∙ ap (λ (x : Site). after_at x (as_moves ds)) (sym p.board) in
    record {
      board = q.board ∙ sym there;
      reported = both_joined p.reported (q.reported ∙ ap (λ (x : Site). entries_from x ds) p.board) ∙ sym (entries_both s cs ds);
    }

all_go : {n : ℕ} {s : Site} {calls : List AnyCall} {entries : List ℕ} → Runs n s calls entries → Goes (fresh_site n) s calls entries
unfolding after_at entries_from
all_go no_run = record { board = refl; reported = refl }
all_go (one_more {t = s} before bytes at allowance report r words' report' c) = both_go (all_go before) (goes s bytes at allowance report r words' report' c)

-- every part of what is promised
module _ {n : ℕ} (some : 1 ≤ n) (most : n ≤ 4096) {s : Site} {calls : List AnyCall} {entries : List ℕ} (g : Goes (fresh_site n) s calls entries) where
  told : (k : ℕ) → k < length calls → nth_entry entries k ≡ entry_of (said_of_any (nth_call calls k) (answer_at n (as_moves (take k calls)) (nth_call calls k)))
  told k h = ap (λ (l : List ℕ). nth_entry l k) g.reported ∙ entry_at (fresh_site n) calls k h

  holds : (k : ℕ) → AnyDemand n (ledger_at n (as_moves (take k calls))) (site_at n (as_moves (take k calls))) (answer_at n (as_moves (take k calls)))
  holds k = any_demand_3 n some most (as_moves (take k calls))

  how_many :
      (k : ℕ) → k < length calls → outcome_in (nth_entry entries k) ≡ 3 →
      (i : ℕ) × TurnOf i (nth_call calls k) × (value_in (nth_entry entries k) ≡ waits_after n calls k i)
  how_many k h three =
      let c = nth_call calls k in
      let here = as_moves (take k calls) in
      let waits = says_waiting _ (answer_at n here c) (outcome_byte _ ∙ ap outcome_in (sym (told k h)) ∙ three) in
      let m = waits.0 in
      let who = (holds k).told_how_many c m waits.1 in
      let few = any_told_few n some most here c m waits.1 in (
        who.0,
        who.1,
        ap value_in (told k h ∙ ap (λ (a : Answer). entry_of (said_of_any c a)) waits.1) ∙
            (entry_reads_back (said_of_any c (Told (Waiting m))) (omega arith)).value ∙
            who.2 ∙
            ap (λ (a : Answer). waits_for (noted_any c a (ledger_at n here)) who.0) (sym waits.1) ∙
            ap (λ (L : Ledger). waits_for L who.0) (sym (read_next (fresh_site n) blank calls k h)),
      )

pub reports_are_of_histories : ReportsAreOfHistories
reports_are_of_histories n some most s calls entries runs =
    let g = all_go runs in
    record { board = g.board; reported = g.reported; entry = told some most g; demand = holds some most g; told_how_many = how_many some most g }
