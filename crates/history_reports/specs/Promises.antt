-- What is promised of reports. A statement only: proofs/ has why it holds.
use Rattle.std.specs.Prelude.{ℕ, suc, ◌*◌, ◌<◌, ◌≤◌, ◌≡◌, List, [], ◌∷◌, map, length, get_or, take, drop}
use Rattle.board_call.specs.declared.Call.TheVariants.{Open, Step, Show}
use Rattle.board_call.specs.declared.AnyCall.{AnyCall}
use Rattle.board_call.specs.declared.AnyCall.TheVariants.{Base}
use Rattle.board_nodes.specs.Answers.{said_of_any}
use Rattle.board_nodes.specs.Site.{Site}
use Rattle.run_entry.specs.Entry.{ENTRY, entry_of}
use Rattle.run_entry.specs.Promises.{outcome_in, value_in}
use Rattle.history_promises.specs.Ledger.{waits_for}
use Rattle.history_nodes.specs.History.{AnyMove, fresh_site, site_at, ledger_at, answer_at}
use Rattle.history_nodes.specs.History.AnyMove.{Do}
use Rattle.history_nodes.specs.Promises.{TurnOf, AnyDemand}
use Rattle.run_rules.specs.Promises.{entries_from}
use Rattle.history_reports.specs.Reports.{Runs}

abbrev pub as_moves : List AnyCall → List AnyMove
as_moves cs = map (λ (c : AnyCall). Do c) cs

abbrev pub nth_call : List AnyCall → ℕ → AnyCall
nth_call cs k = get_or cs k (Base (Show 0))

-- The k-th 12 bytes, counted from 0 as calls are here.
abbrev pub nth_entry : List ℕ → ℕ → List ℕ
nth_entry entries k = take ENTRY (drop (ENTRY * k) entries)

-- How many tickets the slot i waits for right after the k-th call, counted from 0.
abbrev pub waits_after : ℕ → List AnyCall → ℕ → ℕ → ℕ
waits_after n calls k i = waits_for (ledger_at n (as_moves (take (suc k) calls))) i

-- The entries are those of a sequence of calls on the fresh board, and the board is the one that these calls leave. The k-th 12 bytes tell the
-- answer to the k-th call after the k calls before it, and there demand 3 holds. D3.8 in bytes: where the outcome is 3, waiting, the call
-- steps a slot or cares for one, and the value is the number of tickets that this slot then waits for.
pub record OfAHistory (n : ℕ) (s : Site) (calls : List AnyCall) (entries : List ℕ) : Type 0 where
  pub board : s ≡ site_at n (as_moves calls)
  pub reported : entries ≡ entries_from (fresh_site n) calls
  pub entry :
      (k : ℕ) →
      k < length calls →
      nth_entry entries k ≡ entry_of (said_of_any (nth_call calls k) (answer_at n (as_moves (take k calls)) (nth_call calls k)))
  pub demand :
      (k : ℕ) →
      AnyDemand n (ledger_at n (as_moves (take k calls))) (site_at n (as_moves (take k calls))) (answer_at n (as_moves (take k calls)))
  pub told_how_many :
      (k : ℕ) →
      k < length calls →
      outcome_in (nth_entry entries k) ≡ 3 →
      (i : ℕ) × TurnOf i (nth_call calls k) × (value_in (nth_entry entries k) ≡ waits_after n calls k i)

-- A writer asks and holds, two readers ask behind it. The second reader's step, the last call, is answered waiting with 1, and 1 is what its
-- slot then waits for.
abbrev behind_a_writer : List AnyCall
behind_a_writer = Base (Open 0 1) ∷ Base (Step 0) ∷ Base (Open 0 0) ∷ Base (Step 1) ∷ Base (Open 0 0) ∷ Base (Step 2) ∷ []

abbrev pub ReaderIsTold1 : Type 0
ReaderIsTold1 =
    (outcome_in (nth_entry (entries_from (fresh_site 1) behind_a_writer) 5) ≡ 3) ×
    (value_in (nth_entry (entries_from (fresh_site 1) behind_a_writer) 5) ≡ 1) ×
    (waits_after 1 behind_a_writer 5 2 ≡ 1)

-- Whatever is played by runs on a fresh board, in however many pieces.
abbrev pub ReportsAreOfHistories : Type 0
ReportsAreOfHistories = (n : ℕ) → 1 ≤ n → n ≤ 4096 → (s : Site) (calls : List AnyCall) (entries : List ℕ) → Runs n s calls entries → OfAHistory n s calls entries
