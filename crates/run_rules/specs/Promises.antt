-- What is promised of runs. Statements only: proofs/ has why each holds.
use Rattle.std.specs.Prelude.{ℕ, zero, ◌+◌, ◌-◌, ◌*◌, ◌<◌, ◌≡◌, Bool, true, false, ◌↔◌, List, [], ◌∷◌, ◌++◌, eqb, ltb, length, take, drop}
use Rattle.common.specs.Table.{Line, line, Gives, NoneApplies}
use Rattle.board_call.specs.declared.AnyCall.{AnyCall}
use Rattle.board_nodes.specs.Answers.{said_of_any, verbs_of_any}
use Rattle.board_nodes.specs.Site.{Site, site_of, played_at}
use Rattle.schedule_bytes.specs.Schedule.{next_of, calls_from, place_behind}
use Rattle.schedule_bytes.specs.declared.Next.{Next}
use Rattle.schedule_bytes.specs.declared.Next.TheVariants.{Record, End, Unknown, Cut}
use Rattle.run_entry.specs.Entry.{ENTRY, entry_of}
use Rattle.run_rules.specs.Run.{Whole, run_of, state_after, report_of, joined}

-- The board and the words after some calls, one after the other;
unfoldable pub all_played : Site → List AnyCall → Site
all_played s [] = s
all_played s (c ∷ cs) = all_played (site_of (played_at c s)) cs

-- their entries, each telling the answer to its call on the board that the calls before it left;
unfoldable pub entries_from : Site → List AnyCall → List ℕ
entries_from s [] = []
entries_from s (c ∷ cs) = entry_of (said_of_any c (played_at c s).answer) ++ entries_from (site_of (played_at c s)) cs

-- and how many verbs they sent.
unfoldable pub verbs_from : Site → List AnyCall → ℕ
verbs_from s [] = zero
verbs_from s (c ∷ cs) = verbs_of_any c (played_at c s).answer + verbs_from (site_of (played_at c s)) cs

-- Demand D1.4: a run comes to what its records come to, played one after the other, and to nothing else. It has played as many records as it says,
-- the first ones from its place on; board and words, entries, verbs and the place are those that these calls leave.
pub record PlaysItsRecords (bytes : List ℕ) (at : ℕ) (s : Site) (w : Whole) : Type 0 where
  pub count : length (calls_from w.records bytes at) ≡ w.records
  pub board : state_after w ≡ all_played s (calls_from w.records bytes at)
  pub reported : w.entries ≡ entries_from s (calls_from w.records bytes at)
  pub sent : w.verbs ≡ verbs_from s (calls_from w.records bytes at)
  pub stands : w.place ≡ place_behind w.records bytes at

-- Of every run, whatever it ends with: with any allowance and room, on any schedule, from any place and on any board.
abbrev pub RunPlaysItsRecords : Type 0
RunPlaysItsRecords = (a room : ℕ) (bytes : List ℕ) (at : ℕ) (s : Site) → PlaysItsRecords bytes at s (run_of a room bytes at s)

abbrev pub is_unknown : Next → Bool
is_unknown Unknown = true
is_unknown End = false
is_unknown (Record c next) = false
is_unknown Cut = false

abbrev pub is_cut : Next → Bool
is_cut Cut = true
is_cut End = false
is_cut (Record c next) = false
is_cut Unknown = false

abbrev pub at_end : Next → Bool
at_end End = true
at_end (Record c next) = false
at_end Unknown = false
at_end Cut = false

-- Rule 7.2: what a run looks at before each record, in this order: the end of the schedule, the allowance, the room, the kind, the body.
abbrev pub end_lines : Next → Bool → Bool → List Line
end_lines next spent short = line 0 (at_end next) ∷ line 11 spent ∷ line 12 short ∷ line 8 (is_unknown next) ∷ line 7 (is_cut next) ∷ []

-- Demand D1.2: a run ends with the number n exactly when these lines give n at the place, with the allowance and in the room that its records
-- left;
abbrev pub EndsExactly : Type 0
EndsExactly =
    (a room : ℕ) (bytes : List ℕ) (at : ℕ) (s : Site) (n : ℕ) →
    let w = run_of a room bytes at s in
    (w.ending ≡ n) ↔
    Gives n (end_lines (next_of bytes w.place) (eqb (a - w.records) 0) (ltb (room - ENTRY * w.records) ENTRY))

-- and it plays a record only where none of them applies: so never more records than its allowance, nor more than its report has room for.
abbrev pub PlaysOnlyWhereNoneEndsIt : Type 0
PlaysOnlyWhereNoneEndsIt =
    (a room : ℕ) (bytes : List ℕ) (at : ℕ) (s : Site) (k : ℕ) →
    k < (run_of a room bytes at s).records →
    NoneApplies (end_lines (next_of bytes (place_behind k bytes at)) (eqb (a - k) 0) (ltb (room - ENTRY * k) ENTRY))

-- Rule 7.5: the report afterwards has the entries in front, and behind them every byte as it was lent.
pub record Reports (report : List ℕ) (w : Whole) : Type 0 where
  pub long : length (report_of report w) ≡ length report
  pub entries : take (ENTRY * w.records) (report_of report w) ≡ w.entries
  pub behind : drop (ENTRY * w.records) (report_of report w) ≡ drop (ENTRY * w.records) report

abbrev pub ReportStaysBehind : Type 0
ReportStaysBehind = (a : ℕ) (report bytes : List ℕ) (at : ℕ) (s : Site) → Reports report (run_of a (length report) bytes at s)

-- A run that stops, for whatever reason, and is taken up again at its place gives the same board, words, entries and counts as one long run.
abbrev pub TakenUpAgain : Type 0
TakenUpAgain =
    (a room b room' : ℕ) (bytes : List ℕ) (at : ℕ) (s : Site) →
    run_of ((run_of a room bytes at s).records + b) (ENTRY * (run_of a room bytes at s).records + room') bytes at s ≡
    joined (run_of a room bytes at s) (run_of b room' bytes (run_of a room bytes at s).place (state_after (run_of a room bytes at s)))
