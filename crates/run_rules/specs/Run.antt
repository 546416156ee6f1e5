-- A run: the records of a schedule played one by one, from a place on, within an allowance of records and the room of a report.
use Rattle.std.specs.Prelude.{ℕ, zero, suc, ◌+◌, ◌-◌, Bool, true, false, List, [], ◌++◌, ltb, length, drop}
use Rattle.agent_request.specs.declared.Request.{Request}
use Rattle.board_call.specs.declared.AnyCall.{AnyCall}
use Rattle.board_nodes.specs.Answers.{said_of_any, verbs_of_any}
use Rattle.board_rules.specs.declared.Answer.{Answer}
use Rattle.board_nodes.specs.Site.{Site, site_of, played_at}
use Rattle.schedule_bytes.specs.Schedule.{next_of}
use Rattle.schedule_bytes.specs.declared.Next.{Next}
use Rattle.schedule_bytes.specs.declared.Next.TheVariants.{Record, End, Unknown, Cut}
use Rattle.run_entry.specs.Entry.{ENTRY, entry_of}

-- Rule 7.4: What a run comes to: the ending number, the records played, the place after them, the verbs sent, the board and the words, and the bytes
-- of the report's entries.
pub record Whole : Type 0 where
  pub ending : ℕ
  pub records : ℕ
  pub place : ℕ
  pub verbs : ℕ
  pub slots : List Request
  pub nodes : List ℕ
  pub fenced : List Bool
  pub words : List ℕ
  pub entries : List ℕ

abbrev pub state_after : Whole → Site
state_after w = record { slots = w.slots; nodes = w.nodes; fenced = w.fenced; words = w.words }

-- Rule 7.2: It ends here, before any record.
abbrev pub ended : ℕ → ℕ → Site → Whole
ended n at s =
    record {
      ending = n;
      records = 0;
      place = at;
      verbs = 0;
      slots = s.slots;
      nodes = s.nodes;
      fenced = s.fenced;
      words = s.words;
      entries = [];
    }

-- Rules 7.3 to 7.5: One record was played, with this answer, and then the rest.
abbrev pub followed : AnyCall → Answer → Whole → Whole
followed c a w =
    record {
      ending = w.ending;
      records = suc w.records;
      place = w.place;
      verbs = verbs_of_any c a + w.verbs;
      slots = w.slots;
      nodes = w.nodes;
      fenced = w.fenced;
      words = w.words;
      entries = entry_of (said_of_any c a) ++ w.entries;
    }

-- Rule 7.2: With the allowance spent: at the end of the schedule 0, else 11.
abbrev pub spent : Next → ℕ → Site → Whole
spent End at s = ended 0 at s
spent (Record c next) at s = ended 11 at s
spent Unknown at s = ended 11 at s
spent Cut at s = ended 11 at s

-- Rules 7.2 and 7.3: Before each record, in this order: schedule at its end, 0; less than 12 report bytes left, 12; unknown kind, 8; body
-- short, 7. Else the call is played, refused or not, and the run goes on.
abbrev pub goes_on : Next → Bool → ℕ → Site → (ℕ → Site → Whole) → Whole
goes_on End short at s rest = ended 0 at s
goes_on Unknown true at s rest = ended 12 at s
goes_on Unknown false at s rest = ended 8 at s
goes_on Cut true at s rest = ended 12 at s
goes_on Cut false at s rest = ended 7 at s
goes_on (Record c next) true at s rest = ended 12 at s
goes_on (Record c next) false at s rest = followed c (played_at c s).answer (rest next (site_of (played_at c s)))

-- Rule 7.1: The run with an allowance, the room that its report has left, the schedule, the place, and the state.
unfoldable pub run_of : ℕ → ℕ → List ℕ → ℕ → Site → Whole
run_of zero room bytes at s = spent (next_of bytes at) at s
run_of (suc allowance) room bytes at s = goes_on (next_of bytes at) (ltb room ENTRY) at s (λ next t. run_of allowance (room - ENTRY) bytes next t)

-- Rule 7.5: The report afterwards: the entries, and past them the bytes as lent.
abbrev pub report_of : List ℕ → Whole → List ℕ
report_of lent w = w.entries ++ drop (length w.entries) lent

-- A run and what a second one, taken up where it stopped, adds.
abbrev pub joined : Whole → Whole → Whole
joined v w =
    record {
      ending = w.ending;
      records = v.records + w.records;
      place = w.place;
      verbs = v.verbs + w.verbs;
      slots = w.slots;
      nodes = w.nodes;
      fenced = w.fenced;
      words = w.words;
      entries = v.entries ++ w.entries;
    }
