-- The table of runs holds: the definitions compute each row.
-- Assumes nothing.
use mathlib.Core.Path.{refl}
use Rattle.agent_ticket.specs.Turn.{turn_of}
use Rattle.agent_ceiling.specs.Ceiling.{clearing_word_of}
use Rattle.agent_rules.specs.Life.{step_sends, release_sends, step_takes, release_takes, asked}
use Rattle.agent_rules.specs.Care.{care_sends, care_takes}
use Rattle.board_slots.specs.Slots.{lowest_free}
use Rattle.board_rules.specs.Records.{refusal_of}
use Rattle.board_rules.specs.Board.{opened, sent, stepped, released, shown, shown_of}
use Rattle.board_rules.specs.Care.{cared}
use Rattle.board_nodes.specs.Site.{opened_by, stepped_at, released_at, shown_at, fenced_by, cared_at}
use Rattle.run_entry.specs.Entry.{entry_of}
use Rattle.board_rules.specs.Answers.{verbs_of}
use Rattle.board_nodes.specs.Answers.{verbs_of_any}
use Rattle.schedule_kinds.specs.Kinds.{widths_of, body_of, call_of}
use Rattle.schedule_bytes.specs.Schedule.{number_at, numbers_at, call_at, next_of}
use Rattle.run_rules.specs.Run.{run_of}
use Rattle.run_rules.specs.Examples.{RowsHold}

pub rows_hold : RowsHold
unfolding run_of next_of call_at call_of numbers_at number_at body_of widths_of opened_by stepped_at released_at shown_at fenced_by cared_at
    opened sent stepped released shown shown_of cared refusal_of lowest_free
    step_sends release_sends care_sends step_takes release_takes care_takes turn_of clearing_word_of asked entry_of verbs_of verbs_of_any
rows_hold = refl
