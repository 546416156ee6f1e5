-- The table of numbers and outcomes holds: the definitions compute each row.
-- Assumes nothing.
use mathlib.Core.Path.{refl}
use Rattle.agent_ticket.specs.Turn.{turn_of}
use Rattle.agent_ceiling.specs.Ceiling.{clearing_word_of}
use Rattle.agent_rules.specs.Life.{step_sends, release_sends, step_takes, release_takes, asked}
use Rattle.board_slots.specs.Slots.{lowest_free}
use Rattle.board_rules.specs.Records.{refusal_of}
use Rattle.board_rules.specs.Board.{begun, opened, sent, stepped, released, shown, shown_of}
use Rattle.board_rules.specs.Examples.{RowsHold}

pub rows_hold : RowsHold
unfolding opened sent stepped released shown shown_of begun refusal_of lowest_free step_sends release_sends step_takes release_takes turn_of clearing_word_of asked
rows_hold = (refl, refl)
