-- The rows hold: the definitions compute each.
-- Assumes nothing.
use mathlib.Core.Path.{refl}
use Rattle.agent_ticket.specs.Turn.{turn_of}
use Rattle.agent_ceiling.specs.Ceiling.{clearing_word_of}
use Rattle.agent_rules.specs.Life.{step_sends, release_sends, step_takes, release_takes, asked}
use Rattle.agent_rules.specs.Care.{care_sends, care_takes}
use Rattle.board_slots.specs.Slots.{lowest_free}
use Rattle.board_rules.specs.Answers.{verbs_of}
use Rattle.board_rules.specs.Records.{refusal_of}
use Rattle.board_rules.specs.Board.{opened, sent, stepped, released, shown, shown_of}
use Rattle.board_rules.specs.Care.{cared}
use Rattle.board_nodes.specs.Site.{opened_by, stepped_at, released_at, cared_at, fenced_by, shown_at, begun_at}
use Rattle.board_nodes.specs.Answers.{verbs_of_any}
use Rattle.board_nodes.specs.Examples.{RowsHold}

pub rows_hold : RowsHold
unfolding opened_by stepped_at released_at cared_at fenced_by shown_at begun_at verbs_of_any verbs_of
    opened sent stepped released shown shown_of cared refusal_of lowest_free
    step_sends release_sends care_sends step_takes release_takes care_takes turn_of clearing_word_of asked
rows_hold = ((refl, refl), (refl, refl), (refl, refl), (refl, refl), refl, refl)
