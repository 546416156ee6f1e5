-- The history with a lost node, computed.
-- Assumes nothing.
use mathlib.Core.Path.{refl}
use Rattle.agent_ticket.specs.Turn.{turn_of}
use Rattle.agent_ceiling.specs.Ceiling.{clearing_word_of}
use Rattle.agent_rules.specs.Life.{step_sends, release_sends, step_takes, release_takes, asked}
use Rattle.agent_rules.specs.Care.{care_sends, care_takes}
use Rattle.board_slots.specs.Slots.{lowest_free}
use Rattle.board_rules.specs.Records.{refusal_of}
use Rattle.board_rules.specs.Board.{opened, sent, stepped}
use Rattle.board_rules.specs.Care.{cared}
use Rattle.board_nodes.specs.Site.{opened_by, stepped_at, cared_at, fenced_by}
use Rattle.history_nodes.specs.History.{events_at, read_off_at}
use Rattle.history_nodes.specs.Stories.{LostNodeIsCaredFor, LostNodeInTheLedger}

pub lost_node_is_cared_for : LostNodeIsCaredFor
unfolding events_at opened_by stepped_at cared_at fenced_by opened sent stepped cared refusal_of lowest_free
    step_sends release_sends care_sends step_takes release_takes care_takes turn_of clearing_word_of asked
lost_node_is_cared_for = refl

pub lost_node_in_the_ledger : LostNodeInTheLedger
unfolding events_at read_off_at opened_by stepped_at cared_at fenced_by opened sent stepped cared refusal_of lowest_free
    step_sends release_sends care_sends step_takes release_takes care_takes turn_of clearing_word_of asked
lost_node_in_the_ledger = (refl, refl)
