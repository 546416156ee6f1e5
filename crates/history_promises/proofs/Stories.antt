-- The five histories, computed.
-- Assumes nothing.
use mathlib.Core.Path.{refl}
use Rattle.agent_ticket.specs.Turn.{turn_of}
use Rattle.agent_ceiling.specs.Ceiling.{clearing_word_of}
use Rattle.agent_rules.specs.Life.{step_sends, release_sends, step_takes, release_takes, asked}
use Rattle.agent_rules.specs.Care.{care_sends, care_takes}
use Rattle.board_slots.specs.Slots.{lowest_free}
use Rattle.board_rules.specs.Records.{refusal_of}
use Rattle.board_rules.specs.Board.{opened, sent, stepped, released}
use Rattle.board_rules.specs.Care.{cared}
use Rattle.history_promises.specs.History.{events, read_off}
use Rattle.history_promises.specs.Stories.{SlowReaderIsGranted, SlowReaderInTheLedger, WriterWaitsForReaders, ReaderStaysBehindWriter, EachIsToldHowMany, SixInTheLedger, NumbersFallWithReleases}
use Rattle.history_promises.specs.Stories.{LostNodeIsCaredFor, LostNodeInTheLedger}

pub slow_reader_is_granted : SlowReaderIsGranted
unfolding events opened sent stepped released refusal_of lowest_free step_sends release_sends step_takes release_takes turn_of clearing_word_of asked
slow_reader_is_granted = refl

pub slow_reader_in_the_ledger : SlowReaderInTheLedger
unfolding events read_off opened sent stepped released refusal_of lowest_free step_sends release_sends step_takes release_takes turn_of clearing_word_of asked
slow_reader_in_the_ledger = (refl, refl)

pub writer_waits_for_readers : WriterWaitsForReaders
unfolding events opened sent stepped released refusal_of lowest_free step_sends release_sends step_takes release_takes turn_of clearing_word_of asked
writer_waits_for_readers = refl

pub reader_stays_behind_writer : ReaderStaysBehindWriter
unfolding events opened sent stepped released refusal_of lowest_free step_sends release_sends step_takes release_takes turn_of clearing_word_of asked
reader_stays_behind_writer = refl

pub each_is_told_how_many : EachIsToldHowMany
unfolding events opened sent stepped released refusal_of lowest_free step_sends release_sends step_takes release_takes turn_of clearing_word_of asked
each_is_told_how_many = refl

pub six_in_the_ledger : SixInTheLedger
unfolding events read_off opened sent stepped released refusal_of lowest_free step_sends release_sends step_takes release_takes turn_of clearing_word_of asked
six_in_the_ledger = (refl, refl)

pub numbers_fall_with_releases : NumbersFallWithReleases
unfolding events opened sent stepped released refusal_of lowest_free step_sends release_sends step_takes release_takes turn_of clearing_word_of asked
numbers_fall_with_releases = refl

pub lost_node_is_cared_for : LostNodeIsCaredFor
unfolding events opened sent stepped cared refusal_of lowest_free step_sends release_sends care_sends step_takes release_takes care_takes turn_of clearing_word_of asked
lost_node_is_cared_for = refl

pub lost_node_in_the_ledger : LostNodeInTheLedger
unfolding events read_off opened sent stepped cared refusal_of lowest_free step_sends release_sends care_sends
    step_takes release_takes care_takes turn_of clearing_word_of asked
lost_node_in_the_ledger = (refl, refl)
