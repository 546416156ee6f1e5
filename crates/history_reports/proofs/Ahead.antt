-- The entry of a reader behind a writer and a reader, computed. It stands by itself so that a wrong number is named before any proof.
-- Assumes nothing.
use mathlib.Core.Path.{refl}
use Rattle.agent_ticket.specs.Turn.{turn_of}
use Rattle.agent_ceiling.specs.Ceiling.{clearing_word_of}
use Rattle.agent_rules.specs.Life.{step_sends, release_sends, step_takes, release_takes, asked}
use Rattle.board_slots.specs.Slots.{lowest_free}
use Rattle.board_rules.specs.Records.{refusal_of}
use Rattle.board_rules.specs.Board.{opened, sent, stepped, released}
use Rattle.board_nodes.specs.Site.{opened_by, stepped_at}
use Rattle.run_entry.specs.Entry.{entry_of}
use Rattle.run_rules.specs.Promises.{entries_from}
use Rattle.history_promises.specs.Tickets.{counted}
use Rattle.history_nodes.specs.History.{events_at, read_off_at}
use Rattle.history_reports.specs.Promises.{ReaderIsTold1}

pub reader_is_told_1 : ReaderIsTold1
unfolding entries_from events_at read_off_at opened_by stepped_at opened sent stepped released refusal_of lowest_free step_sends release_sends step_takes release_takes turn_of clearing_word_of asked counted entry_of
reader_is_told_1 = (refl, refl, refl)
