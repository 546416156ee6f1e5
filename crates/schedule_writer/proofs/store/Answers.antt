-- A turn stores the lowest byte and leaves the others; when none is left all are stored.
-- Assumes nothing.
use Rattle.schedule_writer.proofs.Fields.{byte_stored, all_stored}
use Rattle.schedule_writer.proofs.store.Goals as goal

pub loop-byte-preserved : goal.loop-byte-preserved
loop-byte-preserved c =
    let l = c.loop-byte in
    byte_stored l.field _ l.auto.field l.byte-index l.rest _ l.invariant c.loop-byte-test.true

pub returns : goal.returns
returns c =
    let l = c.loop-byte in
    all_stored l.field _ l.auto.field l.byte-index l.rest _ l.invariant c.loop-byte-test.false
