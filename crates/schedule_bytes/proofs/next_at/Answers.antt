-- The four cases are those of `next_of`: only the record's needs a word, since it is read in a slice that begins behind its kind.
-- Assumes nothing.
use Rattle.std.proofs.Common.{arith}
use Rattle.schedule_bytes.proofs.Fields.{record_at}
use Rattle.schedule_bytes.proofs.next_at.Goals as goal

pub returns : goal.returns
returns c =
    let found = c.in-Some.ensures.lookup in
    record_at c.args.s.now c.args.at c.in-Some.field-0.now found.3.0 (found.3.1 0) c.in-Some-body.n c.in-Some-body.ensures (omega arith) c.call_at.result c.call_at.ensures
