-- The record stands in the place of what the buffer had there.
-- Assumes nothing.
use Rattle.std.proofs.Common.{◌≡◌, ◌+◌, ◌≤◌, ap, ◌∙◌, arith, rules, length}
use Rattle.std.proofs.lemmas.List.Edits.{sets}
use Rattle.schedule_writing.specs.Writing.{record_of, length_of, writing_of}
use Rattle.schedule_writer.proofs.Fields.{in_place}
use Rattle.schedule_writer.proofs.lay.Goals as goal

pub returns-clause-written : goal.returns-clause-written
unfolding length_of writing_of
returns-clause-written c =
    let s = c.args.buffer.now in
    let at = c.args.at in
    let p = c.args.p in
    let ys = c.store_record.new.bytes in
    let room : at + 1 + c.in_ok-body.body ≤ length s = search rules in
    let long = c.store_record.auto.bytes in
    let written : sets s at (record_of p) ≡ (writing_of s at p).bytes = search rules in
    in_place s ys at _ (search rules) (omega arith) ∙ ap (sets s at) c.store_record.ensures ∙ written
