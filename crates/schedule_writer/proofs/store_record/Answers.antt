-- Kind and fields are taken off the record's bytes one by one, and each is stored.
-- Assumes nothing.
use Rattle.std.proofs.Common.{arith}
use Rattle.schedule_writing.specs.Writing.{length_of}
use Rattle.schedule_writer.proofs.Fields.{together, is_the_record}
use Rattle.schedule_writer.proofs.store_record.Goals as goal

pub split_at_mut-kind-requires : goal.split_at_mut-kind-requires
unfolding length_of
split_at_mut-kind-requires c = omega (arith, c.requires)

pub split_at_mut-one-requires : goal.split_at_mut-one-requires
unfolding length_of
split_at_mut-one-requires c = let all = together c.args.p _ c.widths_of.ensures in omega arith

pub split_at_mut-two-requires : goal.split_at_mut-two-requires
unfolding length_of
split_at_mut-two-requires c = let all = together c.args.p _ c.widths_of.ensures in omega arith

pub split_at_mut-three-requires : goal.split_at_mut-three-requires
unfolding length_of
split_at_mut-three-requires c = let all = together c.args.p _ c.widths_of.ensures in omega arith

pub returns : goal.returns
unfolding length_of
returns c =
    let all = together c.args.p _ c.widths_of.ensures in
    let three = c.split_at_mut-three.ensures in
    is_the_record c.args.p _ c.widths_of.ensures _ _ _ _ _ _ _ _ c.split_at_mut-kind.ensures.front_len
    (c.store.ensures, c.split_at_mut-one.ensures.front_len)
    (c.store-2.ensures, c.split_at_mut-two.ensures.front_len)
    (c.store-3.ensures, three.front_len)
    (omega arith)
