-- A pass keeps what is kept while it goes on (`goes_on_law`) or is the last (`is_last`), and behind the last that the log has room for none is made
-- (`cut_off`).
-- Assumes nothing.
use Rattle.std.proofs.Common.{refl, ◌<◌, ◌^◌, length, rules, arith}
use borrow.Author.Tests.{not-true, not-false}
use Rattle.board_nodes.specs.Leaves.{lent_to}
use Rattle.repair_all.proofs.Repairing.{begins, bounds, few_more, goes_on_law, is_last, cut_off}
use Rattle.repair_all.proofs.repair.Goals as goal

pub loop-init : goal.loop-init
loop-init c = (begins (lent_to c.args.b c.args.words.now) c.args.log.now, refl)

pub overflow_add-cares : goal.overflow_add-cares
overflow_add-cares c =
    let l = c.loop in
    let p = c.pass-made in
    let bound = bounds c.args.b c.args.words.now c.args.log.now l.b l.words l.log l.cares l.counter l.invariant.0 c.loop-test.true in
    let few = few_more c.args.b c.args.words.now c.args.log.now l.b l.words l.log l.cares l.counter l.invariant.0 c.loop-test.true p.result
    p.new.words p.new.log p.ensures in
    let small : length c.args.log.now < 2 ^ 64 = search rules in omega (arith, bound, few, small)

pub returns-then-not-made : goal.returns-then-not-made
returns-then-not-made c =
    let l = c.loop in
    let p = c.pass-made in
    is_last c.args.b c.args.words.now c.args.log.now l.b l.words l.log l.cares l.counter l.invariant.0 c.loop-test.true p.result
    p.new.words p.new.log p.ensures (not-true _ c.if-not-made.true)

pub loop-preserved : goal.loop-preserved
loop-preserved c =
    let l = c.loop in
    let p = c.pass-made in (
      goes_on_law c.args.b c.args.words.now c.args.log.now l.b l.words l.log l.cares l.counter l.invariant.0 c.loop-test.true p.result
          p.new.words p.new.log p.ensures p.auto.words p.auto.log (not-false _ c.if-not-made.false),
      l.invariant.1,
    )

pub returns-after-loop : goal.returns-after-loop
returns-after-loop c =
    let l = c.loop in
    cut_off c.args.b c.args.words.now c.args.log.now l.b l.words l.log l.cares l.counter l.invariant.0 c.loop-test.false l.invariant.1
