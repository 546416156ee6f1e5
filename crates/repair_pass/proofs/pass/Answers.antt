-- A slot is gone by (`goes_by`) or cared for (`cares_one`), and behind the last one nothing is left (`ends`).
-- Assumes nothing.
use Rattle.std.proofs.Common.{sym, ap, Bool, ◌||◌}
use Rattle.board_rules.specs.declared.Said.{Said}
use Rattle.repair_pass.proofs.Passing.{goes_by, cares_one, ends}
use Rattle.repair_pass.proofs.pass.Goals as goal

pub loop-n-preserved-then-not-is_lost : goal.loop-n-preserved-then-not-is_lost
loop-n-preserved-then-not-is_lost c = let h = c.if-not-is_lost.ensures in let g = c.if-not-is_lost.true in goes_by c.loop-n.invariant c.loop-n-test.true (sym c.if-not-is_lost.ensures)

pub loop-n-preserved : goal.loop-n-preserved
loop-n-preserved c =
    cares_one c.loop-n.invariant c.loop-n-test.true
    (sym c.if-not-is_lost.ensures)
    c.care_visit-answer.result c.care_visit-answer.new.words c.care_visit-answer.ensures.said c.care_visit-answer.ensures.left c.care_visit-answer.auto.words
    c.kept_node.result c.kept_node.type_inv c.kept_node.ensures c.tell-outcome.result.outcome (ap (λ (s : Said). s.outcome) c.tell-outcome.ensures)
    c.put_care-place.result _ c.put_care-place.ensures.after c.put_care-place.ensures.written _ (ap (λ (x : Bool). c.loop-n.progress || x) c.brings_on-progress.ensures)

pub returns : goal.returns
returns c =
    ends c.args.b c.args.words.now c.args.log.now c.args.at c.loop-n.b c.loop-n.words c.loop-n.log c.loop-n.place c.loop-n.cares c.loop-n.progress c.loop-n.n c.loop-n.invariant
    c.loop-n-test.false
