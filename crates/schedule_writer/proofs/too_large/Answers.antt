-- Its tests are those of `too_large`, field by field; each field is short.
-- Assumes nothing.
use Rattle.std.proofs.Common.{sym, ◌∙◌, arith}
use Rattle.schedule_writer.proofs.Fields.{three_fields, together, by_the_first, by_the_second, by_the_third}
use Rattle.schedule_writer.proofs.too_large.Goals as goal
use Rattle.schedule_writer.proofs.too_large.Goals.{then-exceeds, else-exceeds}

pub exceeds-requires : goal.exceeds-requires
exceeds-requires c =
    let all = together c.args.p _ c.widths_of.ensures in
    let short = (three_fields c.args.p.kind).short in
    omega arith

pub exceeds-requires-else-exceeds : goal.exceeds-requires-else-exceeds
exceeds-requires-else-exceeds c =
    let all = together c.args.p _ c.widths_of.ensures in
    let short = (three_fields c.args.p.kind).short in
    omega arith

pub exceeds-requires-else-exceeds-2 : goal.exceeds-requires-else-exceeds-2
exceeds-requires-else-exceeds-2 c =
    let all = together c.args.p _ c.widths_of.ensures in
    let short = (three_fields c.args.p.kind).short in
    omega arith

pub returns-then-exceeds-2 : goal.returns-then-exceeds-2
returns-then-exceeds-2 c =
    let w = c.widths_of in
    let t = c.if-exceeds-2.true in
    t ∙
    elim c.if-exceeds.branch [
      | then-exceeds b ↦ by_the_first c.args.p w.result w.ensures (sym c.exceeds.ensures ∙ b.if-exceeds.true)
      | else-exceeds b ↦ by_the_second c.args.p w.result w.ensures (sym c.exceeds.ensures ∙ b.if-exceeds.false) (sym b.exceeds-else-exceeds.ensures ∙ sym b.value-is ∙ t)
    ]

pub returns-else-exceeds-2 : goal.returns-else-exceeds-2
returns-else-exceeds-2 c =
    let w = c.widths_of in
    let f = c.if-exceeds-2.false in
    elim c.if-exceeds.branch [
      | then-exceeds b ↦ (cc)
      | else-exceeds b ↦
          c.exceeds-else-exceeds-2.ensures ∙
          by_the_third c.args.p w.result w.ensures (sym c.exceeds.ensures ∙ b.if-exceeds.false) (sym b.exceeds-else-exceeds.ensures ∙ sym b.value-is ∙ f)
    ]
