use Rattle.std.proofs.Common.{rules, arith, ap, ◌∙◌, length}
use Rattle.std.proofs.lemmas.Fmt.{length-decimal-le}
use Rattle.std.proofs.lemmas.List.{length_push}
use Rattle.program_print.proofs.put_line.Goals as goal

pub write_digits-from-requires : goal.write_digits-from-requires
write_digits-from-requires c =
    let short = length-decimal-le 20 c.in-Some.number.now (omega arith) (omega arith) (search rules) in
    let left = ap length c.in-Some.ensures.steps ∙ length_push _ _ in (omega (arith, short, left), search rules)

pub loop-number-preserved : goal.loop-number-preserved
loop-number-preserved c =
    let short = length-decimal-le 20 c.in-Some.number.now (omega arith) (omega arith) (search rules) in
    let left = ap length c.in-Some.ensures.steps ∙ length_push _ _ in (omega arith, omega (arith, short, left))
