-- It is the sum of the ones of four parts, each at most 64.
-- Assumes nothing.
use Rattle.std.proofs.Common.{rules, ◌≡◌, ◌∙◌, length, get_or, arith}
use borrow.Author.Tests.{tests}
use lib.Count.{ones}
use Rattle.std.proofs.lemmas.Nat.{ones-le}
use Rattle.std.proofs.lemmas.Iterator.{YieldsList-from_slice, YieldsList-from_map}
use Rattle.std.proofs.lemmas.Iterator.Consumers.{sum_by_from_yields_List, fits_by_from_yields_list}
use Rattle.board_map_read.proofs.Parts.{ones_are}
use Rattle.board_map_read.proofs.ones_in.Goals as goal

pub sum-requires-clause-fits : goal.sum-requires-clause-fits
sum-requires-clause-fits c =
    let long : length c.args.parts.now ≡ 4 = search rules in
    let a = ones-le 64 (get_or c.args.parts.now 0 0) (search rules) in
    let b = ones-le 64 (get_or c.args.parts.now 1 0) (search rules) in
    let d = ones-le 64 (get_or c.args.parts.now 2 0) (search rules) in
    let e = ones-le 64 (get_or c.args.parts.now 3 0) (search rules) in
    fits_by_from_yields_list ones c.args.parts.now c.map.result _ (YieldsList-from_map _ ones (YieldsList-from_slice c.args.parts.now cc) c.map.ensures.closure (λ x r q k. search (rules, tests)))
    (omega (arith, ones_are c.args.parts.now long))

pub returns : goal.returns
returns c =
    sum_by_from_yields_List ones c.args.parts.now c.map.result c.sum.result c.sum.ensures.ran (YieldsList-from_map _ ones (YieldsList-from_slice c.args.parts.now cc) c.map.ensures.closure (λ x r q k. search (rules, tests))) ∙
    ones_are c.args.parts.now (search rules)
