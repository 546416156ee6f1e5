-- It is the first part with a zero that `position` finds.
-- Assumes nothing.
use Rattle.std.proofs.Common.{rules, ℕ, ◌≡◌, sym, ◌+◌, ◌*◌, ◌-◌, ◌^◌, ◌<◌, List, length, get_or, Option, None, Some, IfSome, IfNone}
use borrow.Author.Tests.{tests}
use lib.Count.{count_trailing_zeros}
use Rattle.std.proofs.lemmas.Iterator.{YieldsList-from_slice}
use Rattle.std.proofs.lemmas.Iterator.Search.{position_from_yields_List}
use Rattle.common.specs.Choice.{but}
use Rattle.board_slots.specs.Slots.{SLOTS}
use Rattle.board_slots.specs.Map.{ALL, lowest_zero}
use Rattle.board_map_read.proofs.Parts.{has_zero, first, lowest_none, lowest_some}
use Rattle.board_map_read.proofs.with_a_zero.Goals as goal

module _ (m : List ℕ) (long : length m ≡ 4) where
  found : (r : Option ℕ) → r ≡ first m → ((k : ℕ) → get_or m k 0 < 2 ^ 64) → IfSome r (λ k. but SLOTS (lowest_zero m) ≡ Some (64 * k + count_trailing_zeros 64 (ALL - get_or m k 0)))
  found None e fits = tt
  found (Some k) e fits = sym (lowest_some m k long (sym e) (fits k))

  nowhere : (r : Option ℕ) → r ≡ first m → IfNone r (but SLOTS (lowest_zero m) ≡ None)
  nowhere None e = sym (lowest_none m long (sym e))
  nowhere (Some k) e = tt

pub returns-clause-first : goal.returns-clause-first
returns-clause-first c =
    let p = position_from_yields_List has_zero _ _ c.position.result c.position.ensures.ran (YieldsList-from_slice c.args.parts.now cc) (λ x b q k. search (rules, tests)) in
    found c.args.parts.now (search rules) c.position.result p (λ k. search rules)

pub returns-clause-none : goal.returns-clause-none
returns-clause-none c =
    let p = position_from_yields_List has_zero _ _ c.position.result c.position.ensures.ran (YieldsList-from_slice c.args.parts.now cc) (λ x b q k. search (rules, tests)) in
    nowhere c.args.parts.now (search rules) c.position.result p
