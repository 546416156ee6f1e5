-- The rows hold: the definitions compute each, over the two slots that the tables have at most (`short_passes_law`).
-- Assumes nothing.
use Prim.Native.Nat.{◌≤◌}
use mathlib.Core.Path.{◌≡◌, refl, ap, ◌∙◌}
use mathlib.Core.List.{List, [], ◌∷◌, map}
use native.Mathlib.Omega.{arith}
use lib.ListN.{length}
use Rattle.agent_ticket.specs.Turn.{turn_of}
use Rattle.agent_rules.specs.Life.{step_sends, release_sends, step_takes, release_takes}
use Rattle.agent_rules.specs.Care.{care_sends, care_takes}
use Rattle.board_rules.specs.Care.{cared}
use Rattle.board_nodes.specs.Site.{cared_at}
use Rattle.repair_rules.specs.Repair.{Cared, Tended, pass_from, PASSES, repair_of}
use Rattle.repair_rules.specs.Examples.{Row, rows, RowsHold}
use Rattle.repair_rules.proofs.Short.{short_passes, short_passes_law}

abbrev computed : List Row → List (List Cared)
computed rs = map (λ (r : Row). (short_passes 2 PASSES r.site).cares) rs

abbrev Short : List Row → Type 0
Short [] = Unit {0}
Short (r ∷ rs) = (length r.site.slots ≤ 2) × Short rs

all_short : (rs : List Row) → Short rs → map (λ (r : Row). (repair_of r.site).cares) rs ≡ computed rs
all_short [] s = refl
all_short (r ∷ rs) s =
    ap (λ (w : Tended). w.cares ∷ map (λ (x : Row). (repair_of x.site).cares) rs) (short_passes_law 2 254 refl PASSES r.site s.0) ∙
    ap (λ (l : List (List Cared)). (short_passes 2 PASSES r.site).cares ∷ l) (all_short rs s.1)

rows_compute : computed rows ≡ map (λ (r : Row). r.told) rows
unfolding pass_from short_passes cared_at cared care_sends care_takes step_sends release_sends step_takes release_takes turn_of
rows_compute = refl

pub rows_hold : RowsHold
rows_hold = all_short rows (omega arith, (omega arith, (omega arith, (omega arith, (omega arith, (omega arith, tt)))))) ∙ rows_compute
