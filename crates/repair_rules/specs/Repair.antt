-- The repair of a board: care calls over all slots in use of fenced nodes, lowest first, in passes, until a pass brings nothing on.
use Rattle.std.specs.Prelude.{ℕ, zero, suc, Bool, false, not, ◌&&◌, ◌||◌, List, [], ◌∷◌, ◌++◌, eqb}
use Rattle.common.specs.Choice.{when◌then◌else◌}
use Rattle.agent_request.specs.Request.{in_use}
use Rattle.board_slots.specs.Slots.{SLOTS}
use Rattle.board_call.specs.declared.AnyCall.TheVariants.{Care}
use Rattle.board_rules.specs.Board.{slot_at}
use Rattle.board_nodes.specs.Site.{Site, site_of, inner, shut_at, played_at}
use Rattle.board_nodes.specs.Answers.{said_of_any}

-- Rule 8.6: One care as it is told: the slot, the phase that its request had, and the outcome.
pub record Cared : Type 0 where
  pub slot : ℕ
  pub phase : ℕ
  pub outcome : ℕ

-- What cares come to: the site after them, and each of them in order.
pub record Tended : Type 0 where
  pub site : Site
  pub cares : List Cared

abbrev pub untended : Site → Tended
untended t = record { site = t; cares = [] }

abbrev pub and_then : List Cared → Tended → Tended
and_then cs p = record { site = p.site; cares = cs ++ p.cares }

-- Rule 8.5: A slot is cared for if it is in use and its node is fenced.
abbrev pub is_lost : Site → ℕ → Bool
is_lost t i = in_use (slot_at (inner t) i) && shut_at t i

abbrev pub told_of : ℕ → Site → Cared
told_of i t = record { slot = i; phase = (slot_at (inner t) i).phase; outcome = (said_of_any (Care i) (played_at (Care i) t).answer).outcome }

-- Rule 8.5: A pass over k slots from the slot i on, lowest first,
unfoldable pub pass_from : ℕ → ℕ → Site → Tended
pass_from zero i t = untended t
pass_from (suc k) i t =
    when is_lost t i
    then and_then (told_of i t ∷ []) (pass_from k (suc i) (site_of (played_at (Care i) t)))
    else pass_from k (suc i) t

-- and over all.
abbrev pub pass_of : Site → Tended
pass_of t = pass_from SLOTS 0 t

-- Rule 8.5: A care brings something on unless it is waiting, 3, or not yet clear, 9; a refused one, with outcome 0, does not either.
abbrev pub brings_on : Cared → Bool
brings_on c = not (eqb c.outcome 0 || (eqb c.outcome 3 || eqb c.outcome 9))

abbrev pub some_bring_on : List Cared → Bool
some_bring_on [] = false
some_bring_on (c ∷ cs) = brings_on c || some_bring_on cs

-- Rule 8.5: Passes until one brings nothing on, that one too; at most so many.
unfoldable pub passes_of : ℕ → Site → Tended
passes_of zero t = untended t
passes_of (suc n) t = when some_bring_on (pass_of t).cares then and_then (pass_of t).cares (passes_of n (pass_of t).site) else pass_of t

-- Rule 8.5: At most three cares bring a slot on, from Waiting to Held, from Held to Clearing, from Clearing to free. So among 3 times 256 passes and one
-- more there is one that brings nothing on: `RepairEnds` (Promises).
abbrev pub PASSES : ℕ
PASSES = 769

abbrev pub repair_of : Site → Tended
repair_of t = passes_of PASSES t
