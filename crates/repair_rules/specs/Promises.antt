-- What is promised of the repair of a board, whatever stands in it. Statements only: proofs/ has why each holds.
use Rattle.std.specs.Prelude.{ℕ, ◌+◌, ◌/◌, ◌≤◌, ◌≡◌, true, false, List, length, get_or}
use Rattle.agent_request.specs.Request.{free_request}
use Rattle.board_slots.specs.Slots.{SLOTS}
use Rattle.board_call.specs.declared.AnyCall.TheVariants.{Care}
use Rattle.board_nodes.specs.Site.{Site, site_of, node_at, played_at}
use Rattle.repair_rules.specs.Repair.{and_then, is_lost, told_of, pass_of, brings_on, passes_of, PASSES, repair_of}
use Rattle.repair_rules.specs.Log.{done_in, PASS, logged_at, log_of}

-- Rule 8.5: The repair ends by itself: one among its passes brings nothing on,
abbrev pub RepairEnds : Type 0
RepairEnds = (t : Site) → length t.slots ≡ SLOTS → done_in PASSES t ≡ true

-- and where that is so among m passes, more passes add nothing. So the bound cuts nothing off.
abbrev pub DoneIsAll : Type 0
DoneIsAll = (m n : ℕ) (t : Site) → m ≤ n → done_in m t ≡ true → passes_of n t ≡ passes_of m t

-- Rule 8.5: After the repair a care of a slot in use of a fenced node is told waiting or not yet clear, or is refused, and changes nothing.
abbrev pub RepairRests : Type 0
RepairRests =
    (t : Site) →
    length t.slots ≡ SLOTS →
    let u = (repair_of t).site in
    (i : ℕ) → is_lost u i ≡ true → (brings_on (told_of i u) ≡ false) × (site_of (played_at (Care i) u) ≡ u)

-- Rule 8.5: A pass, and so the repair, leaves every slot that is free or of a node that is not fenced, with its node, and all fences.
abbrev pub LeavesSlot : Site → Site → ℕ → Type 0
LeavesSlot t u i = (get_or u.slots i free_request ≡ get_or t.slots i free_request) × (node_at u i ≡ node_at t i)

abbrev pub PassTouchesLostOnly : Type 0
PassTouchesLostOnly =
    (t : Site) →
    length t.slots ≡ SLOTS →
    ((pass_of t).site.fenced ≡ t.fenced) × ((i : ℕ) → is_lost t i ≡ false → LeavesSlot t (pass_of t).site i)

abbrev pub RepairTouchesLostOnly : Type 0
RepairTouchesLostOnly =
    (t : Site) →
    length t.slots ≡ SLOTS →
    ((repair_of t).site.fenced ≡ t.fenced) × ((i : ℕ) → is_lost t i ≡ false → LeavesSlot t (repair_of t).site i)

-- Passes that were cut off are taken up again where they stopped: m passes and n more are m + n passes, and done if those are.
abbrev pub PassesTakenUpAgain : Type 0
PassesTakenUpAgain =
    (m n : ℕ) (t : Site) →
    done_in m t ≡ false →
    (passes_of (m + n) t ≡ and_then (passes_of m t).cares (passes_of n (passes_of m t).site)) ×
    (done_in (m + n) t ≡ done_in n (passes_of m t).site)

-- As many passes as a log has 768 bytes for all stand in it.
abbrev pub LogHoldsAll : Type 0
LogHoldsAll =
    (log : List ℕ) (t : Site) →
    let w = passes_of (length log / PASS) t in
    logged_at log 0 w.cares ≡ log_of log w.cares
