-- Small repairs, each with the cares that it makes, and one claim over all of them. The last pass, which brings nothing on, is among them.
use Rattle.std.specs.Prelude.{ℕ, ◌≡◌, true, false, List, [], ◌∷◌, map}
use Rattle.agent_request.specs.Request.{phase_number}
use Rattle.agent_request.specs.declared.Request.{Request}
use Rattle.agent_request.specs.declared.Phase.{Phase}
use Rattle.agent_request.specs.declared.Phase.TheVariants.{Asking, Waiting, Held}
use Rattle.board_nodes.specs.Site.{Site}
use Rattle.repair_rules.specs.Repair.{Cared, repair_of}

-- A site, and the cares of its repair.
pub record Row : Type 0 where
  pub site : Site
  pub told : List Cared

-- A care: slot, old phase, outcome.
abbrev care : ℕ → ℕ → ℕ → Cared
care i p o = record { slot = i; phase = p; outcome = o }

-- A request of record 0 without a clearing word, by phase, mode and ticket (x, s).
abbrev drawn : Phase → ℕ → ℕ → ℕ → Request
drawn p m x s = record { «record» = 0; mode = m; phase = phase_number p; ticket = record { 0 = record { 0 = x }; 1 = record { 0 = s } }; clearing = 0 }

-- Requests in the first slots and the node of each, while node 1 is fenced, and the word of record 0.
abbrev lost : List Request → List ℕ → ℕ → List Cared → Row
lost qs ns w cs = record { site = record { slots = qs; nodes = ns; fenced = false ∷ true ∷ []; words = w ∷ [] }; told = cs }

abbrev pub rows : List Row
rows =
    -- a holder: released, and nothing is left
    lost (drawn Held 0 0 0 ∷ []) (1 ∷ []) 1 (care 0 3 6 ∷ []) ∷
    -- a writer whose turn has come: granted in one pass, released in the next
    lost (drawn Waiting 1 0 0 ∷ []) (1 ∷ []) 65536 (care 0 2 2 ∷ care 0 3 6 ∷ []) ∷
    -- a writer behind a living reader: told waiting once, and that pass is the last
    lost (drawn Held 0 0 0 ∷ drawn Waiting 1 0 1 ∷ []) (0 ∷ 1 ∷ []) 65537 (care 1 2 3 ∷ []) ∷
    -- a writer behind a lost reader in a higher slot: lowest first, so it waits in the first pass
    lost (drawn Waiting 1 0 1 ∷ drawn Held 0 0 0 ∷ []) (1 ∷ 1 ∷ []) 65537 (care 0 2 3 ∷ care 1 3 6 ∷ care 0 2 2 ∷ care 0 3 6 ∷ []) ∷
    -- one that has not asked: freed with no verb
    lost (drawn Asking 0 0 0 ∷ []) (1 ∷ []) 0 (care 0 1 12 ∷ []) ∷
    -- a record that is not lent: refused once, and that pass is the last
    lost (record { «record» = 7; mode = 0; phase = 3; ticket = record { 0 = record { 0 = 0 }; 1 = record { 0 = 0 } }; clearing = 0 } ∷ []) (1 ∷ []) 1
    (care 0 3 0 ∷ []) ∷
    []

-- The claim.
abbrev pub RowsHold : Type 0
RowsHold = map (λ (r : Row). (repair_of r.site).cares) rows ≡ map (λ (r : Row). r.told) rows
