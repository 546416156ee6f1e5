-- The worked example, rows for each ending and rows for lost nodes, on the definition of a run, with slots, nodes, fences and words, under one claim.
use Rattle.std.specs.Prelude.{ℕ, ◌≡◌, Bool, true, List, [], ◌∷◌, ◌++◌, map, replicate, set}
use Rattle.agent_request.specs.Request.{opened_request, in_phase}
use Rattle.agent_request.specs.declared.Request.{Request}
use Rattle.agent_request.specs.declared.Phase.TheVariants.{Held}
use Rattle.board_slots.specs.Slots.{fresh_slots}
use Rattle.board_nodes.specs.Site.{Site, fresh_nodes, no_fences}
use Rattle.run_rules.specs.Run.{Whole, run_of}

-- A run: allowance, report bytes, schedule, place. What it comes to: ending number, records, place after them, verbs, slots, their nodes, fences,
-- words, report bytes.
pub record Row : Type 0 where
  pub allowance : ℕ
  pub room : ℕ
  pub bytes : List ℕ
  pub at : ℕ
  pub ending : ℕ
  pub records : ℕ
  pub place : ℕ
  pub verbs : ℕ
  pub slots : List Request
  pub nodes : List ℕ
  pub fenced : List Bool
  pub words : List ℕ
  pub entries : List ℕ

-- Every run here begins on a fresh board of 2 words.
abbrev fresh : Site
fresh = record { slots = fresh_slots; nodes = fresh_nodes; fenced = no_fences; words = replicate 2 0 }

-- Open record 0 for a writer, step slot 0, release slot 0, show record 0.
abbrev worked : List ℕ
worked = 1 ∷ 0 ∷ 0 ∷ 1 ∷ 2 ∷ 0 ∷ 3 ∷ 0 ∷ 4 ∷ 0 ∷ 0 ∷ []

abbrev row : ℕ → ℕ → List ℕ → ℕ → ℕ → ℕ → ℕ → ℕ → List Request → List ℕ → List Bool → List ℕ → List ℕ → Row
row a r b p e n q v o k f w l =
    record {
      allowance = a;
      room = r;
      bytes = b;
      at = p;
      ending = e;
      records = n;
      place = q;
      verbs = v;
      slots = o;
      nodes = k;
      fenced = f;
      words = w;
      entries = l;
    }

-- No word changed; the word of record 0 after a writer's ticket, and after its release; and after those of two.
abbrev at_first : List ℕ
at_first = 0 ∷ 0 ∷ []

abbrev one_drawn : List ℕ
one_drawn = 65536 ∷ 0 ∷ []

abbrev one_released : List ℕ
one_released = 281474976776192 ∷ 0 ∷ []

abbrev two_released : List ℕ
two_released = 562949953552384 ∷ 0 ∷ []

-- A writer in slot 0 that asks for record 0, and one that holds it.
abbrev asking : List Request
asking = set fresh_slots 0 (opened_request 0 1)

abbrev holding : List Request
holding = set fresh_slots 0 (in_phase Held (opened_request 0 1))

-- Slot 0 is of node 3, every other of node 0; and node 3 is fenced, no other.
abbrev of_node3 : List ℕ
of_node3 = set fresh_nodes 0 3

abbrev fenced3 : List Bool
fenced3 = set no_fences 3 true

-- The entries of its open and of its first step.
abbrev opened_entry : List ℕ
opened_entry = 0 ∷ 1 ∷ 0 ∷ 0 ∷ 0 ∷ 0 ∷ 0 ∷ 0 ∷ 0 ∷ 0 ∷ 0 ∷ 0 ∷ []

abbrev granted_entry : List ℕ
granted_entry = 0 ∷ 2 ∷ 0 ∷ 0 ∷ 0 ∷ 0 ∷ 0 ∷ 0 ∷ 0 ∷ 0 ∷ 0 ∷ 0 ∷ []

-- An entry of a number, an outcome, a slot and a value below 256.
abbrev entry : ℕ → ℕ → ℕ → ℕ → List ℕ
entry n o s v = n ∷ o ∷ s ∷ 0 ∷ v ∷ 0 ∷ 0 ∷ 0 ∷ 0 ∷ 0 ∷ 0 ∷ 0 ∷ []

abbrev pub rows : List Row
rows =
    -- the worked example: opened, granted, released, and the word {1, 0, 1, 0}
    row 10 100 worked 0 0 4 11 2 fresh_slots fresh_nodes no_fences one_released
    (0 ∷ 1 ∷ 0 ∷ 0 ∷ 0 ∷ 0 ∷ 0 ∷ 0 ∷ 0 ∷ 0 ∷ 0 ∷ 0 ∷
    0 ∷ 2 ∷ 0 ∷ 0 ∷ 0 ∷ 0 ∷ 0 ∷ 0 ∷ 0 ∷ 0 ∷ 0 ∷ 0 ∷
    0 ∷ 6 ∷ 0 ∷ 0 ∷ 0 ∷ 0 ∷ 0 ∷ 0 ∷ 0 ∷ 0 ∷ 0 ∷ 0 ∷
    0 ∷ 10 ∷ 0 ∷ 0 ∷ 0 ∷ 0 ∷ 1 ∷ 0 ∷ 0 ∷ 0 ∷ 1 ∷ 0 ∷
    []) ∷
    -- the allowance spent, 11; at the end of the schedule 0 all the same
    row 1 100 worked 0 11 1 4 0 asking fresh_nodes no_fences at_first opened_entry ∷
    row 0 100 worked 11 0 0 11 0 fresh_slots fresh_nodes no_fences at_first [] ∷
    row 0 0 worked 99 0 0 99 0 fresh_slots fresh_nodes no_fences at_first [] ∷
    -- fewer than 12 report bytes, 12; 11 comes first
    row 10 23 worked 0 12 1 4 0 asking fresh_nodes no_fences at_first opened_entry ∷
    row 0 0 worked 0 11 0 0 0 fresh_slots fresh_nodes no_fences at_first [] ∷
    -- an unknown kind, 8, and a cut body, 7; 12 comes before either, and the place stays before it
    row 10 100 (8 ∷ []) 0 8 0 0 0 fresh_slots fresh_nodes no_fences at_first [] ∷
    row 10 11 (8 ∷ []) 0 12 0 0 0 fresh_slots fresh_nodes no_fences at_first [] ∷
    row 10 100 (1 ∷ 0 ∷ 0 ∷ []) 0 7 0 0 0 fresh_slots fresh_nodes no_fences at_first [] ∷
    row 10 11 (2 ∷ []) 0 12 0 0 0 fresh_slots fresh_nodes no_fences at_first [] ∷
    -- either after records that were played: their work stays, and the place stands behind them
    row 10 100 (1 ∷ 0 ∷ 0 ∷ 1 ∷ 2 ∷ 0 ∷ 9 ∷ []) 0 8 2 6 1 holding fresh_nodes no_fences one_drawn (opened_entry ++ granted_entry) ∷
    row 10 100 (1 ∷ 0 ∷ 0 ∷ 1 ∷ 2 ∷ []) 0 7 1 4 0 asking fresh_nodes no_fences at_first opened_entry ∷
    -- a refused call is reported and the run goes on; it counts as a record and as no verb
    row 10 100 (2 ∷ 9 ∷ 4 ∷ 1 ∷ 0 ∷ []) 0 0 2 5 0 fresh_slots fresh_nodes no_fences at_first
    (4 ∷ 0 ∷ 9 ∷ 0 ∷ 0 ∷ 0 ∷ 0 ∷ 0 ∷ 0 ∷ 0 ∷ 0 ∷ 0 ∷
    0 ∷ 10 ∷ 0 ∷ 0 ∷ 0 ∷ 0 ∷ 0 ∷ 0 ∷ 0 ∷ 0 ∷ 0 ∷ 0 ∷
    []) ∷
    -- a slot that a node opened is of that node; once the node is fenced a release is refused with 15, and counts as no verb
    row 10 100 (5 ∷ 0 ∷ 0 ∷ 1 ∷ 3 ∷ 2 ∷ 0 ∷ 6 ∷ 3 ∷ 3 ∷ 0 ∷ []) 0 0 4 11 1 holding of_node3 fenced3 one_drawn
    (opened_entry ++ granted_entry ++ entry 0 13 0 0 ++ entry 15 0 0 0) ∷
    -- a step is refused the same; the care of a request that never asked, 12, is accepted and counts as no verb: slot, node and words are as before
    row 10 100 (5 ∷ 0 ∷ 0 ∷ 1 ∷ 3 ∷ 6 ∷ 3 ∷ 2 ∷ 0 ∷ 7 ∷ 0 ∷ []) 0 0 4 11 0 fresh_slots fresh_nodes fenced3 at_first
    (opened_entry ++ entry 0 13 0 0 ++ entry 15 0 0 0 ++ entry 0 12 0 0) ∷
    -- node 3 waits behind a writer of node 0 and is fenced; once that one has released, a care is granted and the next one releases: verbs both
    row 10 100 (1 ∷ 0 ∷ 0 ∷ 1 ∷ 2 ∷ 0 ∷ 5 ∷ 0 ∷ 0 ∷ 1 ∷ 3 ∷ 2 ∷ 1 ∷ 6 ∷ 3 ∷ 3 ∷ 0 ∷ 7 ∷ 1 ∷ 7 ∷ 1 ∷ []) 0 0 8 21 5
    fresh_slots fresh_nodes fenced3 two_released
    (opened_entry ++ granted_entry ++ entry 0 1 1 0 ++ entry 0 3 1 1 ++ entry 0 13 0 0 ++ entry 0 6 0 0 ++ entry 0 2 1 0 ++ entry 0 6 1 0) ∷
    []

-- What is defined for a row.
abbrev pub ran_as : Row → Whole → Row
ran_as r w =
    row r.allowance r.room r.bytes r.at w.ending w.records w.place w.verbs
    w.slots w.nodes w.fenced w.words w.entries

-- The claim.
abbrev pub RowsHold : Type 0
RowsHold = map (λ (r : Row). ran_as r (run_of r.allowance r.room r.bytes r.at fresh)) rows ≡ rows
