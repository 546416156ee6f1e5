-- Rows for each number and outcome that the calls for lost nodes add, in the table's order, and one claim over all of them.
use Rattle.std.specs.Prelude.{ℕ, ◌≡◌, Bool, true, false, List, [], ◌∷◌, map, replicate}
use Rattle.agent_request.specs.Request.{phase_number, free_request, opened_request, in_phase}
use Rattle.agent_request.specs.declared.Request.{Request}
use Rattle.agent_request.specs.declared.Phase.{Phase}
use Rattle.agent_request.specs.declared.Phase.TheVariants.{Asking, Waiting, Held, Owing, Clearing}
use Rattle.board_slots.specs.Slots.{SLOTS, fresh_slots}
use Rattle.board_call.specs.declared.Call.TheVariants.{Open, Step, Release, Show}
use Rattle.board_call.specs.declared.AnyCall.{AnyCall}
use Rattle.board_call.specs.declared.AnyCall.TheVariants.{Base, OpenAs, Fence, Care}
use Rattle.board_rules.specs.declared.Said.{Said}
use Rattle.board_nodes.specs.Site.{Site, site_of, node_at, fenced_at, played_at, begun_at, fresh_nodes, no_fences}
use Rattle.board_nodes.specs.Answers.{verbs_of_any}
use Rattle.board_nodes.specs.Table.{said_to_any}

-- A site, a call, what is said: number, outcome, slot, value; and the verbs counted.
pub record Row : Type 0 where
  pub site : Site
  pub call : AnyCall
  pub said : Said
  pub verbs : ℕ

abbrev said : ℕ → ℕ → ℕ → ℕ → Said
said n o s v = record { number = n; outcome = o; slot = s; value = v }

abbrev row : Site → AnyCall → Said → ℕ → Row
row t o d k = record { site = t; call = o; said = d; verbs = k }

-- A site with some requests in its first slots, their nodes, whether the first nodes are fenced, and words.
abbrev site : List Request → List ℕ → List Bool → List ℕ → Site
site qs ns fs ws = record { slots = qs; nodes = ns; fenced = fs; words = ws }

-- A fresh site of one word.
abbrev fresh : Site
fresh = site fresh_slots fresh_nodes no_fences (0 ∷ [])

-- What a call leaves.
abbrev after : AnyCall → Site → Site
after o t = site_of (played_at o t)

-- A slot 0 of node 1, which is fenced; and one of node 1 while node 0 is fenced.
abbrev lost : Request → ℕ → Site
lost q w = site (q ∷ []) (1 ∷ []) (false ∷ true ∷ []) (w ∷ [])

abbrev well : Request → ℕ → Site
well q w = site (q ∷ []) (1 ∷ []) (true ∷ false ∷ []) (w ∷ [])

-- All slots in use, and node 1 fenced.
abbrev crowded : Site
crowded = site (replicate SLOTS (opened_request 0 0)) fresh_nodes (false ∷ true ∷ []) (0 ∷ [])

-- A reader with ticket (0, 0), by phase and record.
abbrev reader : Phase → ℕ → Request
reader p r = in_phase p (opened_request r 0)

-- A request of record 0, by phase, mode, ticket (x, s) and clearing word; and the last reader's, with the clearing word {0, 32768, 0, 32768}.
abbrev drawn : Phase → ℕ → ℕ → ℕ → ℕ → Request
drawn p m x s w = record { «record» = 0; mode = m; phase = phase_number p; ticket = record { 0 = record { 0 = x }; 1 = record { 0 = s } }; clearing = w }

abbrev last_reader : Phase → Request
last_reader p = drawn p 0 0 32767 140737488388096

-- 14: an open by a fenced node, a plain one being by node 0; it comes after 2 and 3, and before 6.
abbrev pub open_rows : List Row
open_rows =
    row (after (Fence 0) fresh) (Base (Open 0 0)) (said 14 0 0 0) 0 ∷
    row (after (Fence 0) fresh) (OpenAs 0 0 0) (said 14 0 0 0) 0 ∷
    row (after (Fence 0) fresh) (OpenAs 0 0 1) (said 0 1 0 0) 0 ∷
    row (after (Fence 255) fresh) (OpenAs 0 1 255) (said 14 0 0 0) 0 ∷
    row (after (Fence 255) fresh) (OpenAs 0 1 254) (said 0 1 0 0) 0 ∷
    row (lost free_request 0) (OpenAs 1 2 1) (said 2 0 0 0) 0 ∷
    row (lost free_request 0) (OpenAs 0 2 1) (said 3 0 0 0) 0 ∷
    row crowded (OpenAs 0 0 1) (said 14 0 0 0) 0 ∷
    row crowded (OpenAs 0 0 2) (said 6 0 0 0) 0 ∷
    row crowded (Base (Open 0 0)) (said 6 0 0 0) 0 ∷
    []

-- 15: a step or a release on a slot of a fenced node; it comes after 1 and 4, and before 5 and 2. A fence of another node stops neither.
abbrev pub named_rows : List Row
named_rows =
    row (after (Fence 0) fresh) (Base (Step 256)) (said 1 0 0 0) 0 ∷
    row (after (Fence 0) fresh) (Base (Release 300)) (said 1 0 44 0) 0 ∷
    row (lost free_request 0) (Base (Step 0)) (said 4 0 0 0) 0 ∷
    row (lost free_request 0) (Base (Release 0)) (said 4 0 0 0) 0 ∷
    row (lost (reader Asking 0) 0) (Base (Step 0)) (said 15 0 0 0) 0 ∷
    row (lost (reader Held 0) 1) (Base (Release 0)) (said 15 0 0 0) 0 ∷
    row (lost (reader Held 0) 1) (Base (Step 0)) (said 15 0 0 0) 0 ∷
    row (lost (reader Asking 0) 0) (Base (Release 0)) (said 15 0 0 0) 0 ∷
    row (lost (reader Asking 7) 0) (Base (Step 0)) (said 15 0 0 0) 0 ∷
    row (lost (reader Held 7) 0) (Base (Release 0)) (said 15 0 0 0) 0 ∷
    row (after (Fence 255) (after (OpenAs 0 0 255) fresh)) (Base (Step 0)) (said 15 0 0 0) 0 ∷
    row (well (reader Held 0) 1) (Base (Step 0)) (said 5 0 0 0) 0 ∷
    row (well (reader Asking 0) 0) (Base (Step 0)) (said 0 2 0 0) 1 ∷
    row (well (reader Held 0) 1) (Base (Release 0)) (said 0 6 0 0) 1 ∷
    []

-- 16: a care on a slot of a node that is not fenced; it comes after 1 and 4, and before 2. There is no 5, and 2 for a slot that asks too.
abbrev pub care_rows : List Row
care_rows =
    row fresh (Care 256) (said 1 0 0 0) 0 ∷
    row fresh (Care 300) (said 1 0 44 0) 0 ∷
    row fresh (Care 3) (said 4 0 3 0) 0 ∷
    row (lost free_request 0) (Care 0) (said 4 0 0 0) 0 ∷
    row (well (reader Asking 0) 0) (Care 0) (said 16 0 0 0) 0 ∷
    row (well (reader Held 0) 1) (Care 0) (said 16 0 0 0) 0 ∷
    row (well (reader Asking 7) 0) (Care 0) (said 16 0 0 0) 0 ∷
    row (lost (reader Asking 7) 0) (Care 0) (said 2 0 0 0) 0 ∷
    row (lost (reader Held 7) 0) (Care 0) (said 2 0 0 0) 0 ∷
    []

-- 0: a fence, of a node that is fenced too; a show, whatever is fenced; and a care with each outcome.
abbrev pub accepted_rows : List Row
accepted_rows =
    row fresh (Fence 7) (said 0 13 0 0) 0 ∷
    row (after (Fence 7) fresh) (Fence 7) (said 0 13 0 0) 0 ∷
    row (lost free_request 5) (Base (Show 0)) (said 0 10 0 5) 0 ∷
    -- Asking is freed, with no verb, also where it would be turned away
    row (lost (reader Asking 0) 0) (Care 0) (said 0 12 0 0) 0 ∷
    row (lost (reader Asking 0) 32768) (Care 0) (said 0 12 0 0) 0 ∷
    row (after (Fence 255) (after (OpenAs 0 0 255) fresh)) (Care 0) (said 0 12 0 0) 0 ∷
    row (site (free_request ∷ reader Asking 0 ∷ []) (0 ∷ 1 ∷ []) (false ∷ true ∷ []) (0 ∷ [])) (Care 1) (said 0 12 1 0) 0 ∷
    -- Waiting is granted, or waits: a writer for two writers and a reader, a reader for two writers; or it has passed
    row (lost (reader Waiting 0) 1) (Care 0) (said 0 2 0 0) 1 ∷
    row (lost (drawn Waiting 1 2 1 0) 196609) (Care 0) (said 0 3 0 3) 1 ∷
    row (lost (drawn Waiting 0 2 1 0) 131074) (Care 0) (said 0 3 0 2) 1 ∷
    row (lost (reader Waiting 0) 281474976776192) (Care 0) (said 0 11 0 0) 1 ∷
    -- Held is released, or clearing is due; Owing is withdrawn; Clearing is cleared, or not yet clear
    row (lost (reader Held 0) 1) (Care 0) (said 0 6 0 0) 1 ∷
    row (lost (last_reader Held) 140733193420800) (Care 0) (said 0 7 0 0) 1 ∷
    row (lost (reader Owing 0) 32769) (Care 0) (said 0 5 0 0) 1 ∷
    row (lost (last_reader Clearing) 140737488388096) (Care 0) (said 0 8 0 0) 1 ∷
    row (lost (last_reader Clearing) 140737488388097) (Care 0) (said 0 9 0 0) 1 ∷
    []

-- What is left: a site, a call, and the node of slot 0 afterwards.
pub record Left : Type 0 where
  pub site : Site
  pub call : AnyCall
  pub node : ℕ

abbrev leaves : Site → AnyCall → ℕ → Left
leaves t o n = record { site = t; call = o; node = n }

abbrev pub left_rows : List Left
left_rows =
    -- a slot that was opened is of the node that opened it, whatever node it had
    leaves fresh (OpenAs 0 0 9) 9 ∷
    leaves fresh (OpenAs 0 0 255) 255 ∷
    leaves (lost free_request 0) (Base (Open 0 0)) 0 ∷
    leaves (lost free_request 0) (OpenAs 0 0 9) 9 ∷
    -- one that was freed is of node 0: released, passed, withdrawn, cleared, or freed unasked
    leaves (well (reader Held 0) 1) (Base (Release 0)) 0 ∷
    leaves (well (reader Waiting 0) 281474976776192) (Base (Step 0)) 0 ∷
    leaves (well (reader Owing 0) 32769) (Base (Step 0)) 0 ∷
    leaves (well (last_reader Clearing) 140737488388096) (Base (Step 0)) 0 ∷
    leaves (lost (reader Held 0) 1) (Care 0) 0 ∷
    leaves (lost (reader Asking 0) 0) (Care 0) 0 ∷
    -- one that is still in use keeps its node, and any slot where the call is refused
    leaves (well (reader Asking 0) 0) (Base (Step 0)) 1 ∷
    leaves (lost (reader Waiting 0) 1) (Care 0) 1 ∷
    leaves (lost (last_reader Held) 140733193420800) (Care 0) 1 ∷
    leaves (lost (reader Held 0) 1) (Base (Release 0)) 1 ∷
    leaves (lost free_request 0) (OpenAs 0 0 1) 1 ∷
    []

-- Whether node 7, fenced before, is fenced after a begin with so many words: a refused one keeps the fences, an accepted one drops them.
abbrev pub fenced_after_begin : ℕ → Bool
fenced_after_begin n = fenced_at (site_of (begun_at (after (Fence 7) (site fresh_slots fresh_nodes no_fences (replicate n 0))))) 7

-- The claim.
abbrev pub Hold : List Row → Type 0
Hold rows =
    (map (λ (r : Row). said_to_any r.call r.site) rows ≡ map (λ (r : Row). r.said) rows) ×
    (map (λ (r : Row). verbs_of_any r.call (played_at r.call r.site).answer) rows ≡ map (λ (r : Row). r.verbs) rows)

abbrev pub RowsHold : Type 0
RowsHold =
    Hold open_rows ×
    Hold named_rows ×
    Hold care_rows ×
    Hold accepted_rows ×
    (map (λ (l : Left). node_at (after l.call l.site) 0) left_rows ≡ map (λ (l : Left). l.node) left_rows) ×
    (map fenced_after_begin (0 ∷ 1 ∷ 4096 ∷ 4097 ∷ []) ≡ true ∷ false ∷ false ∷ true ∷ [])
