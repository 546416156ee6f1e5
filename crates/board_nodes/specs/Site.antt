-- The board with nodes and fences: what it keeps, and what each of the seven calls makes of it. A call of the base is what it was, behind one test.
use Rattle.std.specs.Prelude.{ℕ, Bool, true, false, not, ◌&&◌, ◌||◌, List, eqb, ltb, length, get_or, set, replicate}
use Rattle.common.specs.Choice.{when◌then◌else◌}
use Rattle.agent_request.specs.Request.{in_use}
use Rattle.agent_request.specs.declared.Request.{Request}
use Rattle.board_slots.specs.Slots.{SLOTS, lowest_free, fresh_slots}
use Rattle.board_call.specs.declared.Call.TheVariants.{Open, Step, Release, Show}
use Rattle.board_call.specs.declared.AnyCall.{AnyCall}
use Rattle.board_call.specs.declared.AnyCall.TheVariants.{Base, OpenAs, Fence, Care}
use Rattle.board_rules.specs.Records.{RECORDS, is_record}
use Rattle.board_rules.specs.Board.{State, Done, slot_at, opened, stepped, released, shown}
use Rattle.board_rules.specs.Care.{cared}
use Rattle.board_rules.specs.declared.Answer.{Answer}
use Rattle.board_rules.specs.declared.Answer.TheVariants.{Refused, Begun, Fenced}

-- Rules 4.1 and 4.10: What the board keeps, slots, the node of each slot and whether each node is fenced, and what it is lent.
pub record Site : Type 0 where
  pub slots : List Request
  pub nodes : List ℕ
  pub fenced : List Bool
  pub words : List ℕ

-- A site with the answer that led to it.
pub record SiteDone : Type 0 where
  pub slots : List Request
  pub nodes : List ℕ
  pub fenced : List Bool
  pub words : List ℕ
  pub answer : Answer

abbrev pub site_of : SiteDone → Site
site_of d = record { slots = d.slots; nodes = d.nodes; fenced = d.fenced; words = d.words }

-- The ring inside: slots and words, as the base has them.
abbrev pub inner : Site → State
inner t = record { slots = t.slots; words = t.words }

-- The node of a slot; whether a node is fenced; and whether a slot's node is.
abbrev pub node_at : Site → ℕ → ℕ
node_at t i = get_or t.nodes i 0

abbrev pub fenced_at : Site → ℕ → Bool
fenced_at t n = get_or t.fenced n false

abbrev pub shut_at : Site → ℕ → Bool
shut_at t i = fenced_at t (node_at t i)

-- Rule 4.9: A refusal changes nothing.
abbrev pub refused_at : ℕ → Site → SiteDone
refused_at n t = record { slots = t.slots; nodes = t.nodes; fenced = t.fenced; words = t.words; answer = Refused n }

-- Rule 4.10: The node of a slot after a call made for the node k: a slot that was free and is in use belongs to k, one that was in use and is free
-- to node 0; any other to the node that it had.
abbrev pub kept_node : ℕ → Request → Request → ℕ → ℕ
kept_node k before after n =
    when in_use after
    then (when in_use before then n else k)
    else (when in_use before then 0 else n)

-- What a call of the base on the slot i, made for the node k, leaves of the whole.
abbrev pub around : Site → ℕ → ℕ → Done → SiteDone
around t i k d =
    record {
      slots = d.slots;
      nodes = set t.nodes i (kept_node k (slot_at (inner t) i) (slot_at (record { slots = d.slots; words = d.words }) i) (node_at t i));
      fenced = t.fenced;
      words = d.words;
      answer = d.answer;
    }

-- Rule 5.2: The one test before an open by a node, fenced or not: 14 comes after 2 and 3, and before 6.
abbrev pub opens_shut : ℕ → ℕ → Bool → List ℕ → Bool
opens_shut r m shut ws = is_record r ws && (not (ltb 1 m) && shut)

-- Rule 5.2: The one test before a call that names a slot: 15 and 16 come after 1 and 4, and before the rest.
abbrev pub used_shut : ℕ → Request → Bool → Bool
used_shut i q shut = ltb i SLOTS && (in_use q && shut)

-- Rules 4.4 and 4.11: Open by a node: 14 if it is fenced, else as before.
unfoldable pub opened_by : ℕ → ℕ → ℕ → Site → SiteDone
opened_by r m k t =
    when opens_shut r m (fenced_at t k) t.words
    then refused_at 14 t
    else around t (lowest_free t.slots) k (opened r m (inner t))

-- Rules 4.5, 4.6 and 4.11: Step and release: 15 on a slot of a fenced node, else as before.
unfoldable pub stepped_at : ℕ → Site → SiteDone
stepped_at i t = when used_shut i (slot_at (inner t) i) (shut_at t i) then refused_at 15 t else around t i 0 (stepped i (inner t))

unfoldable pub released_at : ℕ → Site → SiteDone
released_at i t = when used_shut i (slot_at (inner t) i) (shut_at t i) then refused_at 15 t else around t i 0 (released i (inner t))

-- Rule 4.13: Care: 16 on a slot of a node that is not fenced, else the care of the slot.
unfoldable pub cared_at : ℕ → Site → SiteDone
cared_at i t = when used_shut i (slot_at (inner t) i) (not (shut_at t i)) then refused_at 16 t else around t i 0 (cared i (inner t))

-- Rule 4.12: Fence: the node is fenced, whether it was or not. Nothing else changes.
unfoldable pub fenced_by : ℕ → Site → SiteDone
fenced_by n t = record { slots = t.slots; nodes = t.nodes; fenced = set t.fenced n true; words = t.words; answer = Fenced }

-- Rule 4.7: Show changes nothing.
unfoldable pub shown_at : ℕ → Site → SiteDone
shown_at r t = record { slots = t.slots; nodes = t.nodes; fenced = t.fenced; words = t.words; answer = (shown r (inner t)).answer }

-- Any call. A plain open is made by node 0.
abbrev pub played_at : AnyCall → Site → SiteDone
played_at (Base (Open r m)) t = opened_by r m 0 t
played_at (Base (Step i)) t = stepped_at i t
played_at (Base (Release i)) t = released_at i t
played_at (Base (Show r)) t = shown_at r t
played_at (OpenAs r m k) t = opened_by r m k t
played_at (Fence n) t = fenced_by n t
played_at (Care i) t = cared_at i t

-- Rules 4.3 and 4.12: Fresh: every slot free, of node 0, and no node fenced.
abbrev pub NODES : ℕ
NODES = 256

abbrev pub fresh_nodes : List ℕ
fresh_nodes = replicate SLOTS 0

abbrev pub no_fences : List Bool
no_fences = replicate NODES false

-- Rules 4.3, 4.12 and 5.1: Begin: 9 for 0 words or more than 4,096, and nothing changes, the fences neither; else all lent words 0, and the board fresh.
unfoldable pub begun_at : Site → SiteDone
begun_at t =
    when eqb (length t.words) 0 || ltb RECORDS (length t.words)
    then refused_at 9 t
    else record { slots = fresh_slots; nodes = fresh_nodes; fenced = no_fences; words = replicate (length t.words) 0; answer = Begun }
