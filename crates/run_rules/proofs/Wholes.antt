-- What a run comes to, put together from what was played so far and the rest.
-- Assumes nothing.
use Prim.Native.Nat.{ℕ}
use mathlib.Core.Path.{◌≡◌, refl, sym}
use mathlib.Core.Bool.{Bool}
use mathlib.Core.List.{List, []}
use native.Mathlib.Nat.{zero-add}
use Rattle.agent_request.specs.declared.Request.{Request}
use Rattle.board_nodes.specs.Site.{Site}
use Rattle.run_rules.specs.Run.{Whole, joined}

-- a whole of its counts, the site that it leaves, and its entries
abbrev pub whole_at : ℕ → ℕ → ℕ → ℕ → Site → List ℕ → Whole
whole_at end n p v s e =
    record {
      ending = end;
      records = n;
      place = p;
      verbs = v;
      slots = s.slots;
      nodes = s.nodes;
      fenced = s.fenced;
      words = s.words;
      entries = e;
    }

-- what has been played so far, to be put in front of the rest
abbrev pub so_far : ℕ → ℕ → List ℕ → Whole
so_far n v e = whole_at 0 n 0 v (record { slots = []; nodes = []; fenced = []; words = [] }) e

pub same_whole :
    {n n' v v' p end : ℕ} {e e' : List ℕ} {l : List Request} {k : List ℕ} {f : List Bool} {w : List ℕ} →
    n ≡ n' →
    v ≡ v' →
    e ≡ e' →
    let s : Site = record { slots = l; nodes = k; fenced = f; words = w } in
    whole_at end n p v s e ≡ whole_at end n' p v' s e'
same_whole p q r = cc

pub nothing_yet : (w : Whole) → w ≡ joined (so_far 0 0 []) w
nothing_yet w = same_whole (sym (zero-add w.records)) (sym (zero-add w.verbs)) refl
