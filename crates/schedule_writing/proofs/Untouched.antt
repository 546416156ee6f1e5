-- A run of stores leaves what stands before its first place and behind its last.
-- Assumes nothing.
use Prim.Native.Nat.{ℕ, suc, ◌+◌, ◌<◌, ◌≤◌}
use mathlib.Core.Path.{◌≡◌, refl, ◌∙◌}
use mathlib.Core.List.{List, [], ◌∷◌}
use native.Mathlib.Omega.{arith}
use lib.ListN.{length, get_or, set}
use lib.Seq.{sets, get_or-set_other}

pub before_it : (l : List ℕ) (at : ℕ) (v : List ℕ) (i : ℕ) → i < at → get_or (sets l at v) i 0 ≡ get_or l i 0
before_it l at [] i h = refl
before_it l at (x ∷ v) i h = before_it (set l at x) (suc at) v i (omega arith) ∙ get_or-set_other l at i x 0 (λ e. omega arith)

pub behind_it : (l : List ℕ) (at : ℕ) (v : List ℕ) (i : ℕ) → at + length v ≤ i → get_or (sets l at v) i 0 ≡ get_or l i 0
behind_it l at [] i h = refl
behind_it l at (x ∷ v) i h = behind_it (set l at x) (suc at) v i (omega arith) ∙ get_or-set_other l at i x 0 (λ e. omega arith)
