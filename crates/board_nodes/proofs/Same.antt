-- What a call on a board by value leaves is the board and the answer, and the words: its contract, `Leaves`, allows one outcome. And a site, like a
-- board, is its parts.
-- Assumes nothing.
use Prim.Native.Nat.{ℕ, zero, suc, ◌<◌}
use mathlib.Core.Path.{◌≡◌, ◌∙◌, ap}
use mathlib.Core.Bool.{Bool}
use mathlib.Core.List.{List, [], ◌∷◌}
use lib.ListN.{get_or, set}
use Rattle.common.proofs.OnlyOne.{only_one}
use Rattle.agent_request.specs.declared.Request.{Request}
use Rattle.board_slots.specs.declared.Board.{Board}
use Rattle.board_rules.specs.declared.Answer.{Answer}
use Rattle.board_rules.specs.declared.Played.{Played}
use Rattle.board_nodes.specs.Site.{Site, SiteDone}
use Rattle.board_nodes.specs.Leaves.{Leaves}

pub board_same : {a b : Board} → a.slots ≡ b.slots → a.nodes ≡ b.nodes → a.fenced ≡ b.fenced → a ≡ b
board_same {a} {b} p q r =
    ap (λ (l : List Request). record { slots = l; nodes = a.nodes; fenced = a.fenced }) p ∙
    ap (λ (l : List ℕ). record { slots = b.slots; nodes = l; fenced = a.fenced }) q ∙
    ap (λ (l : List Bool). record { slots = b.slots; nodes = b.nodes; fenced = l }) r

played_same : {r s : Played} → r.board ≡ s.board → r.answer ≡ s.answer → r ≡ s
played_same {r} {s} p q = ap (λ (b : Board). record { board = b; answer = r.answer }) p ∙ ap (λ (a : Answer). record { board = s.board; answer = a }) q

pub leaves_one : {d : SiteDone} {r s : Played} {v w : List ℕ} → Leaves d r v → Leaves d s w → (r ≡ s) × (v ≡ w)
leaves_one p q = (
  played_same
      (board_same (only_one p.slots q.slots) (only_one p.nodes q.nodes) (only_one p.fenced q.fenced))
      (only_one p.answer q.answer),
  only_one p.words q.words,
)

-- a site is its four parts
pub same_site :
    {l l' : List Request} {n n' : List ℕ} {f f' : List Bool} {w w' : List ℕ} →
    l ≡ l' →
    n ≡ n' →
    f ≡ f' →
    w ≡ w' →
    ◌≡◌ {A = Site} (record { slots = l; nodes = n; fenced = f; words = w }) (record { slots = l'; nodes = n'; fenced = f'; words = w' })
same_site p q r s = cc

-- a byte, stored among others
pub set_small : (l : List ℕ) (i x : ℕ) → x < 256 → ((j : ℕ) → get_or l j 0 < 256) → (j : ℕ) → get_or (set l i x) j 0 < 256
set_small [] i x s h j = h j
set_small (y ∷ l) zero x s h zero = s
set_small (y ∷ l) zero x s h (suc j) = h (suc j)
set_small (y ∷ l) (suc i) x s h zero = h zero
set_small (y ∷ l) (suc i) x s h (suc j) = set_small l i x s (λ k. h (suc k)) j
