-- Each public function of `repair_all`, and why its contract determines it: the contract equates the outcome with a definition, and two
-- things that equal a third are equal (`only_one`, the single law). A function that is missing here is a defect.
-- Assumes nothing.
use Prim.Native.Nat.{ℕ}
use mathlib.Core.Path.{◌≡◌, ◌∙◌, ap}
use mathlib.Core.Bool.{Bool}
use mathlib.Core.List.{List}
use Rattle.common.specs.Determined.{Determined}
use Rattle.common.proofs.OnlyOne.{only_one}
use Rattle.board_slots.specs.declared.Board.{Board}
use Rattle.board_nodes.proofs.Same.{board_same}
use Rattle.repair_all.specs.Repairs.{Repairs}
use Rattle.repair_all.specs.declared.Repaired.{Repaired}
use Rattle.repair_all.proofs.repair.Kinds as repair-kinds
use Rattle.repair_all.proofs.repair.Reads as repair-reads

-- what a repair comes to is its three parts
repaired_same : {r s : Repaired} → r.board ≡ s.board → r.cares ≡ s.cares → r.done ≡ s.done → r ≡ s
repaired_same {r} {s} p q o =
    ap (λ (b : Board). record { board = b; cares = r.cares; done = r.done }) p ∙
    ap (λ (n : ℕ). record { board = s.board; cares = n; done = r.done }) q ∙
    ap (λ (x : Bool). record { board = s.board; cares = s.cares; done = x }) o

-- two outcomes of a repair that the contract allows are one
repairs_one :
    {b : Board} {words log : List ℕ} {r s : Repaired} {v w k l : List ℕ} →
    Repairs b words log r v k →
    Repairs b words log s w l →
    (r ≡ s) × (v ≡ w) × (k ≡ l)
repairs_one p q =
    let board = board_same (only_one p.slots_after q.slots_after) (only_one p.nodes_after q.nodes_after) (only_one p.fenced_after
    q.fenced_after) in
    let made = repaired_same board (only_one p.cares_made q.cares_made) (only_one p.is_done q.is_done) in
    (made, only_one p.words_after q.words_after, only_one p.log_after q.log_after)

repair_determined : Determined 2 repair-kinds.ps repair-kinds.r repair-reads.Post
repair_determined κs a z z' ws ws' p q = let e = repairs_one p q in (e.0, rw (e.1, e.2))
