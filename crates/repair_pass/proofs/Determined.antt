-- Each public function of `repair_pass`, and why its contract determines it: the contract equates the outcome with a definition, and two
-- things that equal a third are equal (`only_one`, the single law). A function that is missing here is a defect.
-- Assumes nothing.
use Prim.Native.Nat.{ℕ}
use mathlib.Core.Path.{◌≡◌, ◌∙◌, ap}
use mathlib.Core.Bool.{Bool}
use mathlib.Core.List.{List}
use Rattle.common.specs.Determined.{Determined}
use Rattle.common.proofs.OnlyOne.{only_one}
use Rattle.board_slots.specs.declared.Board.{Board}
use Rattle.board_nodes.proofs.Same.{board_same}
use Rattle.repair_pass.specs.Passes.{PassLeaves}
use Rattle.repair_pass.specs.declared.PassMade.{PassMade}
use Rattle.repair_pass.proofs.pass.Kinds as pass-kinds
use Rattle.repair_pass.proofs.pass.Reads as pass-reads

-- what a pass comes to is its three parts
passed_same : {r s : PassMade} → r.board ≡ s.board → r.cares ≡ s.cares → r.progress ≡ s.progress → r ≡ s
passed_same {r} {s} p q o =
    ap (λ (b : Board). record { board = b; cares = r.cares; progress = r.progress }) p ∙
    ap (λ (n : ℕ). record { board = s.board; cares = n; progress = r.progress }) q ∙
    ap (λ (x : Bool). record { board = s.board; cares = s.cares; progress = x }) o

-- two outcomes of a pass that the contract allows are one
passes_one :
    {b : Board} {words log : List ℕ} {at : ℕ} {r s : PassMade} {v w k l : List ℕ} →
    PassLeaves b words log at r v k →
    PassLeaves b words log at s w l →
    (r ≡ s) × (v ≡ w) × (k ≡ l)
passes_one p q =
    let board = board_same (only_one p.slots_after q.slots_after) (only_one p.nodes_after q.nodes_after) (only_one p.fenced_after
    q.fenced_after) in
    let made = passed_same board (only_one p.cares_made q.cares_made) (only_one p.brings q.brings) in
    (made, only_one p.words_after q.words_after, only_one p.log_after q.log_after)

pass_determined : Determined 2 pass-kinds.ps pass-kinds.r pass-reads.Post
pass_determined κs a z z' ws ws' p q = let e = passes_one p q in (e.0, rw (e.1, e.2))
