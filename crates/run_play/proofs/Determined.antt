-- Each public function of `run_play`, and why its contract determines it: the contract equates the outcome with a definition, and two
-- things that equal a third are equal (`only_one`, the single law); an ending is had from its number (`one_ending`). A function that is
-- missing here is a defect.
-- Assumes nothing.
use Prim.Native.Nat.{ℕ}
use mathlib.Core.Path.{◌≡◌}
use mathlib.Core.List.{List}
use Rattle.common.specs.Determined.{Determined}
use Rattle.common.proofs.OnlyOne.{only_one}
use Rattle.board_slots.specs.declared.Board.{Board}
use Rattle.board_nodes.proofs.Same.{board_same}
use Rattle.run_rules.specs.declared.Ending.{Ending}
use Rattle.run_rules.proofs.Endings.{one_ending}
use Rattle.run_play.specs.Comes.{Comes}
use Rattle.run_play.specs.declared.Ran.{Ran}
use Rattle.run_play.proofs.run.Kinds as run-kinds
use Rattle.run_play.proofs.run.Reads as run-reads

-- what a run comes to is its five parts
parts_same :
    {e e' : Ending} {n n' b b' v v' : ℕ} {l l' : Board} →
    e ≡ e' →
    n ≡ n' →
    b ≡ b' →
    v ≡ v' →
    l ≡ l' →
    ◌≡◌ {A = Ran} (record { ending = e; records = n; bytes = b; verbs = v; board = l })
    (record { ending = e'; records = n'; bytes = b'; verbs = v'; board = l' })
parts_same p q r s t = cc

ran_same : {r s : Ran} → r.ending ≡ s.ending → r.records ≡ s.records → r.bytes ≡ s.bytes → r.verbs ≡ s.verbs → r.board ≡ s.board → r ≡ s
ran_same p q r s t = parts_same p q r s t

-- two runs that the contract allows are one
comes_one :
    {b : Board} {words bytes : List ℕ} {at allowance : ℕ} {report : List ℕ} {r s : Ran} {v w k l : List ℕ} →
    Comes b words bytes at allowance report r v k → Comes b words bytes at allowance report s w l → (r ≡ s) × (v ≡ w) × (k ≡ l)
comes_one p q =
    let board = board_same (only_one p.slots_after q.slots_after) (only_one p.nodes_after q.nodes_after) (only_one p.fenced_after
    q.fenced_after) in
    let ran = ran_same (one_ending _ _ (only_one p.ending q.ending)) (only_one p.records q.records) (only_one p.taken q.taken) (only_one p.verbs
    q.verbs) board in
    (ran, only_one p.words_after q.words_after, only_one p.report_after q.report_after)

run_determined : Determined 3 run-kinds.ps run-kinds.r run-reads.Post
run_determined κs a z z' ws ws' p q = let e = comes_one p q in (e.0, rw (e.1, e.2))
