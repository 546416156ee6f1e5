-- Each public function of `board_gate`, and why its contract determines it: the contract equates the outcome with a definition, and two
-- things that equal a third are equal (`only_one`); of a gate it equates the number, by which the outcome is known (`known_by_number`). A function
-- that is missing here is a defect.
-- Assumes nothing.
use mathlib.Core.Path.{refl}
use Rattle.common.specs.Determined.{Determined}
use Rattle.common.proofs.OnlyOne.{only_one}
use Rattle.board_rules.proofs.Given.{known_by_number}
use Rattle.board_gate.proofs.reported_as.Kinds as reported-as-kinds
use Rattle.board_gate.proofs.reported_as.Reads as reported-as-reads
use Rattle.board_gate.proofs.watched_node.Kinds as watched-node-kinds
use Rattle.board_gate.proofs.watched_node.Reads as watched-node-reads
use Rattle.board_gate.proofs.kept_node.Kinds as kept-node-kinds
use Rattle.board_gate.proofs.kept_node.Reads as kept-node-reads
use Rattle.board_gate.proofs.fence_after.Kinds as fence-after-kinds
use Rattle.board_gate.proofs.fence_after.Reads as fence-after-reads
use Rattle.board_gate.proofs.open_gate.Kinds as open-gate-kinds
use Rattle.board_gate.proofs.open_gate.Reads as open-gate-reads
use Rattle.board_gate.proofs.gate.Kinds as gate-kinds
use Rattle.board_gate.proofs.gate.Reads as gate-reads

reported_as_determined : Determined 0 reported-as-kinds.ps reported-as-kinds.r reported-as-reads.Post
reported_as_determined κs a z z' ws ws' p q = (only_one p q, refl)

watched_node_determined : Determined 0 watched-node-kinds.ps watched-node-kinds.r watched-node-reads.Post
watched_node_determined κs a z z' ws ws' p q = (only_one p q, refl)

kept_node_determined : Determined 0 kept-node-kinds.ps kept-node-kinds.r kept-node-reads.Post
kept_node_determined κs a z z' ws ws' p q = (only_one p q, refl)

fence_after_determined : Determined 0 fence-after-kinds.ps fence-after-kinds.r fence-after-reads.Post
fence_after_determined κs a z z' ws ws' p q = (only_one p q, refl)

open_gate_determined : Determined 1 open-gate-kinds.ps open-gate-kinds.r open-gate-reads.Post
open_gate_determined κs a z z' ws ws' p q = (known_by_number z z' (only_one p q), refl)

gate_determined : Determined 1 gate-kinds.ps gate-kinds.r gate-reads.Post
gate_determined κs a z z' ws ws' p q = (known_by_number z z' (only_one p q), refl)
