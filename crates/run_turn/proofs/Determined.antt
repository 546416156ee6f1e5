-- Each public function of `run_turn`, and why its contract determines it: the contract equates the outcome with a definition, and two
-- things that equal a third are equal (`only_one`, the single law). A function that is missing here is a defect.
-- Assumes nothing.
use Rattle.common.specs.Determined.{Determined}
use Rattle.common.proofs.OnlyOne.{only_one}
use Rattle.run_turn.proofs.turn.Kinds as turn-kinds
use Rattle.run_turn.proofs.turn.Reads as turn-reads
use Rattle.run_turn.proofs.open_turn.Kinds as open-turn-kinds
use Rattle.run_turn.proofs.open_turn.Reads as open-turn-reads

turn_determined : Determined 2 turn-kinds.ps turn-kinds.r turn-reads.Post
turn_determined κs a z z' ws ws' p q = (only_one p.0 q.0, rw (only_one p.1.0 q.1.0, only_one p.1.1 q.1.1))

open_turn_determined : Determined 2 open-turn-kinds.ps open-turn-kinds.r open-turn-reads.Post
open_turn_determined κs a z z' ws ws' p q = (only_one p.0 q.0, rw (only_one p.1 q.1))
