-- Each public function of `agent_ticket`, and why its contract determines it: the contract equates the outcome with a definition, and two
-- things that equal a third are equal (`only_one`, the single law). A function that is missing here is a defect.
-- Assumes nothing.
use mathlib.Core.Path.{refl}
use Rattle.common.specs.Determined.{Determined}
use Rattle.common.proofs.OnlyOne.{only_one}
use Rattle.agent_ticket.proofs.turn_of.Kinds as turn-of-kinds
use Rattle.agent_ticket.proofs.turn_of.Reads as turn-of-reads

turn_of_determined : Determined 0 turn-of-kinds.ps turn-of-kinds.r turn-of-reads.Post
turn_of_determined κs a z z' ws ws' p q = (only_one p q, refl)
