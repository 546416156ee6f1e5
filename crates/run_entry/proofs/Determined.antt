-- Each public function of `run_entry`, and why its contract determines it: the contract equates the outcome with a definition, and two
-- things that equal a third are equal (`only_one`, the single law). A function that is missing here is a defect.
-- Assumes nothing.
use mathlib.Core.Path.{refl}
use Rattle.common.specs.Determined.{Determined}
use Rattle.common.proofs.OnlyOne.{only_one}
use Rattle.run_entry.proofs.put.Kinds as put-kinds
use Rattle.run_entry.proofs.put.Reads as put_reads

put_determined : Determined 1 put-kinds.ps put-kinds.r put_reads.Post
put_determined κs a z z' ws ws' p q = (refl, rw (only_one p q))
