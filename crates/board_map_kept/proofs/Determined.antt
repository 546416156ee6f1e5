-- Each public function of `board_map_kept`, and why its contract determines it: the contract equates the outcome with a definition, and two
-- things that equal a third are equal (`only_one`, the single law). A function that is missing here is a defect.
-- Assumes nothing.
use Rattle.std.proofs.Common.{◌≡◌, ℕ, List, refl, ap}
use Rattle.common.specs.Determined.{Determined}
use Rattle.common.proofs.OnlyOne.{only_one}
use Rattle.board_slots.specs.declared.Map.{Map}
use Rattle.board_map_kept.proofs.map_of.Kinds as map-of-kinds
use Rattle.board_map_kept.proofs.map_of.Reads as map-of-reads
use Rattle.board_map_kept.proofs.marked.Kinds as marked-kinds
use Rattle.board_map_kept.proofs.marked.Reads as marked-reads

-- a map is its parts
map_same : {m n : Map} → m.parts ≡ n.parts → m ≡ n
map_same p = ap (λ (l : List ℕ). record { parts = l }) p

map_of_determined : Determined 0 map-of-kinds.ps map-of-kinds.r map-of-reads.Post
map_of_determined κs a z z' ws ws' p q = (map_same (only_one p q), refl)

marked_determined : Determined 0 marked-kinds.ps marked-kinds.r marked-reads.Post
marked_determined κs a z z' ws ws' p q = (map_same (only_one p q), refl)
