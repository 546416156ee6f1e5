-- The visit of the slot that it aims at is the call; only an open aims by the map.
-- Assumes nothing.
use Rattle.std.proofs.Common.{rules, ◌≡◌, length, ap, ◌∙◌, List, ℕ, refl}
use Rattle.board_slots.specs.Map.{map_of}
use Rattle.board_call.specs.declared.Call.{Call}
use Rattle.board_call.specs.declared.Call.TheVariants.{Open, Step, Release, Show}
use Rattle.board_rules.specs.Visit.{aim_of}
use Rattle.board_nodes.proofs.Placed.{by_visit}
use Rattle.board_by_value.proofs.played.Goals as goal
use Rattle.board_by_value.proofs.played.Goals.{in-Open, in_default}

same_aim : (d : Call) (m m' : List ℕ) → ((r n : ℕ) → d ≡ Open r n → m ≡ m') → aim_of d m ≡ aim_of d m'
unfolding aim_of
same_aim (Open r n) m m' e = rw (e r n refl) refl
same_aim (Step i) m m' e = refl
same_aim (Release i) m m' e = refl
same_aim (Show r) m m' e = refl

pub returns : goal.returns
returns c =
    let long : length c.args.b.slots ≡ 256 = search rules in
    let same : aim_of c.reported_as-c.result c.match-c.map.parts ≡ aim_of c.reported_as-c.result (map_of c.args.b.slots) =
    elim c.match-c.branch [
      | in-Open w ↦ ap (aim_of c.reported_as-c.result) (rw w.map-is w.map_of-map.ensures)
      | in_default w ↦ same_aim _ _ _ (λ r n e. absurd (w.in_default.not-Open r n e))
    ] in
    by_visit c.args.o c.args.b c.args.words.now _ _ _ long (c.aim.ensures ∙ same ∙ ap (λ (d : Call). aim_of d (map_of c.args.b.slots)) c.reported_as-c.ensures) c.placed.ensures
