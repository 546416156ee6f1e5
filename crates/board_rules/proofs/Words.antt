-- An open and a show leave the words.
-- Assumes nothing.
use Prim.Native.Nat.{ℕ}
use mathlib.Core.Path.{◌≡◌, refl}
use mathlib.Core.Bool.{Bool, true, false, not}
use mathlib.Core.List.{List}
use lib.Dec.{ltb}
use Rattle.common.specs.Choice.{when◌then◌else◌}
use Rattle.agent_request.specs.declared.Request.{Request}
use Rattle.agent_request.specs.Request.{in_use}
use Rattle.board_rules.specs.Records.{is_record}
use Rattle.board_rules.specs.Sent.{Visited}
use Rattle.board_rules.specs.Visit.{open_visit, show_visit}

three : (a b c : Bool) (ws : List ℕ) (p q r s : Visited) → p.words ≡ ws → q.words ≡ ws → r.words ≡ ws → s.words ≡ ws → (when a then p else when b then q else when c then r else s).words ≡ ws
three true b c ws p q r s w x y z = w
three false true c ws p q r s w x y z = x
three false false true ws p q r s w x y z = y
three false false false ws p q r s w x y z = z

pub open_words : (r m i : ℕ) (q : Request) (ws : List ℕ) → (open_visit r m i q ws).words ≡ ws
unfolding open_visit
open_words r m i q ws = three (not (is_record r ws)) (ltb 1 m) (in_use q) ws _ _ _ _ refl refl refl refl

pub show_words : (r : ℕ) (q : Request) (ws : List ℕ) → (show_visit r q ws).words ≡ ws
unfolding show_visit
show_words r q ws = refl
