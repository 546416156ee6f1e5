-- A refused ask is made of the request itself; one that is taken has number 0.
-- Assumes nothing.
use Prim.Native.Nat.{◌<◌}
use mathlib.Core.Path.{◌≡◌, refl}
use native.Mathlib.Omega.{arith}
use lib.Dec.{ltb}
use Rattle.common.proofs.Choices.{either}
use Rattle.agent_request.specs.Request.{in_use}
use Rattle.agent_c_rules.specs.Boundary.{Asked, AskRefusedKeeps}

pub ask_refused_keeps : AskRefusedKeeps
ask_refused_keeps q r m =
    either (λ (a : Asked). 0 < a.number → a.request ≡ q) (ltb 1 m) (λ h. refl)
    (either (λ (a : Asked). 0 < a.number → a.request ≡ q) (in_use q) (λ h. refl) (λ h. absurd (omega arith)))
