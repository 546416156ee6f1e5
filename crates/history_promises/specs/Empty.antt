-- Empty boards that demand 3 refuses, whatever their words. Statements only: proofs/ has why each holds.
use Rattle.std.specs.Prelude.{ℕ, ◌≤◌, ◌≡◌, [], ◌∷◌}
use Rattle.agent_rules.specs.declared.Answer.TheVariants.{Waiting}
use Rattle.board_call.specs.declared.Call.{Call}
use Rattle.board_call.specs.declared.Call.TheVariants.{Open, Step}
use Rattle.board_rules.specs.declared.Answer.{Answer}
use Rattle.board_rules.specs.declared.Answer.TheVariants.{Refused, Told}
use Rattle.board_rules.specs.Board.{State}
use Rattle.history_promises.specs.Ledger.{Ledger, blank, mine}
use Rattle.history_promises.specs.Ledger.Stage.{Asks}
use Rattle.history_promises.specs.History.{ledger_after}
use Rattle.history_promises.specs.History.Move.{Do}
use Rattle.history_promises.specs.Promises.{Demand}

-- The first to ask on a record may be neither refused
abbrev pub RefusingFails : Type 0
RefusingFails =
    (n : ℕ) (L : Ledger) (s : State) (says : Call → Answer) (i m : ℕ) →
    (L.seats i).stage ≡ Asks → mine L i ≡ [] → says (Step i) ≡ Refused m → Demand n L s says → ⊥

-- nor told to wait;
abbrev pub WaitingFails : Type 0
WaitingFails =
    (n : ℕ) (L : Ledger) (s : State) (says : Call → Answer) (i m : ℕ) →
    (L.seats i).stage ≡ Asks → mine L i ≡ [] → says (Step i) ≡ Told (Waiting m) → Demand n L s says → ⊥

-- and who has opened does ask.
abbrev pub OneAsks : Type 0
OneAsks = (((ledger_after 1 (Do (Open 0 1) ∷ [])).seats 0).stage ≡ Asks) × (mine (ledger_after 1 (Do (Open 0 1) ∷ [])) 0 ≡ [])

-- Nor may a fresh board refuse every open.
abbrev pub OpeningFails : Type 0
OpeningFails =
    (n : ℕ) (s : State) (says : Call → Answer) →
    1 ≤ n →
    ((r m : ℕ) → (x : ℕ) × (says (Open r m) ≡ Refused x)) →
    Demand n blank s says → ⊥
