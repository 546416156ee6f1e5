-- What it means that a contract determines a function: two outcomes that it allows, of the same arguments, are equal.
-- An outcome is the result and what stands behind each `&mut` afterwards.
use Rattle.std.specs.Prelude.{ℕ, ◌≡◌, List}
use contract.Monad.{fact}
use contract.Lifetimes.{Lfts}
use denote.Triple.Entry.{Args, Res}
use borrow.Fn.Kinds.{ParamKind, ResultKind, Out, Dens, res_t, ended_of}
use borrow.Fn.World.{World, Pr}
use denote.Triple.Clauses.{Ended, Lasts, AtExit, at_exit}

abbrev pub Determined : (n : ℕ) (ps : List (ParamKind n)) (r : ResultKind n) → Out n ps r → Type 0
Determined n ps r Allows =
    (κs : Lfts n) (a : Dens κs ps) (z z' : (res_t r κs).Denot) (ws ws' : Lasts (ended_of n ps r) κs a) →
    Allows κs a z (at_exit (ended_of n ps r) κs a ws) →
    Allows κs a z' (at_exit (ended_of n ps r) κs a ws') →
    (z ≡ z') × (ws ≡ ws')

-- The same for a contract over a struct that is held or lent, of which the toolchain makes no reading: the contract is then a plain claim of
-- the lifetimes, the arguments, the result and the parameters at exit.
abbrev pub Claim : Ended → Type 1
Claim T = (κs : Lfts T.signature.lifetimes) → Args T.signature κs → Res T.signature κs → AtExit T κs → Type 0

abbrev pub DeterminedOf : (T : Ended) → Claim T → Type 0
DeterminedOf T Allows =
    (κs : Lfts T.signature.lifetimes) (a : Args T.signature κs) (z z' : Res T.signature κs) (ws ws' : Lasts T κs a) →
    Allows κs a z (at_exit T κs a ws) →
    Allows κs a z' (at_exit T κs a ws') →
    (z ≡ z') × (ws ≡ ws')

-- What such a contract ensures, at each model of the logic.
abbrev pub Ensured : Ended → Type 2
Ensured T = (w : World) (κs : Lfts T.signature.lifetimes) → Args T.signature κs → Res T.signature κs → AtExit T κs → Pr w

-- The claim that a contract makes: at every model, what it ensures is exactly that this claim holds.
pub record Says (T : Ended) (ensures : Ensured T) : Type 2 where
  pub claim : Claim T
  pub exactly :
      (w : World) (κs : Lfts T.signature.lifetimes) (a : Args T.signature κs) (r : Res T.signature κs) (s : AtExit T κs) →
      ensures w κs a r s ≡ fact w.𝓤 (claim κs a r s)
