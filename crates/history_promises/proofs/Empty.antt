-- A board that refuses, or lets wait, whoever asks first is refused by the grants of demand 3: there is no earlier ticket. One that refuses
-- every open is refused by what an open is told: nobody sits in slot 0.
-- Assumes nothing.
use Prim.Native.Nat.{ℕ}
use mathlib.Core.Path.{◌≡◌, refl, sym, subst, ◌∙◌}
use mathlib.Core.Logic.{inl, inr}
use mathlib.Core.List.{List, []}
use native.Mathlib.Omega.{arith}
use lib.ListN.{length}
use Rattle.board_slots.specs.Slots.{lowest_free}
use Rattle.agent_ticket.specs.declared.Mode.{Mode}
use Rattle.agent_rules.specs.declared.Answer.TheVariants as tells
use Rattle.board_call.specs.declared.Call.{Call}
use Rattle.board_call.specs.declared.Call.TheVariants.{Open, Step}
use Rattle.board_rules.specs.declared.Answer.{Answer}
use Rattle.board_rules.specs.declared.Answer.TheVariants.{Refused, Told}
use Rattle.board_rules.specs.Board.{State, opened}
use Rattle.history_promises.specs.Tickets.{Given, EarlierReleased}
use Rattle.history_promises.specs.Ledger.{Ledger, blank, mine}
use Rattle.history_promises.specs.Ledger.Stage.{Asks}
use Rattle.history_promises.specs.History.{events, read_off}
use Rattle.history_promises.specs.Promises.{OpenTells, Demand}
use Rattle.history_promises.specs.Empty.{RefusingFails, WaitingFails, OneAsks, OpeningFails}

none_earlier : (l : List Given) (k : Mode) → l ≡ [] → EarlierReleased l k (length l)
none_earlier l k e = subst (λ (m : List Given). EarlierReleased m k (length m)) (sym e) (λ j h c. absurd (omega arith))

module _ (n : ℕ) (L : Ledger) (s : State) (says : Call → Answer) (i : ℕ) (asks : (L.seats i).stage ≡ Asks) (first : mine L i ≡ []) (d : Demand n L s says) where
  -- the first to ask is granted, unless it is told full
  first_granted : (a : Answer) → says (Step i) ≡ a → (a ≡ Told tells.Full → ⊥) → a ≡ Told tells.Granted
  first_granted a said not_full = sym said ∙ (d.drawn_granted i asks (λ h. not_full (sym said ∙ h))).1 (none_earlier _ _ first)

pub refusing_fails : RefusingFails
refusing_fails n L s says i m asks first said d = no_grant (first_granted n L s says i asks first d (Refused m) said no_full)
  where
    no_full : Refused m ≡ Told tells.Full → ⊥
    no_full e = let z : ◌≡◌ {A = ℕ} 0 1 = cc in absurd (omega arith)

    no_grant : Refused m ≡ Told tells.Granted → ⊥
    no_grant e = let z : ◌≡◌ {A = ℕ} 0 1 = cc in absurd (omega arith)

pub waiting_fails : WaitingFails
waiting_fails n L s says i m asks first said d = no_grant (first_granted n L s says i asks first d (Told (tells.Waiting m)) said no_full)
  where
    no_full : Told (tells.Waiting m) ≡ Told tells.Full → ⊥
    no_full e = let z : ◌≡◌ {A = ℕ} 0 1 = cc in absurd (omega arith)

    no_grant : Told (tells.Waiting m) ≡ Told tells.Granted → ⊥
    no_grant e = let z : ◌≡◌ {A = ℕ} 0 1 = cc in absurd (omega arith)

pub one_asks : OneAsks
unfolding events read_off opened lowest_free
one_asks = (refl, refl)

pub opening_fails : OpeningFails
opening_fails n s says some refuses d = by (says (Open 0 0)) (refuses 0 0).0 (refuses 0 0).1 (d.opens_where_nobody_sits 0 0)
  where
    by : (a : Answer) (x : ℕ) → a ≡ Refused x → OpenTells n blank 0 0 a → ⊥
    by a x e (inl (y, f, inl none)) = absurd (omega (arith, some))
    by a x e (inl (y, f, inr (inl none))) = absurd (omega arith)
    by a x e (inl (y, f, inr (inr all))) = all 0 (omega arith) refl
    by a x e (inr (k, f, lent, mode, here, nobody)) = let z : ◌≡◌ {A = ℕ} 0 1 = cc in absurd (omega arith)
