-- The tickets of one record, oldest first, as the answers tell of them.
use Rattle.std.specs.Prelude.{ℕ, zero, suc, ◌<◌, ◌≡◌, Bool, true, false, not, ◌&&◌, List, [], ◌∷◌, get_or, take}
use Rattle.common.specs.Choice.{when◌then◌else◌}
use Rattle.agent_ticket.specs.declared.Mode.{Mode}
use Rattle.agent_ticket.specs.declared.Mode.TheVariants.{Reader, Writer}

-- A ticket that was given: its kind, the slot that drew it, and whether it has been released.
pub record Given : Type 0 where
  pub kind : Mode
  pub slot : ℕ
  pub released : Bool

-- Rule 9.4: Readers' tickets do not conflict with each other; any other two do.
abbrev pub conflicts : Mode → Mode → Bool
conflicts Reader Reader = false
conflicts Reader Writer = true
conflicts Writer Reader = true
conflicts Writer Writer = true

-- The ticket at a place. Past the last there is none; this one stands for it.
abbrev pub past_the_last : Given
past_the_last = record { kind = Reader; slot = 0; released = true }

abbrev pub ticket_at : List Given → ℕ → Given
ticket_at l i = get_or l i past_the_last

abbrev pub same_kind : Mode → Mode → Bool
same_kind Reader Reader = true
same_kind Reader Writer = false
same_kind Writer Reader = false
same_kind Writer Writer = true

-- How many elements of a list pass a test.
unfoldable pub counted : {A : Type 0} → (A → Bool) → List A → ℕ
counted f [] = zero
counted f (a ∷ l) = when f a then suc (counted f l) else counted f l

-- How many tickets of a kind had been given.
abbrev pub given_of : Mode → List Given → ℕ
given_of k l = counted (λ (t : Given). same_kind k t.kind) l

-- A ticket is of a kind and has been released,
abbrev pub is_released : Mode → Given → Bool
is_released k t = same_kind k t.kind && t.released

-- and how many are.
abbrev pub released_of : Mode → List Given → ℕ
released_of k l = counted (is_released k) l

-- Every ticket before the place i that conflicts with the kind k has been released.
abbrev pub EarlierReleased : List Given → Mode → ℕ → Type 0
EarlierReleased l k i = (j : ℕ) → j < i → conflicts (ticket_at l j).kind k ≡ true → (ticket_at l j).released ≡ true

-- A ticket that conflicts with the kind k and has not been released,
abbrev pub stands_in_the_way : Mode → Given → Bool
stands_in_the_way k t = conflicts t.kind k && not t.released

-- and how many such tickets there are before the place i.
abbrev pub unreleased_before : List Given → Mode → ℕ → ℕ
unreleased_before l k i = counted (stands_in_the_way k) (take i l)

-- All tickets have been released.
abbrev pub AllReleased : List Given → Type 0
AllReleased l = (j : ℕ) → (ticket_at l j).released ≡ true
