-- What a test gives is known by its number, where what it lets through has one value.
-- Assumes nothing.
use Prim.Native.Nat.{ℕ}
use mathlib.Core.Path.{◌≡◌, refl, ap, sym, ◌∙◌}
use mathlib.Core.Bool.{false}
use lib.Dec.{eqb}
use Rattle.std.specs.Prelude.{Result, Ok, Err}
use Rattle.common.specs.Choice.{when◌then◌else◌}
use Rattle.board_rules.specs.declared.Refusal.{Refusal}
use Rattle.board_rules.specs.declared.Refusal.TheVariants.{SlotTooHigh, NoRecord, NoMode, SlotIsFree, WrongPhase, NoSlotIsFree, NoWordsOrTooMany}
use Rattle.board_rules.specs.declared.Refusal.TheVariants.{NodeIsFenced, NodeOfSlotIsFenced, NodeOfSlotIsNotFenced}
use Rattle.board_rules.specs.Records.{refusal_number, number_given}

abbrev given_by : ℕ → Result Unit Refusal
given_by n =
    when eqb n 0 then Ok tt else
    when eqb n 1 then Err SlotTooHigh else
    when eqb n 2 then Err NoRecord else
    when eqb n 3 then Err NoMode else
    when eqb n 4 then Err SlotIsFree else
    when eqb n 5 then Err WrongPhase else
    when eqb n 6 then Err NoSlotIsFree else
    when eqb n 9 then Err NoWordsOrTooMany else
    when eqb n 14 then Err NodeIsFenced else
    when eqb n 15 then Err NodeOfSlotIsFenced else Err NodeOfSlotIsNotFenced

back : (r : Result Unit Refusal) → given_by (number_given r) ≡ r
back (Ok passed) = refl
back (Err SlotTooHigh) = refl
back (Err NoRecord) = refl
back (Err NoMode) = refl
back (Err SlotIsFree) = refl
back (Err WrongPhase) = refl
back (Err NoSlotIsFree) = refl
back (Err NoWordsOrTooMany) = refl
back (Err NodeIsFenced) = refl
back (Err NodeOfSlotIsFenced) = refl
back (Err NodeOfSlotIsNotFenced) = refl

pub known_by_number : (r s : Result Unit Refusal) → number_given r ≡ number_given s → r ≡ s
known_by_number r s e = sym (back r) ∙ ap given_by e ∙ back s

-- no refusal has the number 0
pub never_0 : (why : Refusal) → eqb (refusal_number why) 0 ≡ false
never_0 SlotTooHigh = refl
never_0 NoRecord = refl
never_0 NoMode = refl
never_0 SlotIsFree = refl
never_0 WrongPhase = refl
never_0 NoSlotIsFree = refl
never_0 NoWordsOrTooMany = refl
never_0 NodeIsFenced = refl
never_0 NodeOfSlotIsFenced = refl
never_0 NodeOfSlotIsNotFenced = refl
