-- An ending is had from its number, so endings of one number are one, and so are two of which one may be none.
-- Assumes nothing.
use Prim.Native.Nat.{ℕ}
use mathlib.Core.Path.{◌≡◌, refl, sym, ap, ◌∙◌}
use lib.Dec.{eqb}
use Rattle.std.specs.Option.{option_map}
use Rattle.std.specs.Prelude.{Option, Some, None}
use Rattle.common.specs.Choice.{when◌then◌else◌}
use Rattle.run_rules.specs.Endings.{ending_number}
use Rattle.run_rules.specs.declared.Ending.{Ending}
use Rattle.run_rules.specs.declared.Ending.TheVariants.{Complete, Cut, Unknown, Spent, NoRoom}

abbrev of_number : ℕ → Ending
of_number n = when eqb n 0 then Complete else when eqb n 7 then Cut else when eqb n 8 then Unknown else when eqb n 11 then Spent else NoRoom

there_and_back : (e : Ending) → e ≡ of_number (ending_number e)
there_and_back Complete = refl
there_and_back Cut = refl
there_and_back Unknown = refl
there_and_back Spent = refl
there_and_back NoRoom = refl

pub one_ending : (e f : Ending) → ending_number e ≡ ending_number f → e ≡ f
one_ending e f h = there_and_back e ∙ ap of_number h ∙ sym (there_and_back f)

maybe_back : (o : Option Ending) → o ≡ option_map of_number (option_map ending_number o)
maybe_back None = refl
maybe_back (Some e) = ap Some (there_and_back e)

pub one_maybe : (o p : Option Ending) → option_map ending_number o ≡ option_map ending_number p → o ≡ p
one_maybe o p h = maybe_back o ∙ ap (option_map of_number) h ∙ sym (maybe_back p)
