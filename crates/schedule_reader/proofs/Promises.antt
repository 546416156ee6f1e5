-- Why readers keep what is promised of them.
-- Assumes nothing.
use Prim.Native.Nat.{ℕ, zero, suc}
use mathlib.Core.Path.{◌≡◌, refl, ap, ◌∙◌}
use mathlib.Core.List.{List, [], ◌∷◌, ◌++◌}
use native.Mathlib.Omega.{arith}
use Rattle.board_call.specs.declared.AnyCall.{AnyCall}
use Rattle.schedule_bytes.specs.declared.Next.{Next}
use Rattle.schedule_bytes.specs.declared.Next.TheVariants.{Record, End, Unknown, Cut}
use Rattle.schedule_bytes.specs.Schedule.{call_then, calls_from}
use Rattle.schedule_bytes.proofs.Bodies.{kind_fixes_length}
use Rattle.schedule_reader.specs.declared.Reader.{Reader}
use Rattle.schedule_reader.specs.Reading.{place_after, at_place, moved_on, call_in, readings}
use Rattle.schedule_reader.specs.Promises.{HandsOutTheRecords, RecordMovesThePlace, NothingLeavesIt}

abbrev at_place_law : Reader → ℕ → Reader
at_place_law r n = record { src = r.src; at = n }

pub record_moves_the_place : RecordMovesThePlace
record_moves_the_place r c next e = ap (λ (x : Next). place_after x r.at) e ∙ kind_fixes_length r.src.now r.at c next e

-- what is no record leaves the place
leaves : (x : Next) (at : ℕ) → call_in x ≡ [] → place_after x at ≡ at
leaves (Record c next) at e = let z : ◌≡◌ {A = ℕ} 0 1 = cc in absurd (omega arith)
leaves End at e = refl
leaves Unknown at e = refl
leaves Cut at e = refl

pub nothing_leaves_it : NothingLeavesIt
nothing_leaves_it r e = ap (at_place_law r) (leaves (at_place r) r.at e)

-- where nothing was handed out, nothing is handed out ever after
still : (n : ℕ) (r : Reader) → call_in (at_place r) ≡ [] → readings n r ≡ []
unfolding readings
still zero r e = refl
still (suc n) r e = ap (λ (l : List AnyCall). l ++ readings n (moved_on r)) e ∙ (ap (readings n) (nothing_leaves_it r e) ∙ still n r e)

-- one reading, and then n more
one_more_law :
    (n : ℕ) (r : Reader) →
    ((q : Reader) → readings n q ≡ calls_from n q.src.now q.at) →
    (x : Next) →
    at_place r ≡ x →
    call_in x ++ readings n (at_place_law r (place_after x r.at)) ≡ call_then x (calls_from n r.src.now)
one_more_law n r rest (Record c next) e = ap (λ (l : List AnyCall). c ∷ l) (rest (at_place_law r next))
one_more_law n r rest End e = still n r (ap call_in e)
one_more_law n r rest Unknown e = still n r (ap call_in e)
one_more_law n r rest Cut e = still n r (ap call_in e)

pub hands_out_the_records : HandsOutTheRecords
unfolding readings calls_from
hands_out_the_records zero r = refl
hands_out_the_records (suc n) r = one_more_law n r (hands_out_the_records n) (at_place r) refl
