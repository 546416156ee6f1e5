-- Why a record's length is that of its kind: only the last of the three tests' answers is a record, and its place is past kind and body.
-- Assumes nothing.
use Prim.Native.Nat.{ℕ, ◌+◌, ◌-◌, ◌<◌}
use mathlib.Core.Path.{◌≡◌}
use mathlib.Core.Bool.{Bool, true, false}
use native.Mathlib.Omega.{arith}
use lib.Dec.{eqb, ltb, leb}
use lib.ListN.{length}
use mathlib.Core.List.{List}
use Rattle.board_call.specs.declared.AnyCall.{AnyCall}
use Rattle.common.specs.Choice.{when◌then◌else◌}
use Rattle.schedule_kinds.specs.Kinds.{body_of}
use Rattle.schedule_bytes.specs.Schedule.{byte_at, call_at, next_of}
use Rattle.schedule_bytes.specs.Promises.{KindFixesLength}
use Rattle.schedule_bytes.specs.declared.Next.TheVariants.{Record, End, Unknown, Cut}

-- the place after a record is past its kind and its body
after_of :
    (a b c : Bool) (x : AnyCall) (n : ℕ) (y : AnyCall) (m : ℕ) →
    (when a then End else when b then Unknown else when c then Cut else Record x n) ≡ Record y m →
    m ≡ n
after_of true b c x n y m e = let z : ◌≡◌ {A = ℕ} 0 1 = cc in absurd (omega arith)
after_of false true c x n y m e = let z : ◌≡◌ {A = ℕ} 0 1 = cc in absurd (omega arith)
after_of false false true x n y m e = let z : ◌≡◌ {A = ℕ} 0 1 = cc in absurd (omega arith)
after_of false false false x n y m e = cc

pub kind_fixes_length : KindFixesLength
unfolding next_of
kind_fixes_length s at c next e =
    after_of (leb (length s) at) (eqb (body_of (byte_at s at)) 0) (ltb (length s - (at + 1)) (body_of (byte_at s at))) (call_at (byte_at s at) s (at + 1)) (at + 1 + body_of (byte_at s at)) c next e

pub record_after : (s : List ℕ) (at : ℕ) (c : AnyCall) (after : ℕ) → next_of s at ≡ Record c after → at < after
record_after s at c after e = omega (arith, kind_fixes_length s at c after e)
