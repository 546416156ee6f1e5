-- The three ways a run goes at a place: it halts by the allowance or the room, it leaves where no record stands, or it plays the record and
-- goes on. And what has been played so far, put in front of the rest.
-- Assumes nothing.
use Prim.Native.Nat.{ℕ, zero, suc, ◌-◌, ◌<◌, ◌≤◌}
use mathlib.Core.Path.{◌≡◌, refl, ap, sym}
use mathlib.Core.Bool.{Bool, true, false}
use mathlib.Core.List.{List}
use native.Mathlib.Omega.{arith}
use borrow.Author.Tests.{ltb-false}
use lib.Dec.{eqb, ltb, eqb-suc-zero}
use Rattle.board_call.specs.declared.AnyCall.{AnyCall}
use Rattle.board_nodes.specs.Site.{Site, site_of, played_at}
use Rattle.schedule_bytes.specs.Schedule.{next_of}
use Rattle.schedule_bytes.specs.declared.Next.{Next}
use Rattle.schedule_bytes.specs.declared.Next.TheVariants.{Record, End, Unknown, Cut}
use Rattle.run_rules.specs.Run.{Whole, ended, followed, spent, goes_on, run_of}
use Rattle.run_rules.specs.Halts.{is_end, halted_of, leaves_of, HaltsWhereItEnds, LeavesWhereItEnds, PlaysWhereItDoesNot}

module _ (at : ℕ) (s : Site) where
  same_end : (m n : ℕ) → m ≡ n → ended m at s ≡ ended n at s
  same_end m n e = ap (λ (k : ℕ). ended k at s) e

  halts_spent : (n : Next) (short : Bool) (h : ℕ) → halted_of (is_end n) true short ≡ h → (h ≡ 0 → ⊥) → spent n at s ≡ ended h at s
  halts_spent End short h e ne = absurd (ne (sym e))
  halts_spent (Record c next) short h e ne = same_end 11 h e
  halts_spent Unknown short h e ne = same_end 11 h e
  halts_spent Cut short h e ne = same_end 11 h e

  halts_short :
      (n : Next) (short : Bool) (h : ℕ) (rest : ℕ → Site → Whole) →
      halted_of (is_end n) false short ≡ h →
      (h ≡ 0 → ⊥) →
      goes_on n short at s rest ≡ ended h at s
  halts_short End short h rest e ne = absurd (ne (sym e))
  halts_short Unknown true h rest e ne = same_end 12 h e
  halts_short Unknown false h rest e ne = absurd (ne (sym e))
  halts_short Cut true h rest e ne = same_end 12 h e
  halts_short Cut false h rest e ne = absurd (ne (sym e))
  halts_short (Record c next) true h rest e ne = same_end 12 h e
  halts_short (Record c next) false h rest e ne = absurd (ne (sym e))

  leaves_spent : (n : Next) (short : Bool) → halted_of (is_end n) true short ≡ 0 → spent n at s ≡ ended (leaves_of n) at s
  leaves_spent End short e = refl
  leaves_spent (Record c next) short e = absurd (omega arith)
  leaves_spent Unknown short e = absurd (omega arith)
  leaves_spent Cut short e = absurd (omega arith)

  leaves_short :
      (n : Next) (short : Bool) (rest : ℕ → Site → Whole) →
      ((c : AnyCall) (next : ℕ) → n ≡ Record c next → ⊥) →
      halted_of (is_end n) false short ≡ 0 →
      goes_on n short at s rest ≡ ended (leaves_of n) at s
  leaves_short End short rest o e = refl
  leaves_short Unknown true rest o e = absurd (omega arith)
  leaves_short Unknown false rest o e = refl
  leaves_short Cut true rest o e = absurd (omega arith)
  leaves_short Cut false rest o e = refl
  leaves_short (Record c next) true rest o e = absurd (omega arith)
  leaves_short (Record c next) false rest o e = absurd (o c next refl)

  plays_short :
      (c : AnyCall) (next : ℕ) (short : Bool) (rest : ℕ → Site → Whole) →
      ◌≡◌ {A = ℕ} (halted_of false false short) 0 →
      goes_on (Record c next) short at s rest ≡ followed c (played_at c s).answer (rest next (site_of (played_at c s)))
  plays_short c next true rest e = absurd (omega arith)
  plays_short c next false rest e = refl

room_left : (room : ℕ) (short : Bool) → ltb room 12 ≡ short → ◌≡◌ {A = ℕ} (halted_of false false short) 0 → 12 ≤ room
room_left room true t e = absurd (omega arith)
room_left room false t e = ltb-false room 12 t

module _ (bytes : List ℕ) (at : ℕ) (s : Site) (room : ℕ) where
  pub halts : (a h : ℕ) → halted_of (is_end (next_of bytes at)) (eqb a 0) (ltb room 12) ≡ h → (h ≡ 0 → ⊥) → run_of a room bytes at s ≡ ended h at s
  unfolding run_of
  halts zero h e ne = halts_spent at s (next_of bytes at) (ltb room 12) h e ne
  halts (suc a) h e ne = halts_short at s (next_of bytes at) (ltb room 12) h _ (rw (eqb-suc-zero a) at e) ne

  pub leaves :
      (a : ℕ) →
      ((c : AnyCall) (next : ℕ) → next_of bytes at ≡ Record c next → ⊥) →
      halted_of (is_end (next_of bytes at)) (eqb a 0) (ltb room 12) ≡ 0 →
      run_of a room bytes at s ≡ ended (leaves_of (next_of bytes at)) at s
  unfolding run_of
  leaves zero o e = leaves_spent at s (next_of bytes at) (ltb room 12) e
  leaves (suc a) o e = leaves_short at s (next_of bytes at) (ltb room 12) _ o (rw (eqb-suc-zero a) at e)

  pub plays :
      (a : ℕ) (c : AnyCall) (next : ℕ) →
      next_of bytes at ≡ Record c next →
      halted_of (is_end (next_of bytes at)) (eqb a 0) (ltb room 12) ≡ 0 →
      (run_of a room bytes at s ≡ followed c (played_at c s).answer (run_of (a - 1) (room - 12) bytes next (site_of (played_at c s)))) × ((0 < a) × (12 ≤ room))
  unfolding run_of
  plays zero c next n e = let z : halted_of false true (ltb room 12) ≡ 0 = rw n at e in absurd (omega arith)
  plays (suc a) c next n e =
      let z : halted_of false false (ltb room 12) ≡ 0 = rw (n, eqb-suc-zero a) at e in
      let less : suc a - 1 ≡ a = omega arith in
      (rw (n, less) (plays_short at s c next (ltb room 12) _ z), (omega arith, room_left room (ltb room 12) refl z))

pub halts_where_it_ends : HaltsWhereItEnds
halts_where_it_ends a room bytes at s ne = halts bytes at s room a _ refl ne

pub leaves_where_it_ends : LeavesWhereItEnds
leaves_where_it_ends a room bytes at s e none = leaves bytes at s room a none e

pub plays_where_it_does_not : PlaysWhereItDoesNot
plays_where_it_does_not a room bytes at s c next e n = (plays bytes at s room a c next n e).0
