-- A list copied over a part is the same list stored from its first place on (`copied`), so an entry copied in two parts is the entry stored.
-- Assumes nothing.
use Prim.Native.Nat.{ℕ, suc, ◌+◌, ◌-◌, ◌<◌, ◌≤◌}
use mathlib.Core.Path.{◌≡◌, refl, sym, ◌∙◌, ap}
use mathlib.Core.List.{List, [], ◌∷◌, ◌++◌, append_assoc}
use native.Mathlib.Nat.{add-zero}
use native.Mathlib.Omega.{arith}
use borrow.Author.Tests.{le-leb, lt-leb}
use borrow.Rule.Slice.PartMut.{put_mid}
use lib.ListN.{length, take, drop, set}
use lib.Seq.{sets, sets-eq, length-sets, drop-drop}
use Rattle.board_rules.specs.declared.Said.{Said}
use Rattle.run_entry.specs.Entry.{entry_of, put_of}

copied : (l vs : List ℕ) (at n : ℕ) → n ≡ length vs → at + n ≤ length l → put_mid at n l vs ≡ sets l at vs
copied l vs at n e h =
    rw e
    (ap (λ (r : List ℕ). take at l ++ (vs ++ r)) (drop-drop (length vs) at l) ∙ sym (append_assoc (take at l) vs (drop (at + length vs) l)) ∙
    sym (sets-eq vs l at (omega arith)))

-- one list stored behind another is the two stored as one
sets_apart : (l us vs : List ℕ) (at : ℕ) → sets (sets l at us) (at + length us) vs ≡ sets l at (us ++ vs)
sets_apart l [] vs at = rw (add-zero at) refl
sets_apart l (u ∷ us) vs at =
    let next : at + suc (length us) ≡ suc at + length us = omega arith in
    rw next (sets_apart (set l at u) us vs (suc at))

module _ (report : List ℕ) (at : ℕ) (d : Said) where
  pub misses : length report < at + 12 → report ≡ put_of report at d
  unfolding put_of
  misses h = rw (lt-leb (at + 12) (length report) h)

  pub fits : at + 12 ≤ length report → put_of report at d ≡ sets report at (entry_of d)
  unfolding put_of
  fits h = rw (le-leb (at + 12) (length report) h)

  pub stored :
      (front value : List ℕ) →
      at + 12 ≤ length report →
      length front ≡ 4 →
      length value ≡ 8 →
      front ++ value ≡ entry_of d →
      put_mid (at + 4) (at + 12 - (at + 4)) (put_mid at (at + 4 - at) report front) value ≡ put_of report at d
  stored front value h e f w =
      let four : at + 4 - at ≡ 4 = omega arith in
      let eight : at + 12 - (at + 4) ≡ 8 = omega arith in
      let first : put_mid at 4 report front ≡ sets report at front = copied report front at 4 (sym e) (omega arith) in
      let room = length-sets report at front in
      let second = copied (sets report at front) value (at + 4) 8 (sym f) (omega arith) in
      let next : at + 4 ≡ at + length front = omega arith in
      rw (four, eight, first, second, next, sets_apart report front value at, w) (sym (fits h))
