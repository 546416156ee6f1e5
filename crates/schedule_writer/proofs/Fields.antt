-- A record in its kind and three fields: how long each is, that a number stored byte by byte is its bytes, and that the parts are the
-- record.
-- Assumes nothing.
use Prim.Native.Nat.{ℕ, suc, ◌+◌, ◌/◌, ◌%◌, ◌-◌, ◌<◌, ◌^◌, ◌≤◌}
use mathlib.Core.Path.{◌≡◌, refl, ap, sym, ◌∙◌}
use mathlib.Core.Bool.{Bool, true, false}
use mathlib.Core.List.{List, [], ◌∷◌, ◌++◌, append-nil}
use native.Mathlib.Omega.{arith}
use Rattle.std.proofs.Common.{append_assoc}
use lib.Dec.{leb}
use borrow.Rule.Slice.PartMut.{put_mid}
use lib.ListN.{length, take, get_or, set}
use lib.Seq.{sets, drop-drop}
use Rattle.std.proofs.lemmas.List.{take_more_set, take_all, nil_from_length}
use Rattle.std.proofs.lemmas.List.Edits.{sets-eq}
use Rattle.common.specs.Choice.{when◌then◌else◌}
use Rattle.schedule_kinds.specs.Kinds.{widths_of, body_of, total, numbers_of}
use Rattle.schedule_kinds.specs.declared.Parts.{Parts}
use Rattle.schedule_kinds.proofs.EachKind.{beyond, each_kind}
use Rattle.schedule_writing.specs.Writing.{bytes_of, fields_of, record_of, too_large}

-- bytes stored one by one from the lowest on, and those still to come, are the number's bytes
module _ (l : List ℕ) (k : ℕ) (long : length l ≡ k) (i n : ℕ) (ys : List ℕ) (so-far : take i l ++ bytes_of (k - i) n ≡ ys) where
  pub byte_stored : i < k → take (i + 1) (set l i (n % 256)) ++ bytes_of (k - (i + 1)) (n / 256) ≡ ys
  unfolding bytes_of
  byte_stored h =
      let room : i < length l = omega arith in
      let less : k - i ≡ suc (k - (i + 1)) = omega arith in
      let shown : take i l ++ (n % 256 ∷ bytes_of (k - (i + 1)) (n / 256)) ≡ ys =
      sym (ap (λ (w : ℕ). take i l ++ bytes_of w n) less) ∙ so-far in
      rw (take_more_set l i (n % 256) room, append_assoc) shown

  pub all_stored : k ≤ i → l ≡ ys
  unfolding bytes_of
  all_stored h =
      let none : k - i ≡ 0 = omega arith in
      let all : take i l ≡ l = take_all i l (omega arith) in
      sym (append-nil l) ∙ sym (ap (λ (w : ℕ). l ++ bytes_of w n) none) ∙ sym (ap (λ (x : List ℕ). x ++ bytes_of (k - i) n) all) ∙ so-far

-- a kind has three fields, which are its body, and that is short
pub record Three (k : ℕ) : Type 0 where
  pub are : widths_of k ≡ get_or (widths_of k) 0 0 ∷ get_or (widths_of k) 1 0 ∷ get_or (widths_of k) 2 0 ∷ []
  pub together : get_or (widths_of k) 0 0 + get_or (widths_of k) 1 0 + get_or (widths_of k) 2 0 ≡ body_of k
  pub short : body_of k ≤ 4

pub three_fields : (k : ℕ) → Three k
unfolding body_of widths_of
three_fields =
    each_kind
    Three
    (record { are = refl; together = refl; short = omega arith })
    (record { are = refl; together = refl; short = omega arith })
    (record { are = refl; together = refl; short = omega arith })
    (record { are = refl; together = refl; short = omega arith })
    (record { are = refl; together = refl; short = omega arith })
    (record { are = refl; together = refl; short = omega arith })
    (record { are = refl; together = refl; short = omega arith })
    (record { are = refl; together = refl; short = omega arith })
    (λ k h. record { are = rw (beyond k h) refl; together = rw (beyond k h) refl; short = omega (arith, ap total (beyond k h)) })

-- kind and fields are the record
only : (k : ℕ) (x : List ℕ) → length x ≡ 1 → set x 0 k ≡ k ∷ []
only k [] e = absurd (omega arith)
only k (y ∷ []) e = refl
only k (y ∷ (z ∷ x)) e = absurd (omega arith)

-- of the widths that the code has
module _ (p : Parts) (ws : List ℕ) (w : ws ≡ widths_of p.kind) where
  are : widths_of p.kind ≡ get_or ws 0 0 ∷ get_or ws 1 0 ∷ get_or ws 2 0 ∷ []
  are = rw w (three_fields p.kind).are

  pub together : get_or ws 0 0 + get_or ws 1 0 + get_or ws 2 0 ≡ body_of p.kind
  together = rw w (three_fields p.kind).together

  pub is_the_record :
      (x a b c d : List ℕ) (i j k : ℕ) →
      length x ≡ 1 →
      (a ≡ bytes_of i p.first) × (i ≡ get_or ws 0 0) →
      (b ≡ bytes_of j p.second) × (j ≡ get_or ws 1 0) →
      (c ≡ bytes_of k p.third) × (k ≡ get_or ws 2 0) →
      length d ≡ 0 →
      set x 0 p.kind ++ (a ++ (b ++ (c ++ d))) ≡ record_of p
  unfolding record_of fields_of
  is_the_record x a b c d i j k one e1 e2 e3 none = rw (only p.kind x one, e1.0, e2.0, e3.0, e1.1, e2.1, e3.1, nil_from_length d none, are, append-nil) refl

  -- the first number that is too large for its field decides; the third decides where the others fit
  pub by_the_first : leb (256 ^ get_or ws 0 0) p.first ≡ true → true ≡ too_large (widths_of p.kind) (numbers_of p)
  unfolding too_large
  by_the_first e = rw (are, e) refl

  pub by_the_second :
      leb (256 ^ get_or ws 0 0) p.first ≡ false →
      leb (256 ^ get_or ws 1 0) p.second ≡ true →
      true ≡ too_large (widths_of p.kind) (numbers_of p)
  unfolding too_large
  by_the_second e f = rw (are, e, f) refl

  pub by_the_third :
      leb (256 ^ get_or ws 0 0) p.first ≡ false →
      leb (256 ^ get_or ws 1 0) p.second ≡ false →
      leb (256 ^ get_or ws 2 0) p.third ≡ too_large (widths_of p.kind) (numbers_of p)
  unfolding too_large
  by_the_third e f = rw (are, e, f) (last (leb (256 ^ get_or ws 2 0) p.third))
    where
      last : (x : Bool) → x ≡ (when x then true else false)
      last true = refl
      last false = refl

-- what a part of the buffer became stands in its place
pub in_place : (s ys : List ℕ) (at n : ℕ) → length ys ≡ n → at + n ≤ length s → put_mid at n s ys ≡ sets s at ys
in_place s ys at n long room = rw (sets-eq ys s at (omega arith), long, drop-drop, append_assoc) refl
