-- Why bytes and numbers are each other's, over any width and any list of widths. A number is its lowest byte and 256 times what the bytes above
-- it make, on both sides: so a field written and read is the number, as far as it fits, and a field read and written is its bytes. Fields
-- stand one behind the other on both sides, so the same holds of a list of them.
-- Assumes nothing.
use Prim.Native.Nat.{ℕ, zero, suc, ◌+◌, ◌*◌, ◌/◌, ◌%◌, ◌<◌, ◌≤◌, ◌^◌}
use mathlib.Core.Path.{◌≡◌, refl, sym, ap, ◌∙◌}
use mathlib.Core.Bool.{Bool, true, false}
use mathlib.Core.List.{List, [], ◌∷◌, ◌++◌, append_assoc}
use native.Mathlib.Nat.{pow-suc, add-zero}
use native.Mathlib.Omega.{arith}
use borrow.Author.Tests.{leb-false, lt-leb}
use lib.Dec.{leb}
use lib.ListN.{length, get_or, take, drop, length-append, length-drop}
use lib.Seq.{get_or-drop, drop-drop, drop_at, take-add}
use Rattle.common.specs.Choice.{when◌then◌else◌}
use Rattle.schedule_kinds.specs.Kinds.{total}
use Rattle.schedule_bytes.specs.Schedule.{byte_at, number_at, numbers_at}
use Rattle.schedule_writing.specs.Writing.{bytes_of, fields_of, too_large}

-- the number in the first bytes of a list, and the numbers in its first fields
pub front : ℕ → List ℕ → ℕ
front zero l = 0
front (suc w) l = get_or l 0 0 + front w (drop 1 l) * 256

pub fronts : List ℕ → List ℕ → List ℕ
fronts [] l = []
fronts (w ∷ ws) l = front w l ∷ fronts ws (drop w l)

-- reading at a place is reading the first of what stands there
number_front : (w : ℕ) (s : List ℕ) (i : ℕ) → number_at w s i ≡ front w (drop i s)
unfolding number_at front
number_front zero s i = refl
number_front (suc w) s i =
    let here : get_or (drop i s) 0 0 ≡ byte_at s i = get_or-drop i s 0 0 ∙ ap (λ (k : ℕ). get_or s k 0) (add-zero i) in
    rw (here, drop-drop 1 i s, number_front w s (i + 1)) refl

pub numbers_front : (ws s : List ℕ) (i : ℕ) → numbers_at ws s i ≡ fronts ws (drop i s)
unfolding numbers_at fronts
numbers_front [] s i = refl
numbers_front (w ∷ ws) s i = rw (drop-drop w i s, number_front w s i, numbers_front ws s (i + w)) refl

-- how long what is written is
pub length_bytes : (w n : ℕ) → length (bytes_of w n) ≡ w
unfolding bytes_of
length_bytes zero n = refl
length_bytes (suc w) n = ap suc (length_bytes w (n / 256))

pub length_fields : (ws ns : List ℕ) → length ns ≡ length ws → length (fields_of ws ns) ≡ total ws
unfolding fields_of
length_fields [] ns e = refl
length_fields (w ∷ ws) [] e = absurd (omega arith)
length_fields (w ∷ ws) (n ∷ ns) e =
    let rest = length_fields ws ns (omega arith) in
    length-append (bytes_of w n) (fields_of ws ns) ∙ rw (length_bytes w n, rest) refl

pub length_fronts : (ws l : List ℕ) → length (fronts ws l) ≡ length ws
unfolding fronts
length_fronts [] l = refl
length_fronts (w ∷ ws) l = ap suc (length_fronts ws (drop w l))

-- written and read
front_bytes : (w n : ℕ) (r : List ℕ) → n < 256 ^ w → front w (bytes_of w n ++ r) ≡ n
unfolding front bytes_of
front_bytes zero n r h = omega arith
front_bytes (suc w) n r h =
    let above : n / 256 < 256 ^ w = omega (arith, pow-suc 256 w) in
    rw (front_bytes w (n / 256) r above) (omega arith)

-- what the test says of the first field and of the others
pub first_fits : (w n : ℕ) (x : Bool) → (when leb (256 ^ w) n then true else x) ≡ false → (n < 256 ^ w) × (x ≡ false)
first_fits w n x = by (leb (256 ^ w) n) refl
  where
    by : (b : Bool) → leb (256 ^ w) n ≡ b → (when b then true else x) ≡ false → (n < 256 ^ w) × (x ≡ false)
    by true e h = absurd (let one : ◌≡◌ {A = ℕ} 0 1 = cc in omega arith)
    by false e h = (leb-false (256 ^ w) n e, h)

pub fronts_fields : (ws ns r : List ℕ) → length ns ≡ length ws → too_large ws ns ≡ false → fronts ws (fields_of ws ns ++ r) ≡ ns
unfolding fronts fields_of too_large
fronts_fields [] [] r e h = refl
fronts_fields [] (n ∷ ns) r e h = absurd (omega arith)
fronts_fields (w ∷ ws) [] r e h = absurd (omega arith)
fronts_fields (w ∷ ws) (n ∷ ns) r e h =
    let fits = first_fits w n (too_large ws ns) h in
    let rest = fronts_fields ws ns r (omega arith) fits.1 in
    let behind : drop w (bytes_of w n ++ (fields_of ws ns ++ r)) ≡ fields_of ws ns ++ r = drop_at (bytes_of w n) (fields_of ws ns ++ r) w (length_bytes w n) in
    rw (append_assoc (bytes_of w n) (fields_of ws ns) r, behind, front_bytes w n (fields_of ws ns ++ r) fits.0, rest) refl

-- every element is a byte, past the end too, where 0 is read
abbrev pub AllBytes : List ℕ → Type 0
AllBytes l = (i : ℕ) → get_or l i 0 < 256

pub bytes_drop : (n : ℕ) (l : List ℕ) → AllBytes l → AllBytes (drop n l)
bytes_drop n l b i = rw (get_or-drop n l i 0) (b (n + i))

-- read and written
bytes_front : (w : ℕ) (l : List ℕ) → AllBytes l → w ≤ length l → bytes_of w (front w l) ≡ take w l
unfolding front bytes_of
bytes_front zero l b h = refl
bytes_front (suc w) [] b h = absurd (omega arith)
bytes_front (suc w) (x ∷ l) b h =
    let low = b 0 in
    let low_is : (x + front w l * 256) % 256 ≡ x = omega arith in
    let high_is : (x + front w l * 256) / 256 ≡ front w l = omega arith in
    rw (low_is, high_is, bytes_front w l (λ i. b (suc i)) (omega arith)) refl

pub fields_fronts : (ws l : List ℕ) → AllBytes l → total ws ≤ length l → fields_of ws (fronts ws l) ≡ take (total ws) l
unfolding fronts fields_of
fields_fronts [] l b h = refl
fields_fronts (w ∷ ws) l b h =
    let rest = fields_fronts ws (drop w l) (bytes_drop w l b) (omega (arith, length-drop w l)) in
    rw (bytes_front w l b (omega arith), rest) (sym (take-add w (total ws) l))

front_fits : (w : ℕ) (l : List ℕ) → AllBytes l → front w l < 256 ^ w
unfolding front
front_fits zero l b = omega arith
front_fits (suc w) l b = omega (arith, b 0, front_fits w (drop 1 l) (bytes_drop 1 l b), pow-suc 256 w)

pub fronts_fit : (ws l : List ℕ) → AllBytes l → too_large ws (fronts ws l) ≡ false
unfolding fronts too_large
fronts_fit [] l b = refl
fronts_fit (w ∷ ws) l b = rw (lt-leb (256 ^ w) (front w l) (front_fits w l b)) (fronts_fit ws (drop w l) (bytes_drop w l b))

-- a field of no bytes holds 0
pub none_in_none : (ws l : List ℕ) (i : ℕ) → get_or ws i 0 ≡ 0 → get_or (fronts ws l) i 0 ≡ 0
unfolding fronts front
none_in_none [] l i e = refl
none_in_none (w ∷ ws) l zero e = rw e refl
none_in_none (w ∷ ws) l (suc i) e = none_in_none ws (drop w l) i e
