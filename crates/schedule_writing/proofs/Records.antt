-- Why a record is read as the call that wrote it, and written as the bytes that were read: a record stands at a place exactly where the bytes
-- from there on are its kind, its fields and then whatever follows (`stands`, `stood`), and kind and fields are the call.
-- Assumes nothing.
use Prim.Native.Nat.{ℕ, suc, ◌+◌, ◌-◌, ◌<◌, ◌≤◌}
use mathlib.Core.Path.{◌≡◌, refl, sym, ap, ◌∙◌}
use mathlib.Core.Bool.{Bool, true, false}
use mathlib.Core.Logic.{◌⊎◌, inl, inr}
use mathlib.Core.List.{List, [], ◌∷◌, ◌++◌, append_assoc}
use native.Mathlib.Nat.{add-zero}
use native.Mathlib.Omega.{arith}
use borrow.Author.Tests.{leb-false, ltb-true, ltb-false, lt-leb, le-ltb, ne_eqb, eqb-false}
use lib.Dec.{eqb, ltb, leb}
use lib.ListN.{length, get_or, take, drop, length-append, length-drop, take-append-drop}
use lib.Seq.{sets, sets-eq, get_or-drop, drop-drop, drop_at, take_at, length-take-le, drop-cons}
use Rattle.common.specs.Choice.{when◌then◌else◌}
use Rattle.board_call.specs.declared.AnyCall.{AnyCall}
use Rattle.schedule_kinds.specs.Kinds.{widths_of, body_of, numbers_of, parts_from, parts_of, call_of}
use Rattle.schedule_kinds.specs.declared.Parts.{Parts}
use Rattle.schedule_kinds.proofs.EachKind.{parts_are_the_call, three}
use Rattle.schedule_bytes.specs.Schedule.{byte_at, numbers_at, call_at, next_of}
use Rattle.schedule_bytes.specs.declared.Next.TheVariants.{Record, End, Unknown, Cut}
use Rattle.schedule_writing.specs.Writing.{fields_of, record_of, length_of, too_large, Writing, refused, writing_of}
use Rattle.schedule_writing.proofs.Numbers.{fronts, numbers_front, length_fields, length_fronts, fronts_fields, fields_fronts, fronts_fit, none_in_none, AllBytes, bytes_drop}

-- ---- a record as bytes

pub length_record : (p : Parts) → length (record_of p) ≡ length_of p
unfolding record_of length_of body_of
length_record p = let e = length_fields (widths_of p.kind) (numbers_of p) (sym (three p.kind)) in omega arith

-- a number for which there is no field is 0, where none is too large
pub unused : (p : Parts) → too_large (widths_of p.kind) (numbers_of p) ≡ false → (i : ℕ) → get_or (widths_of p.kind) i 0 ≡ 0 → get_or (numbers_of p) i 0 ≡ 0
unused p h i e =
    let back = fronts_fields (widths_of p.kind) (numbers_of p) [] (sym (three p.kind)) h in
    ap (λ (l : List ℕ). get_or l i 0) (sym back) ∙ none_in_none (widths_of p.kind) (fields_of (widths_of p.kind) (numbers_of p) ++ []) i e

-- ---- where a record stands

-- what is read of a place, by the three tests
tests : (s : List ℕ) (at k : ℕ) → at < length s → byte_at s at ≡ k → 0 < body_of k → at + 1 + body_of k ≤ length s → next_of s at ≡ Record (call_at k s (at + 1)) (at + 1 + body_of k)
unfolding next_of
tests s at k inside here known room =
    rw (lt-leb (length s) at inside, here, ne_eqb (body_of k) 0 (λ e. omega arith), le-ltb (length s - (at + 1)) (body_of k) (omega arith)) refl

-- the bytes of a record, and whatever follows, are read as its call
pub stands :
    (s : List ℕ) (at : ℕ) (p : Parts) (r : List ℕ) →
    0 < body_of p.kind →
    too_large (widths_of p.kind) (numbers_of p) ≡ false →
    drop at s ≡ record_of p ++ r →
    next_of s at ≡ Record (call_of p) (at + length_of p)
unfolding record_of length_of call_at
stands s at p r known fit e =
    let k = p.kind in
    let fields = fields_of (widths_of k) (numbers_of p) in
    let as_many : length s - at ≡ suc (length fields + length r) = sym (length-drop at s) ∙ ap length e ∙ ap suc (length-append fields r) in
    let fields_long : length fields ≡ body_of k = omega (arith, length_record p) in
    let here : byte_at s at ≡ k = ap (λ (i : ℕ). get_or s i 0) (sym (add-zero at)) ∙ sym (get_or-drop at s 0 0) ∙ ap (λ (l : List ℕ). get_or l 0 0) e in
    let behind : drop (at + 1) s ≡ fields ++ r = sym (drop-drop 1 at s) ∙ ap (λ (l : List ℕ). drop 1 l) e in
    let numbers : numbers_at (widths_of k) s (at + 1) ≡ numbers_of p =
    numbers_front (widths_of k) s (at + 1) ∙ ap (fronts (widths_of k)) behind ∙ fronts_fields (widths_of k) (numbers_of p) r (sym (three k)) fit in
    let read : call_at k s (at + 1) ≡ call_of p = ap (λ (ns : List ℕ). call_of (parts_from k ns)) numbers in
    let place : at + 1 + body_of k ≡ at + (1 + body_of k) = omega arith in
    tests s at k (omega arith) here known (omega arith) ∙ rw (read, place) refl

-- three numbers are those of a list of three
these : (k : ℕ) (l : List ℕ) → length l ≡ 3 → numbers_of (parts_from k l) ≡ l
these k [] e = absurd (omega arith)
these k (a ∷ []) e = absurd (omega arith)
these k (a ∷ (b ∷ [])) e = absurd (omega arith)
these k (a ∷ (b ∷ (c ∷ []))) e = refl
these k (a ∷ (b ∷ (c ∷ (d ∷ l)))) e = absurd (omega arith)

-- what is known where a record was read: its bytes stand there, and no number of its call is too large
pub record Stood (s : List ℕ) (at : ℕ) (c : AnyCall) (n : ℕ) : Type 0 where
  pub known : 0 < body_of (parts_of c).kind
  pub fit : too_large (widths_of (parts_of c).kind) (numbers_of (parts_of c)) ≡ false
  pub bytes : drop at s ≡ record_of (parts_of c) ++ drop n s
  pub place : n ≡ at + length_of (parts_of c)
  pub room : n ≤ length s

-- of what the three tests come to, a record is the last
is_record_law :
    (x y z : Bool) (c : AnyCall) (n : ℕ) (d : AnyCall) (m : ℕ) →
    (when x then End else when y then Unknown else when z then Cut else Record c n) ≡ Record d m →
    (x ≡ false) × (y ≡ false) × (z ≡ false) × (d ≡ c) × (m ≡ n)
is_record_law true y z c n d m e = absurd (let one : ◌≡◌ {A = ℕ} 0 1 = cc in omega arith)
is_record_law false true z c n d m e = absurd (let one : ◌≡◌ {A = ℕ} 0 1 = cc in omega arith)
is_record_law false false true c n d m e = absurd (let one : ◌≡◌ {A = ℕ} 0 1 = cc in omega arith)
is_record_law false false false c n d m e = (refl, refl, refl, cc, cc)

module _ (s : List ℕ) (at : ℕ) (b : AllBytes s) where
  abbrev k : ℕ
  k = byte_at s at

  -- what stands behind the kind, and the kind with the numbers in it
  abbrev body : List ℕ
  body = drop (at + 1) s

  abbrev found : Parts
  found = parts_from k (fronts (widths_of k) body)

  its_numbers : numbers_of found ≡ fronts (widths_of k) body
  its_numbers = these k (fronts (widths_of k) body) (length_fronts (widths_of k) body ∙ three k)

  fit_found : too_large (widths_of k) (numbers_of found) ≡ false
  fit_found = ap (too_large (widths_of k)) its_numbers ∙ fronts_fit (widths_of k) body (bytes_drop (at + 1) s b)

  taken_apart : 0 < body_of k → parts_of (call_of found) ≡ found
  taken_apart h = parts_are_the_call found h (unused found fit_found)

  bytes_found : at < length s → at + 1 + body_of k ≤ length s → drop at s ≡ record_of found ++ drop (at + 1 + body_of k) s
  unfolding record_of body_of
  bytes_found inside room =
      let fields : fields_of (widths_of k) (numbers_of found) ≡ take (body_of k) body =
      ap (fields_of (widths_of k)) its_numbers ∙ fields_fronts (widths_of k) body (bytes_drop (at + 1) s b) (omega (arith, length-drop (at + 1) s)) in
      let rest : drop (body_of k) body ≡ drop (at + 1 + body_of k) s = drop-drop (body_of k) (at + 1) s in
      let next : suc at ≡ at + 1 = omega arith in
      let first : drop at s ≡ k ∷ body = drop-cons s at 0 inside ∙ ap (λ (i : ℕ). k ∷ drop i s) next in
      first ∙ ap (λ (l : List ℕ). k ∷ l) (sym (take-append-drop (body_of k) body) ∙ rw (fields, rest) refl)

  stood_as : (p : Parts) → p ≡ found → 0 < body_of k → at < length s → at + 1 + body_of k ≤ length s → (c : AnyCall) → parts_of c ≡ p → (n : ℕ) → n ≡ at + 1 + body_of k → Stood s at c n
  unfolding length_of
  stood_as p e h inside room c pc n place =
      let whole : parts_of c ≡ found = pc ∙ e in
      record {
        known = rw whole h;
        fit = rw whole fit_found;
        bytes = rw (whole, place) (bytes_found inside room);
        place = rw whole (omega arith);
        room = omega arith;
      }

pub stood : (s : List ℕ) (at : ℕ) (c : AnyCall) (n : ℕ) → AllBytes s → next_of s at ≡ Record c n → Stood s at c n
unfolding next_of call_at
stood s at c n b e =
    let k = byte_at s at in
    let t = is_record_law (leb (length s) at) (eqb (body_of k) 0) (ltb (length s - (at + 1)) (body_of k)) (call_at k s (at + 1)) (at + 1 + body_of k) c n e in
    let inside = leb-false (length s) at t.0 in
    let some = eqb-false (body_of k) 0 t.1 in
    let room = ltb-false (length s - (at + 1)) (body_of k) t.2 in
    let known : 0 < body_of k = omega (arith, some) in
    let same : c ≡ call_of (found s at b) = t.3 ∙ ap (λ (ns : List ℕ). call_of (parts_from k ns)) (numbers_front (widths_of k) s (at + 1)) in
    stood_as s at b (found s at b) refl known inside (omega arith) c (ap parts_of same ∙ taken_apart s at b known) n t.4

-- ---- what writing comes to

-- with a record at a place: the bytes before it, the record, the bytes behind it
pub with_record : (s : List ℕ) (at : ℕ) (p : Parts) → at + length_of p ≤ length s → sets s at (record_of p) ≡ take at s ++ record_of p ++ drop (at + length_of p) s
with_record s at p h =
    let long = length_record p in
    sets-eq (record_of p) s at (omega arith) ∙ ap (λ (k : ℕ). take at s ++ record_of p ++ drop (at + k) s) long

pub from_there : (s : List ℕ) (at : ℕ) (p : Parts) → at + length_of p ≤ length s → drop at (sets s at (record_of p)) ≡ record_of p ++ drop (at + length_of p) s
from_there s at p h =
    ap (drop at) (with_record s at p h ∙ append_assoc (take at s) (record_of p) (drop (at + length_of p) s)) ∙
    drop_at (take at s) (record_of p ++ drop (at + length_of p) s) at (length-take-le at s (omega arith))

pub up_to : (s : List ℕ) (at : ℕ) (p : Parts) → at + length_of p ≤ length s → take (at + length_of p) (sets s at (record_of p)) ≡ take at s ++ record_of p
up_to s at p h =
    ap (take (at + length_of p)) (with_record s at p h) ∙
    take_at (take at s ++ record_of p) (drop (at + length_of p) s) (at + length_of p) (length-append (take at s) (record_of p) ∙ rw (length-take-le at s (omega arith), length_record p) refl)

-- where the record stands already, nothing changes
pub stays : (s : List ℕ) (at : ℕ) (p : Parts) → at + length_of p ≤ length s → drop at s ≡ record_of p ++ drop (at + length_of p) s → sets s at (record_of p) ≡ s
stays s at p h e =
    with_record s at p h ∙ append_assoc (take at s) (record_of p) (drop (at + length_of p) s) ∙ ap (λ (l : List ℕ). take at s ++ l) (sym e) ∙ take-append-drop at s

-- the ways in which it ends, each with what is then known
abbrev pub done : List ℕ → ℕ → Parts → Writing
done s at p = record { number = 0; place = at + length_of p; bytes = sets s at (record_of p) }

abbrev pub Fits : Parts → Type 0
Fits p = too_large (widths_of p.kind) (numbers_of p) ≡ false

abbrev pub Way : List ℕ → ℕ → Parts → Type 0
Way s at p =
    ((too_large (widths_of p.kind) (numbers_of p) ≡ true) × (writing_of s at p ≡ refused 18 s at)) ⊎
    ((Fits p × (length s < at + length_of p) × (writing_of s at p ≡ refused 12 s at)) ⊎
    (Fits p × (at + length_of p ≤ length s) × (writing_of s at p ≡ done s at p)))

pub way : (s : List ℕ) (at : ℕ) (p : Parts) → 0 < body_of p.kind → Way s at p
unfolding writing_of
way s at p known = by (too_large (widths_of p.kind) (numbers_of p)) refl (ltb (length s) (at + length_of p)) refl
  where
    by : (x : Bool) → too_large (widths_of p.kind) (numbers_of p) ≡ x → (y : Bool) → ltb (length s) (at + length_of p) ≡ y → Way s at p
    by true e y d = inl (e, rw (ne_eqb (body_of p.kind) 0 (λ z. omega arith), e) refl)
    by false e true d = inr (inl (e, ltb-true (length s) (at + length_of p) d, rw (ne_eqb (body_of p.kind) 0 (λ z. omega arith), e, d) refl))
    by false e false d = inr (inr (e, ltb-false (length s) (at + length_of p) d, rw (ne_eqb (body_of p.kind) 0 (λ z. omega arith), e, d) refl))

-- an unknown kind is refused first
pub known_or_not : (s : List ℕ) (at : ℕ) (p : Parts) → (writing_of s at p ≡ refused 8 s at) ⊎ (0 < body_of p.kind)
unfolding writing_of
known_or_not s at p = by (eqb (body_of p.kind) 0) refl
  where
    by : (x : Bool) → eqb (body_of p.kind) 0 ≡ x → (writing_of s at p ≡ refused 8 s at) ⊎ (0 < body_of p.kind)
    by true e = inl (rw e refl)
    by false e = inr (let ne = eqb-false (body_of p.kind) 0 e in omega (arith, ne))
