-- Why one record goes both ways. Of the three ways in which writing ends (`way`) only the last gives a place, and there the bytes from that place
-- on are the record and what followed it: so it is read as its call. Where a call was read its bytes stand already, and to write them there
-- changes nothing.
-- Assumes nothing.
use Prim.Native.Nat.{ℕ, zero, suc, ◌+◌, ◌<◌, ◌≤◌, ◌^◌}
use mathlib.Core.Path.{◌≡◌, refl, sym, ap, ◌∙◌}
use mathlib.Core.Bool.{Bool, true, false}
use mathlib.Core.Logic.{⊎_elim}
use mathlib.Core.List.{List, [], ◌∷◌, ◌++◌}
use native.Mathlib.Omega.{arith}
use borrow.Author.Tests.{leb-true, leb-false, lt-leb}
use lib.Dec.{leb}
use lib.ListN.{length, get_or, drop, get_or-eq_default}
use lib.Seq.{sets, length-sets}
use Rattle.board_call.specs.declared.AnyCall.{AnyCall}
use Rattle.schedule_kinds.specs.Kinds.{widths_of, body_of, numbers_of, parts_of, call_of}
use Rattle.schedule_kinds.specs.declared.Parts.{Parts}
use Rattle.schedule_kinds.proofs.EachKind.{call_is_its_parts, call_is_known, parts_are_the_call, three}
use Rattle.schedule_bytes.specs.Schedule.{next_of}
use Rattle.schedule_bytes.specs.declared.Next as reading
use Rattle.schedule_bytes.specs.declared.Next.TheVariants.{Record, End, Unknown, Cut}
use Rattle.schedule_writing.specs.Writing.{Written, record_of, length_of, too_large, Writing, refused, writing_of, became_of, written_of, buffer_of, number_of}
use Rattle.schedule_writing.specs.Boundary.{placed_of, standing_of, stands_as}
use Rattle.schedule_writing.specs.declared.NotWritten.TheVariants.{TooLarge, NoRoom}
use Rattle.std.specs.Prelude.{Ok, Err}
use Rattle.schedule_writing.specs.declared.Standing.{Standing}
use Rattle.schedule_writing.specs.Promises.{Bytes, WrittenIsRead, ReadIsWritten, ReadIsItsRecord, FitsIts, TooLargeExactly, NoRoomExactly, WrittenExactly, RefusedLeavesAll, OutsideStays, WrittenLeavesTheRest, NumbersAreRead, NumbersAreWritten, RefusedStays}
use Rattle.schedule_writing.proofs.Numbers.{AllBytes, first_fits}
use Rattle.schedule_writing.proofs.Untouched.{before_it, behind_it}
use Rattle.schedule_writing.proofs.Records.{Stood, stood, stands, unused, length_record, from_there, stays, done, Fits, way, known_or_not}

-- past the end 0 is read, which is a byte
pub all_bytes : (s : List ℕ) → Bytes s → AllBytes s
all_bytes s b i = by (leb (length s) i) refl
  where
    by : (x : Bool) → leb (length s) i ≡ x → get_or s i 0 < 256
    by true e = rw (get_or-eq_default s 0 {n = i} (leb-true (length s) i e)) (omega arith)
    by false e = b i (leb-false (length s) i e)

-- ---- the ways of a call, by what became of it

pub record Accepted (s : List ℕ) (at n : ℕ) (c : AnyCall) : Type 0 where
  pub fit : Fits (parts_of c)
  pub room : at + length_of (parts_of c) ≤ length s
  pub place : n ≡ at + length_of (parts_of c)
  pub bytes : buffer_of s at c ≡ sets s at (record_of (parts_of c))

-- an answer has one number
clash : {A : Type 0} (w x y : Written) → w ≡ x → w ≡ y → (number_of x ≡ number_of y → ⊥) → A
clash w x y e f apart = absurd (apart (ap number_of (sym e ∙ f)))

pub accepted : (s : List ℕ) (at n : ℕ) (c : AnyCall) → written_of s at c ≡ Ok n → Accepted s at n c
accepted s at n c e =
    ⊎_elim
    (λ l. clash (written_of s at c) (Err TooLarge) (Ok n) (ap became_of l.1) e (λ z. omega arith))
    (⊎_elim
    (λ r. clash (written_of s at c) (Err NoRoom) (Ok n) (ap became_of r.2) e (λ z. omega arith))
    (λ d.
    let told : Ok (at + length_of (parts_of c)) ≡ Ok n = sym (ap became_of d.2) ∙ e in
    record { fit = d.0; room = d.1; place = cc; bytes = ap (λ (w : Writing). w.bytes) d.2 }))
    (way s at (parts_of c) (call_is_known c))

pub accepts : (s : List ℕ) (at : ℕ) (p : Parts) → 0 < body_of p.kind → Fits p → at + length_of p ≤ length s → writing_of s at p ≡ done s at p
accepts s at p known fit room =
    ⊎_elim
    (λ l. absurd (let one : ◌≡◌ {A = ℕ} 0 1 = cc in omega arith))
    (⊎_elim (λ r. absurd (omega (arith, r.1))) (λ d. d.2))
    (way s at p known)

-- ---- what was written is read

pub written_is_read : WrittenIsRead
written_is_read s at n c e =
    let a = accepted s at n c e in
    let bytes : drop at (buffer_of s at c) ≡ record_of (parts_of c) ++ drop (at + length_of (parts_of c)) s = ap (drop at) a.bytes ∙ from_there s at (parts_of c) a.room in
    stands (buffer_of s at c) at (parts_of c) (drop (at + length_of (parts_of c)) s) (call_is_known c) a.fit bytes ∙ rw (call_is_its_parts c, a.place) refl

-- ---- what was read is written

-- a record that was read, written there again
pub again : (s : List ℕ) (at n : ℕ) (c : AnyCall) → Stood s at c n → (writing_of s at (parts_of c) ≡ done s at (parts_of c)) × (buffer_of s at c ≡ s)
again s at n c t =
    let room : at + length_of (parts_of c) ≤ length s = omega (arith, t.place, t.room) in
    let w = accepts s at (parts_of c) t.known t.fit room in
    let bytes : drop at s ≡ record_of (parts_of c) ++ drop (at + length_of (parts_of c)) s = t.bytes ∙ ap (λ (k : ℕ). record_of (parts_of c) ++ drop k s) t.place in
    (w, ap (λ (x : Writing). x.bytes) w ∙ stays s at (parts_of c) room bytes)

pub read_is_written : ReadIsWritten
read_is_written s at n c b e =
    let t = stood s at c n (all_bytes s b) e in
    let g = again s at n c t in
    (ap became_of g.0 ∙ ap Ok (sym t.place), g.1)

pub read_is_its_record : ReadIsItsRecord
read_is_its_record s at n c b e = (stood s at c n (all_bytes s b) e).bytes

-- ---- when a call is refused

-- a list of numbers fits, as a test and as a fact of each
each_fits : (ws ns : List ℕ) → length ns ≡ length ws → too_large ws ns ≡ false → (i : ℕ) → i < length ws → get_or ns i 0 < 256 ^ get_or ws i 0
unfolding too_large
each_fits [] ns e h i l = absurd (omega arith)
each_fits (w ∷ ws) [] e h i l = absurd (omega arith)
each_fits (w ∷ ws) (n ∷ ns) e h zero l = (first_fits w n (too_large ws ns) h).0
each_fits (w ∷ ws) (n ∷ ns) e h (suc i) l = each_fits ws ns (omega arith) (first_fits w n (too_large ws ns) h).1 i (omega arith)

all_fit : (ws ns : List ℕ) → length ns ≡ length ws → ((i : ℕ) → i < length ws → get_or ns i 0 < 256 ^ get_or ws i 0) → too_large ws ns ≡ false
unfolding too_large
all_fit [] ns e h = refl
all_fit (w ∷ ws) [] e h = refl
all_fit (w ∷ ws) (n ∷ ns) e h = rw (lt-leb (256 ^ w) n (h 0 (omega arith))) (all_fit ws ns (omega arith) (λ i l. h (suc i) (omega arith)))

fits_its : (c : AnyCall) → Fits (parts_of c) → FitsIts c
fits_its c h i l = each_fits (widths_of (parts_of c).kind) (numbers_of (parts_of c)) (sym (three (parts_of c).kind)) h i (omega (arith, three (parts_of c).kind))

its_fit : (c : AnyCall) → FitsIts c → Fits (parts_of c)
its_fit c h = all_fit (widths_of (parts_of c).kind) (numbers_of (parts_of c)) (sym (three (parts_of c).kind)) (λ i l. h i (omega (arith, three (parts_of c).kind)))

pub too_large_exactly : TooLargeExactly
too_large_exactly s at c = (
  λ e f.
      ⊎_elim
      (λ l. let fit = its_fit c f in let one : ◌≡◌ {A = ℕ} 0 1 = cc in omega arith)
      (⊎_elim
      (λ r. clash (written_of s at c) (Err NoRoom) (Err TooLarge) (ap became_of r.2) e (λ z. omega arith))
      (λ d. clash (written_of s at c) (Ok (at + length_of (parts_of c))) (Err TooLarge) (ap became_of d.2) e (λ z. omega arith)))
      (way s at (parts_of c) (call_is_known c)),
  λ large.
      ⊎_elim
      (λ l. ap became_of l.1)
      (⊎_elim (λ r. absurd (large (fits_its c r.0))) (λ d. absurd (large (fits_its c d.0))))
      (way s at (parts_of c) (call_is_known c)),
)

pub no_room_exactly : NoRoomExactly
no_room_exactly s at c = (
  λ e.
      ⊎_elim
      (λ l. clash (written_of s at c) (Err TooLarge) (Err NoRoom) (ap became_of l.1) e (λ z. omega arith))
      (⊎_elim
      (λ r. (fits_its c r.0, r.1))
      (λ d. clash (written_of s at c) (Ok (at + length_of (parts_of c))) (Err NoRoom) (ap became_of d.2) e (λ z. omega arith)))
      (way s at (parts_of c) (call_is_known c)),
  λ h.
      ⊎_elim
      (λ l. let fit = its_fit c h.0 in absurd (let one : ◌≡◌ {A = ℕ} 0 1 = cc in omega arith))
      (⊎_elim (λ r. ap became_of r.2) (λ d. absurd (omega (arith, h.1, d.1))))
      (way s at (parts_of c) (call_is_known c)),
)

pub written_exactly : WrittenExactly
written_exactly s at n c = (
  λ e. let a = accepted s at n c e in (fits_its c a.fit, a.room, a.place),
  λ h. ap became_of (accepts s at (parts_of c) (call_is_known c) (its_fit c h.0) h.1) ∙ ap Ok (sym h.2),
)

-- ---- what stays

pub refused_leaves_all : RefusedLeavesAll
refused_leaves_all s at c h =
    ⊎_elim
    (λ l. ap (λ (w : Writing). w.bytes) l.1)
    (⊎_elim
    (λ r. ap (λ (w : Writing). w.bytes) r.2)
    (λ d. absurd (omega (arith, ap number_of (ap became_of d.2)))))
    (way s at (parts_of c) (call_is_known c))

-- a record at a place: every byte before it and behind it is as it was
outside : (s : List ℕ) (at : ℕ) (p : Parts) → at + length_of p ≤ length s → OutsideStays s at (at + length_of p) (sets s at (record_of p))
outside s at p room =
    let s' = sets s at (record_of p) in
    record {
      as_long = length-sets s at (record_of p);
      before = λ i h. before_it s at (record_of p) i h;
      behind = λ i h. behind_it s at (record_of p) i (omega (arith, length_record p));
    }

pub written_leaves_the_rest : WrittenLeavesTheRest
written_leaves_the_rest s at n c e =
    let a = accepted s at n c e in
    rw (a.bytes, a.place) (outside s at (parts_of c) a.room)

-- ---- for a caller in C

pub refused_stays : RefusedStays
refused_stays s at p h =
    let all : (w : Writing) → writing_of s at p ≡ w → (w.bytes ≡ s) × (w.place ≡ at) → ((writing_of s at p).bytes ≡ s) × ((writing_of s at p).place ≡ at) = λ w e k. rw e k in
    ⊎_elim
    (λ e. all (refused 8 s at) e (refl, refl))
    (λ known.
    ⊎_elim
    (λ l. all (refused 18 s at) l.1 (refl, refl))
    (⊎_elim
    (λ r. all (refused 12 s at) r.2 (refl, refl))
    (λ d. absurd (omega (arith, ap (λ (w : Writing). w.number) d.2))))
    (way s at p known))
    (known_or_not s at p)

-- what is known where a kind with numbers was written
numbered : (s : List ℕ) (at : ℕ) (p : Parts) → (writing_of s at p).number ≡ 0 → (0 < body_of p.kind) × Fits p × (at + length_of p ≤ length s) × (writing_of s at p ≡ done s at p)
numbered s at p z =
    ⊎_elim
    (λ e. absurd (omega (arith, ap (λ (w : Writing). w.number) e)))
    (λ known.
    ⊎_elim
    (λ l. absurd (omega (arith, ap (λ (w : Writing). w.number) l.1)))
    (⊎_elim
    (λ r. absurd (omega (arith, ap (λ (w : Writing). w.number) r.2)))
    (λ d. (known, d.0, d.1, d.2)))
    (way s at p known))
    (known_or_not s at p)

pub numbers_are_read : NumbersAreRead
numbers_are_read s at p z =
    let d = numbered s at p z in
    let next : next_of (sets s at (record_of p)) at ≡ Record (call_of p) (at + length_of p) =
    stands (sets s at (record_of p)) at p (drop (at + length_of p) s) d.0 d.1 (from_there s at p d.2) in
    let apart : parts_of (call_of p) ≡ p = parts_are_the_call p d.0 (unused p d.1) in
    rw d.3 (ap (λ x. standing_of x at) next ∙ ap (λ (q : Parts). stands_as q (at + length_of p)) apart)

-- a record stands where a kind above 0 does
a_record : (x : reading.Next) (at n : ℕ) (p : Parts) → 0 < p.kind → standing_of x at ≡ stands_as p n → (c : AnyCall) × (x ≡ Record c n) × (parts_of c ≡ p)
a_record (Record c m) at n p h e =
    let place : m ≡ n = ap (λ (t : Standing). t.next) e in
    (c, ap (Record c) place, λ i. record { kind = (e i).kind; first = (e i).first; second = (e i).second; third = (e i).third })
a_record End at n p h e = absurd (omega (arith, ap (λ (t : Standing). t.kind) e))
a_record Unknown at n p h e = absurd (omega (arith, ap (λ (t : Standing). t.kind) e))
a_record Cut at n p h e = absurd (omega (arith, ap (λ (t : Standing). t.kind) e))

pub numbers_are_written : NumbersAreWritten
numbers_are_written s at n p b h e =
    let r = a_record (next_of s at) at n p h e in
    let t = stood s at r.0 n (all_bytes s b) r.1 in
    let g = again s at n r.0 t in
    let place : placed_of (done s at (parts_of r.0)) ≡ record { number = 0; place = n } = rw (← t.place) refl in
    rw (← r.2) (ap placed_of g.0 ∙ place, g.1)
