-- Why whole schedules go both ways. Calls written one after the other: what a later one writes stands behind the place at which it begins, so the
-- record before it is left, and it is read as its call (`led`). A schedule that reads to its end: at each place its bytes up to there have
-- been written, the record that stands there writes its own, and at the end all are (`writes`).
-- Assumes nothing.
use Prim.Native.Nat.{ℕ, zero, suc, ◌+◌, ◌≤◌}
use mathlib.Core.Path.{◌≡◌, refl, sym, ap, ◌∙◌}
use mathlib.Core.List.{List, [], ◌∷◌, ◌++◌, append_assoc}
use native.Mathlib.Omega.{arith}
use lib.ListN.{length, take, drop, length-append, take-append-drop}
use lib.Seq.{sets, length-sets, take-length, take_at, drop_at, length-take-le}
use Rattle.board_call.specs.declared.AnyCall.{AnyCall}
use Rattle.schedule_kinds.specs.Kinds.{parts_of}
use Rattle.schedule_kinds.proofs.EachKind.{call_is_its_parts, call_is_known}
use Rattle.schedule_bytes.specs.Schedule.{next_of, calls_from, call_then, place_behind, place_then}
use Rattle.schedule_bytes.specs.declared.Next as reading
use Rattle.schedule_bytes.specs.declared.Next.TheVariants.{Record, End, Unknown, Cut}
use Rattle.schedule_bytes.proofs.Stands.{end_stands_exactly}
use Rattle.schedule_writing.specs.Writing.{record_of, length_of, Writing, became_of, buffer_of}
use Rattle.std.specs.Prelude.{Ok}
use Rattle.schedule_writing.specs.Promises.{Leads, ScheduleIsRead, ScheduleIsWritten}
use Rattle.schedule_writing.proofs.Numbers.{AllBytes}
use Rattle.schedule_writing.proofs.Records.{stood, stands, length_record, up_to}
use Rattle.schedule_writing.proofs.RoundTrips.{all_bytes, accepted, accepts}

-- ---- written, then read

-- what a list of calls that was written leaves: what stood before it, and the calls
record Led (cs : List AnyCall) (s : List ℕ) (at : ℕ) (s' : List ℕ) (at' : ℕ) : Type 0 where
  front : take at s' ≡ take at s
  calls : calls_from (length cs) s' at ≡ cs
  place : place_behind (length cs) s' at ≡ at'

led : (cs : List AnyCall) (s : List ℕ) (at : ℕ) (s' : List ℕ) (at' : ℕ) → Leads cs s at s' at' → Led cs s at s' at'
unfolding calls_from place_behind
led [] s at s' at' l = record { front = ap (take at) l.0; calls = refl; place = sym l.1 }
led (c ∷ cs) s at s' at' (n, e, l) =
    let later = led cs (buffer_of s at c) n s' at' l in
    let a = accepted s at n c e in
    let p = parts_of c in
    let before : take n s' ≡ take at s ++ record_of p =
    later.front ∙ ap (take n) a.bytes ∙ ap (λ (k : ℕ). take k (sets s at (record_of p))) a.place ∙ up_to s at p a.room in
    let whole : s' ≡ take at s ++ (record_of p ++ drop n s') =
    sym (take-append-drop n s') ∙ ap (λ (l : List ℕ). l ++ drop n s') before ∙ append_assoc (take at s) (record_of p) (drop n s') in
    let long : length (take at s) ≡ at = length-take-le at s (omega (arith, a.room)) in
    let here : drop at s' ≡ record_of p ++ drop n s' = ap (drop at) whole ∙ drop_at (take at s) (record_of p ++ drop n s') at long in
    let next : next_of s' at ≡ Record c n =
    stands s' at p (drop n s') (call_is_known c) a.fit here ∙ rw (call_is_its_parts c, a.place) refl in
    record {
      front = ap (take at) whole ∙ take_at (take at s) (record_of p ++ drop n s') at long;
      calls = rw next (ap (λ (l : List AnyCall). c ∷ l) later.calls);
      place = rw next later.place;
    }

pub schedule_is_read : ScheduleIsRead
schedule_is_read cs s at s' at' l =
    let d = led cs s at s' at' l in
    record { calls = d.calls; place = d.place; whole = λ e. (end_stands_exactly s' at').1 (omega arith) }

-- ---- read, then written

-- the bytes up to a place have been written, and the calls from there on write the others
abbrev Writes : ℕ → List ℕ → Type 0
Writes k s =
    (t : List ℕ) (at : ℕ) →
    length t ≡ length s →
    take at t ≡ take at s →
    at ≤ length s →
    next_of s (place_behind k s at) ≡ End →
    Leads (calls_from k s at) t at s (length s)

-- at the end all of them have been
finished : (s t : List ℕ) (at : ℕ) → length t ≡ length s → take at t ≡ take at s → at ≤ length s → next_of s at ≡ End → Leads [] t at s (length s)
finished s t at long e h end =
    let there : at ≡ length s = (let past = (end_stands_exactly s at).0 end in omega arith) in
    let t_is : take at t ≡ t = ap (λ (k : ℕ). take k t) (there ∙ sym long) ∙ take-length t in
    let s_is : take at s ≡ s = ap (λ (k : ℕ). take k s) there ∙ take-length s in
    (sym s_is ∙ sym e ∙ t_is, sym there)

-- one record more, by what stands at the place
one_more_law :
    (k : ℕ) (s : List ℕ) →
    AllBytes s →
    Writes k s →
    (x : reading.Next) (t : List ℕ) (at : ℕ) →
    next_of s at ≡ x →
    length t ≡ length s →
    take at t ≡ take at s →
    at ≤ length s →
    next_of s (place_then x at (place_behind k s)) ≡ End →
    Leads (call_then x (calls_from k s)) t at s (length s)
one_more_law k s b rest (Record c n) t at x long e h end =
    let r = stood s at c n b x in
    let p = parts_of c in
    let room : at + length_of p ≤ length t = omega (arith, r.place, r.room) in
    let w = accepts t at p r.known r.fit room in
    let bytes : buffer_of t at c ≡ sets t at (record_of p) = ap (λ (y : Writing). y.bytes) w in
    let s_is : s ≡ take at s ++ record_of p ++ drop n s =
    sym (take-append-drop at s) ∙ ap (λ (l : List ℕ). take at s ++ l) r.bytes ∙ sym (append_assoc (take at s) (record_of p) (drop n s)) in
    let so_long : length (take at s ++ record_of p) ≡ n =
    length-append (take at s) (record_of p) ∙ rw (length-take-le at s h, length_record p) (sym r.place) in
    let s_front : take n s ≡ take at s ++ record_of p = ap (take n) s_is ∙ take_at (take at s ++ record_of p) (drop n s) n so_long in
    let t_front : take n (buffer_of t at c) ≡ take at t ++ record_of p =
    ap (take n) bytes ∙ ap (λ (i : ℕ). take i (sets t at (record_of p))) r.place ∙ up_to t at p room in
    let same : take n (buffer_of t at c) ≡ take n s = t_front ∙ ap (λ (l : List ℕ). l ++ record_of p) e ∙ sym s_front in
    (n, ap became_of w ∙ ap Ok (sym r.place), rest (buffer_of t at c) n (ap length bytes ∙ length-sets t at (record_of p) ∙ long) same r.room end)
one_more_law k s b rest End t at x long e h end = finished s t at long e h end
one_more_law k s b rest Unknown t at x long e h end = finished s t at long e h end
one_more_law k s b rest Cut t at x long e h end = finished s t at long e h end

writes : (k : ℕ) (s : List ℕ) → AllBytes s → Writes k s
unfolding calls_from place_behind
writes zero s b t at long e h end = finished s t at long e h end
writes (suc k) s b t at long e h end = one_more_law k s b (writes k s b) (next_of s at) t at refl long e h end

pub schedule_is_written : ScheduleIsWritten
schedule_is_written n s t b long end = writes n s (all_bytes s b) t 0 long refl (omega arith) end
