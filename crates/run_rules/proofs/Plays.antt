-- Why a run comes to what its records come to, and ends as the table says: by induction along the run, one record at a time. Where it ends, nothing
-- has been played from there on, and the lines of the table are the tests of the definition.
-- Assumes nothing.
use Prim.Native.Nat.{ℕ, zero, suc, ◌+◌, ◌-◌, ◌*◌, ◌<◌, ◌≤◌}
use mathlib.Core.Path.{◌≡◌, refl, ap, sym, subst, ◌∙◌}
use mathlib.Core.Bool.{Bool, true, false}
use mathlib.Core.Logic.{inl, inr}
use mathlib.Core.List.{List, [], ◌∷◌, ◌++◌}
use native.Mathlib.Omega.{arith}
use native.Mathlib.Nat.{add-zero}
use borrow.Author.Tests.{ltb-false}
use lib.Dec.{eqb, ltb, eqb-suc-zero}
use lib.ListN.{length, drop, length-append, length-drop}
use lib.Seq.{take_at, drop-append-add}
use Rattle.common.specs.Table.{Gives, NoneApplies}
use Rattle.common.proofs.Tables.{it_gives}
use Rattle.board_call.specs.declared.AnyCall.{AnyCall}
use Rattle.board_nodes.specs.Answers.{said_of_any, verbs_of_any}
use Rattle.board_rules.specs.declared.Said.{Said}
use Rattle.board_rules.specs.declared.Answer.{Answer}
use Rattle.board_nodes.specs.Site.{Site, site_of, played_at}
use Rattle.schedule_bytes.specs.Schedule.{next_of, calls_from, place_behind}
use Rattle.schedule_bytes.specs.declared.Next.{Next}
use Rattle.schedule_bytes.specs.declared.Next.TheVariants.{Record, End, Unknown, Cut}
use Rattle.run_entry.specs.Entry.{ENTRY, entry_of}
use Rattle.run_rules.specs.Run.{Whole, ended, followed, spent, goes_on, run_of}
use Rattle.run_rules.specs.Promises.{all_played, entries_from, verbs_from, PlaysItsRecords, RunPlaysItsRecords}
use Rattle.run_rules.specs.Promises.{end_lines, EndsExactly, PlaysOnlyWhereNoneEndsIt, ReportStaysBehind}

-- a run that ends here has played nothing
none : (bytes : List ℕ) (h at : ℕ) (s : Site) → PlaysItsRecords bytes at s (ended h at s)
unfolding all_played entries_from verbs_from calls_from place_behind
none bytes h at s = record { count = refl; board = refl; reported = refl; sent = refl; stands = refl }

-- one record more in front
module _ (bytes : List ℕ) (at next : ℕ) (c : AnyCall) (e : next_of bytes at ≡ Record c next) where
  calls_one : (n : ℕ) → calls_from (suc n) bytes at ≡ c ∷ calls_from n bytes next
  unfolding calls_from
  calls_one n = rw e refl

  place_one : (n : ℕ) → place_behind (suc n) bytes at ≡ place_behind n bytes next
  unfolding place_behind
  place_one n = rw e refl

  one_more_law : (s : Site) (w : Whole) → PlaysItsRecords bytes next (site_of (played_at c s)) w → PlaysItsRecords bytes at s (followed c (played_at c s).answer w)
  unfolding all_played entries_from verbs_from
  one_more_law s w p =
      let these = calls_one w.records in
      record {
        count = ap length these ∙ ap suc p.count;
        board = p.board ∙ ap (all_played s) (sym these);
        reported =
            ap (λ (l : List ℕ). entry_of (said_of_any c (played_at c s).answer) ++ l) p.reported ∙ ap (entries_from s) (sym these);
        sent = ap (λ (n : ℕ). verbs_of_any c (played_at c s).answer + n) p.sent ∙ ap (verbs_from s) (sym these);
        stands = p.stands ∙ sym (place_one w.records);
      }

by_next :
    (bytes : List ℕ) (n : Next) (short : Bool) (at : ℕ) (s : Site) (rest : ℕ → Site → Whole) →
    next_of bytes at ≡ n →
    ((next : ℕ) (t : Site) → PlaysItsRecords bytes next t (rest next t)) →
    PlaysItsRecords bytes at s (goes_on n short at s rest)
by_next b End short at s rest e i = none b 0 at s
by_next b Unknown true at s rest e i = none b 12 at s
by_next b Unknown false at s rest e i = none b 8 at s
by_next b Cut true at s rest e i = none b 12 at s
by_next b Cut false at s rest e i = none b 7 at s
by_next b (Record c next) true at s rest e i = none b 12 at s
by_next b (Record c next) false at s rest e i = one_more_law b at next c e s (rest next (site_of (played_at c s))) (i next (site_of (played_at c s)))

by_spent : (bytes : List ℕ) (n : Next) (at : ℕ) (s : Site) → PlaysItsRecords bytes at s (spent n at s)
by_spent b End at s = none b 0 at s
by_spent b (Record c next) at s = none b 11 at s
by_spent b Unknown at s = none b 11 at s
by_spent b Cut at s = none b 11 at s

pub run_plays_its_records : RunPlaysItsRecords
unfolding run_of
run_plays_its_records zero room bytes at s = by_spent bytes (next_of bytes at) at s
run_plays_its_records (suc a) room bytes at s =
    by_next bytes (next_of bytes at) (ltb room ENTRY) at s _ refl (λ next t. run_plays_its_records a (room - ENTRY) bytes next t)

-- what a run ends with is what the lines give where it ended
abbrev Ends : List ℕ → ℕ → ℕ → Whole → Type 0
Ends bytes a room w = Gives w.ending (end_lines (next_of bytes w.place) (eqb (a - w.records) 0) (ltb (room - ENTRY * w.records) ENTRY))

-- where it ended before any record, with the allowance spent or not, and the room short or not
record Here (bytes : List ℕ) (at a room : ℕ) (n : Next) (out short : Bool) : Type 0 where
  stands : next_of bytes at ≡ n
  allowed : eqb (a - 0) 0 ≡ out
  roomy : ltb (room - ENTRY * 0) ENTRY ≡ short

ends_here :
    {bytes : List ℕ} {at a room : ℕ} {n : Next} {out short : Bool} (h : ℕ) (s : Site) →
    Here bytes at a room n out short →
    Gives h (end_lines n out short) →
    Ends bytes a room (ended h at s)
ends_here h s here g = rw (here.stands, here.allowed, here.roomy) g

ends_spent : (bytes : List ℕ) (n : Next) (at room : ℕ) (short : Bool) (s : Site) → Here bytes at 0 room n true short → Ends bytes 0 room (spent n at s)
ends_spent b End at room short s here = ends_here 0 s here (inl (refl, refl))
ends_spent b (Record c next) at room short s here = ends_here 11 s here (inr (refl, inl (refl, refl)))
ends_spent b Unknown at room short s here = ends_here 11 s here (inr (refl, inl (refl, refl)))
ends_spent b Cut at room short s here = ends_here 11 s here (inr (refl, inl (refl, refl)))

ends_next :
    (bytes : List ℕ) (n : Next) (short : Bool) (at a room : ℕ) (s : Site) (rest : ℕ → Site → Whole) →
    Here bytes at (suc a) room n false short →
    ((next : ℕ) (t : Site) → Ends bytes a (room - ENTRY) (rest next t)) →
    Ends bytes (suc a) room (goes_on n short at s rest)
ends_next b End short at a room s rest here i = ends_here 0 s here (inl (refl, refl))
ends_next b Unknown true at a room s rest here i = ends_here 12 s here (inr (refl, inr (refl, inl (refl, refl))))
ends_next b Unknown false at a room s rest here i = ends_here 8 s here (inr (refl, inr (refl, inr (refl, inl (refl, refl)))))
ends_next b Cut true at a room s rest here i = ends_here 12 s here (inr (refl, inr (refl, inl (refl, refl))))
ends_next b Cut false at a room s rest here i = ends_here 7 s here (inr (refl, inr (refl, inr (refl, inr (refl, inl (refl, refl))))))
ends_next b (Record c next) true at a room s rest here i = ends_here 12 s here (inr (refl, inr (refl, inl (refl, refl))))
ends_next b (Record c next) false at a room s rest here i =
    let w = rest next (site_of (played_at c s)) in
    let left : suc a - suc w.records ≡ a - w.records = omega arith in
    let space : room - ENTRY * suc w.records ≡ room - ENTRY - ENTRY * w.records = omega arith in
    rw (left, space) (i next (site_of (played_at c s)))

ends : (a room : ℕ) (bytes : List ℕ) (at : ℕ) (s : Site) → Ends bytes a room (run_of a room bytes at s)
unfolding run_of
ends zero room bytes at s =
    let space : room - ENTRY * 0 ≡ room = omega arith in
    ends_spent bytes (next_of bytes at) at room (ltb room ENTRY) s (record { stands = refl; allowed = refl; roomy = rw space refl })
ends (suc a) room bytes at s =
    let space : room - ENTRY * 0 ≡ room = omega arith in
    let left : suc a - 0 ≡ suc a = omega arith in
    ends_next bytes (next_of bytes at) (ltb room ENTRY) at a room s _ (record { stands = refl; allowed = rw left (eqb-suc-zero a); roomy = rw space refl })
    (λ next t. ends a (room - ENTRY) bytes next t)

pub ends_exactly : EndsExactly
ends_exactly a room bytes at s n =
    let w = run_of a room bytes at s in
    let lines = end_lines (next_of bytes w.place) (eqb (a - w.records) 0) (ltb (room - ENTRY * w.records) ENTRY) in
    let g = ends a room bytes at s in
    (λ e. subst (λ (m : ℕ). Gives m lines) e g, λ h. sym (it_gives w.ending lines g) ∙ it_gives n lines h)

-- the lines before the k-th record of a run that came to so many records
abbrev Free : List ℕ → ℕ → ℕ → ℕ → Whole → Type 0
Free bytes at a room w =
    (k : ℕ) → k < w.records → NoneApplies (end_lines (next_of bytes (place_behind k bytes at)) (eqb (a - k) 0) (ltb (room - ENTRY * k) ENTRY))

free_none : (bytes : List ℕ) (at a room h : ℕ) (s : Site) → Free bytes at a room (ended h at s)
free_none bytes at a room h s k l = absurd (omega arith)

-- before its first record, and before the others as the rest says
free_one :
    (bytes : List ℕ) (at next a room : ℕ) (c : AnyCall) (e : next_of bytes at ≡ Record c next) (answer : Answer) (w : Whole) →
    Here bytes at (suc a) room (Record c next) false false → Free bytes next a (room - ENTRY) w → Free bytes at (suc a) room (followed c answer w)
unfolding place_behind
free_one bytes at next a room c e answer w here i zero l = rw (here.stands, here.allowed, here.roomy) (refl, (refl, (refl, (refl, (refl, tt)))))
free_one bytes at next a room c e answer w here i (suc k) l =
    let left : suc a - suc k ≡ a - k = omega arith in
    let space : room - ENTRY * suc k ≡ room - ENTRY - ENTRY * k = omega arith in
    rw (e, left, space) (i k (omega arith))

free_next :
    (bytes : List ℕ) (n : Next) (short : Bool) (at a room : ℕ) (s : Site) (rest : ℕ → Site → Whole) →
    Here bytes at (suc a) room n false short →
    ((next : ℕ) (t : Site) → Free bytes next a (room - ENTRY) (rest next t)) →
    Free bytes at (suc a) room (goes_on n short at s rest)
free_next b End short at a room s rest here i = free_none b at (suc a) room 0 s
free_next b Unknown true at a room s rest here i = free_none b at (suc a) room 12 s
free_next b Unknown false at a room s rest here i = free_none b at (suc a) room 8 s
free_next b Cut true at a room s rest here i = free_none b at (suc a) room 12 s
free_next b Cut false at a room s rest here i = free_none b at (suc a) room 7 s
free_next b (Record c next) true at a room s rest here i = free_none b at (suc a) room 12 s
free_next b (Record c next) false at a room s rest here i =
    free_one b at next a room c here.stands (played_at c s).answer (rest next (site_of (played_at c s))) here (i next (site_of (played_at c s)))

free_spent : (bytes : List ℕ) (n : Next) (at room : ℕ) (s : Site) → Free bytes at 0 room (spent n at s)
free_spent b End at room s = free_none b at 0 room 0 s
free_spent b (Record c next) at room s = free_none b at 0 room 11 s
free_spent b Unknown at room s = free_none b at 0 room 11 s
free_spent b Cut at room s = free_none b at 0 room 11 s

pub plays_only_where_none_ends_it : PlaysOnlyWhereNoneEndsIt
unfolding run_of
plays_only_where_none_ends_it zero room bytes at s = free_spent bytes (next_of bytes at) at room s
plays_only_where_none_ends_it (suc a) room bytes at s =
    let space : room - ENTRY * 0 ≡ room = omega arith in
    let left : suc a - 0 ≡ suc a = omega arith in
    free_next bytes (next_of bytes at) (ltb room ENTRY) at a room s _ (record { stands = refl; allowed = rw left (eqb-suc-zero a); roomy = rw space refl })
    (λ next t. plays_only_where_none_ends_it a (room - ENTRY) bytes next t)

-- entries are 12 bytes each
pub entry_long : (d : Said) → length (entry_of d) ≡ ENTRY
unfolding entry_of
entry_long d = refl

pub entries_long : (s : Site) (cs : List AnyCall) → length (entries_from s cs) ≡ ENTRY * length cs
unfolding entries_from
entries_long s [] = refl
entries_long s (c ∷ cs) =
    let i = entries_long (site_of (played_at c s)) cs in
    let d = said_of_any c (played_at c s).answer in
    omega (arith, length-append (entry_of d) (entries_from (site_of (played_at c s)) cs), entry_long d)

-- and fit the report, since there was room before the last of them
fits : (bytes : List ℕ) (at a room : ℕ) (w : Whole) → Free bytes at a room w → (n : ℕ) → w.records ≡ n → ENTRY * n ≤ room
fits bytes at a room w f zero e = omega arith
fits bytes at a room w f (suc k) e =
    let none = f k (omega arith) in
    let left = ltb-false (room - ENTRY * k) ENTRY none.1.1.0 in
    omega arith

pub report_stays_behind : ReportStaysBehind
report_stays_behind a report bytes at s =
    let w = run_of a (length report) bytes at s in
    let p = run_plays_its_records a (length report) bytes at s in
    let rest = drop (length w.entries) report in
    let long : length w.entries ≡ ENTRY * w.records =
    ap length p.reported ∙ entries_long s (calls_from w.records bytes at) ∙ ap (λ (n : ℕ). ENTRY * n) p.count in
    let room : ENTRY * w.records ≤ length report =
    fits bytes at a (length report) w (plays_only_where_none_ends_it a (length report) bytes at s) w.records refl in
    record {
      long = omega (arith, length-append w.entries rest, length-drop (length w.entries) report, long, room);
      entries = take_at w.entries rest (ENTRY * w.records) long;
      behind =
          ap (λ (n : ℕ). drop n (w.entries ++ rest)) (sym long ∙ sym (add-zero (length w.entries))) ∙
          drop-append-add w.entries rest 0 ∙ ap (λ (n : ℕ). drop n report) long;
    }
