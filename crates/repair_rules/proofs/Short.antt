-- A table with fewer slots than 256 is repaired by passes over those that it has: behind its end every slot reads as free. So a small repair computes.
-- Assumes nothing.
use Prim.Native.Nat.{ℕ, zero, suc, ◌+◌, ◌≤◌}
use mathlib.Core.Path.{◌≡◌, refl, ap, sym, ◌∙◌}
use mathlib.Core.Bool.{Bool, true, false, not, ◌&&◌}
use mathlib.Core.List.{List, [], ◌∷◌, append-nil}
use native.Mathlib.Omega.{arith}
use native.Mathlib.Nat.{zero-add, add-zero}
use lib.Dec.{leb}
use lib.ListN.{length, length-set, get_or-eq_default}
use Rattle.common.specs.Choice.{when◌then◌else◌}
use Rattle.common.proofs.Choices.{either}
use Rattle.agent_request.specs.Request.{in_use, free_request}
use Rattle.agent_request.specs.declared.Request.{Request}
use Rattle.board_slots.specs.Slots.{SLOTS}
use Rattle.board_call.specs.declared.AnyCall.TheVariants.{Care}
use Rattle.board_rules.specs.Records.{is_record}
use Rattle.board_rules.specs.Board.{Done, slot_at}
use Rattle.board_rules.specs.Care.{cared}
use Rattle.board_nodes.specs.Site.{Site, SiteDone, site_of, inner, shut_at, used_shut, cared_at, played_at}
use Rattle.repair_rules.specs.Repair.{Cared, Tended, untended, and_then, is_lost, told_of, pass_from, pass_of, some_bring_on, passes_of}
use Rattle.repair_rules.proofs.Cares.{pass_skips}

-- a care leaves as many slots as there were, and so does a pass
care_length : (i : ℕ) (t : Site) → length (site_of (played_at (Care i) t)).slots ≡ length t.slots
unfolding cared_at cared
care_length i t =
    either (λ (d : SiteDone). length d.slots ≡ length t.slots) (used_shut i (slot_at (inner t) i) (not (shut_at t i))) refl
    (either (λ (d : Done). length d.slots ≡ length t.slots) (leb SLOTS i) refl
    (either (λ (d : Done). length d.slots ≡ length t.slots) (not (in_use (slot_at (inner t) i))) refl
    (either (λ (d : Done). length d.slots ≡ length t.slots) (not (is_record (slot_at (inner t) i).«record» t.words)) refl
    (length-set t.slots i _))))

pass_length : (k i : ℕ) (t : Site) → length (pass_from k i t).site.slots ≡ length t.slots
unfolding pass_from
pass_length zero i t = refl
pass_length (suc k) i t =
    let u = site_of (played_at (Care i) t) in
    let a = pass_length k (suc i) t in
    let b = pass_length k (suc i) u ∙ care_length i t in
    either (λ (w : Tended). length w.site.slots ≡ length t.slots) (is_lost t i) b a

-- nothing is behind the table's end
behind : (k i : ℕ) (t : Site) → length t.slots ≤ i → pass_from k i t ≡ untended t
unfolding pass_from
behind zero i t h = refl
behind (suc k) i t h =
    let free : slot_at (inner t) i ≡ free_request = get_or-eq_default t.slots free_request h in
    pass_skips k i t (ap (λ (q : Request). in_use q && shut_at t i) free) ∙ behind k (suc i) t (omega arith)

-- a pass in two parts
in_two : (m k i : ℕ) (t : Site) → pass_from (m + k) i t ≡ and_then (pass_from m i t).cares (pass_from k (i + m) (pass_from m i t).site)
unfolding pass_from
in_two zero k i t = let z : 0 + k ≡ k = zero-add k in let y : i + 0 ≡ i = add-zero i in rw (z, y) refl
in_two (suc m) k i t =
    let z : suc m + k ≡ suc (m + k) = omega arith in
    let y : i + suc m ≡ suc i + m = omega arith in
    let u = site_of (played_at (Care i) t) in
    rw (z, y) (by (is_lost t i) (in_two m k (suc i) u) (in_two m k (suc i) t))
  where
    by :
        (x : Bool) →
        let u = site_of (played_at (Care i) t) in
        pass_from (m + k) (suc i) u ≡ and_then (pass_from m (suc i) u).cares (pass_from k (suc i + m) (pass_from m (suc i) u).site) →
        pass_from (m + k) (suc i) t ≡ and_then (pass_from m (suc i) t).cares (pass_from k (suc i + m) (pass_from m (suc i) t).site) →
        let w = when x then and_then (told_of i t ∷ []) (pass_from m (suc i) u) else pass_from m (suc i) t in
        (when x then and_then (told_of i t ∷ []) (pass_from (m + k) (suc i) u) else pass_from (m + k) (suc i) t) ≡
        and_then w.cares (pass_from k (suc i + m) w.site)
    by true e f = ap (and_then (told_of i t ∷ [])) e
    by false e f = f

-- so the first slots are enough
short_pass : (m k : ℕ) (t : Site) → length t.slots ≤ m → pass_from (m + k) 0 t ≡ pass_from m 0 t
short_pass m k t h =
    let w = pass_from m 0 t in
    let l = pass_length m 0 t in
    in_two m k 0 t ∙ ap (and_then w.cares) (behind k (0 + m) w.site (omega arith)) ∙
    ap (λ (cs : List Cared). record { site = w.site; cares = cs }) (append-nil w.cares)

-- passes over the first m slots
unfoldable pub short_passes : ℕ → ℕ → Site → Tended
short_passes m zero t = untended t
short_passes m (suc n) t =
    when some_bring_on (pass_from m 0 t).cares
    then and_then (pass_from m 0 t).cares (short_passes m n (pass_from m 0 t).site)
    else pass_from m 0 t

pub short_passes_law : (m k : ℕ) → m + k ≡ SLOTS → (n : ℕ) (t : Site) → length t.slots ≤ m → passes_of n t ≡ short_passes m n t
unfolding passes_of short_passes
short_passes_law m k e zero t h = refl
short_passes_law m k e (suc n) t h =
    let l = pass_length m 0 t in
    let w = pass_from m 0 t in
    let same : pass_of t ≡ w = ap (λ (j : ℕ). pass_from j 0 t) (sym e) ∙ short_pass m k t h in
    ap (λ (x : Tended). when some_bring_on x.cares then and_then x.cares (passes_of n x.site) else x) same ∙
    ap (λ (x : Tended). when some_bring_on w.cares then and_then w.cares x else w) (short_passes_law m k e n w.site (omega arith))
