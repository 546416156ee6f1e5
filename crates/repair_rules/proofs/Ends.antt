-- Why the repair ends, and rests where it does. The rank of a site is the sum of its requests' ranks, at most 3 for each of 256 slots. A pass that brings
-- something on lowers it, since each of its cares keeps it or lowers it (`visit_goes`); so among 769 passes one brings nothing on. That pass has changed
-- nothing, so what it was told of each lost slot is what a care would be told again.
-- Assumes nothing.
use Prim.Native.Nat.{ℕ, zero, suc, ◌+◌, ◌*◌, ◌<◌, ◌≤◌}
use mathlib.Core.Path.{◌≡◌, refl, ap, sym, ◌∙◌, subst}
use mathlib.Core.Bool.{Bool, true, false, ◌||◌}
use mathlib.Core.Logic.{◌⊎◌, inl, inr, ⊎_elim}
use mathlib.Core.List.{List, [], ◌∷◌}
use native.Mathlib.Omega.{arith}
use native.Mathlib.Nat.{eq-or-lt_of_le}
use borrow.Author.Tests.{leb-true, leb-false}
use lib.Dec.{leb}
use lib.ListN.{length, get_or, set, length-set, get_or-eq_default}
use lib.Seq.{set-get_or}
use Rattle.std.proofs.lemmas.Bool.{and_parts, cases_Bool}
use Rattle.agent_request.specs.Request.{phase_of, in_use, free_request}
use Rattle.agent_request.specs.declared.Phase.{Phase}
use Rattle.agent_request.specs.declared.Phase.TheVariants.{Free, Asking, Waiting, Held, Owing, Clearing}
use Rattle.agent_request.specs.declared.Request.{Request}
use Rattle.board_slots.specs.Slots.{SLOTS}
use Rattle.board_call.specs.declared.AnyCall.TheVariants.{Care}
use Rattle.board_rules.specs.Board.{slot_at}
use Rattle.board_rules.specs.declared.Answer.{Answer}
use Rattle.board_rules.proofs.Told.{apart}
use Rattle.board_nodes.specs.Site.{Site, site_of, inner, node_at, shut_at, kept_node, played_at}
use Rattle.board_nodes.specs.Answers.{said_of_any}
use Rattle.board_nodes.proofs.Visits.{kept_same}
use Rattle.repair_rules.specs.Repair.{Tended, is_lost, told_of, pass_from, pass_of, brings_on, some_bring_on, passes_of, PASSES}
use Rattle.repair_rules.specs.Log.{done_in}
use Rattle.repair_rules.specs.Promises.{RepairEnds, RepairRests}
use Rattle.repair_rules.proofs.Cares.{care_of, left_at, care_leaves, care_tells, pass_skips, pass_cares}
use Rattle.repair_rules.proofs.Passes.{passes_go, passes_end, done_go, done_end}
use Rattle.repair_rules.proofs.Moves.{rank_in, rank_of, visit_goes}

-- the rank of a table
abbrev rank_sum : List Request → ℕ
rank_sum [] = 0
rank_sum (q ∷ qs) = rank_of q + rank_sum qs

rank_most : (q : Request) → rank_of q ≤ 3
rank_most q = by (phase_of q.phase)
  where
    by : (p : Phase) → rank_in p ≤ 3
    by Free = omega arith
    by Asking = omega arith
    by Waiting = omega arith
    by Held = omega arith
    by Owing = omega arith
    by Clearing = omega arith

sum_most : (qs : List Request) → rank_sum qs ≤ 3 * length qs
sum_most [] = omega arith
sum_most (q ∷ qs) = let h = sum_most qs in let g = rank_most q in omega arith

-- it falls with the rank of one of them
sum_falls : (qs : List Request) (i : ℕ) (q : Request) → i < length qs → rank_of q < rank_of (get_or qs i free_request) → rank_sum (set qs i q) < rank_sum qs
sum_falls [] i q h l = absurd (omega arith)
sum_falls (x ∷ qs) zero q h l = omega arith
sum_falls (x ∷ qs) (suc i) q h l = let e = sum_falls qs i q (omega arith) l in omega arith

-- a care of a lost slot brings nothing on and changes nothing, or the site's rank falls
abbrev Cares : Site → ℕ → Type 0
Cares t i =
    ((brings_on (told_of i t) ≡ false) × (site_of (played_at (Care i) t) ≡ t)) ⊎
    ((brings_on (told_of i t) ≡ true) × (rank_sum (site_of (played_at (Care i) t)).slots < rank_sum t.slots))

module _ (t : Site) (i : ℕ) (long : length t.slots ≡ SLOTS) (small : i < SLOTS) (lost : is_lost t i ≡ true) where
  care_long : length (site_of (played_at (Care i) t)).slots ≡ SLOTS
  care_long =
      ap (λ (u : Site). length u.slots) (care_leaves t i long small lost) ∙ length-set t.slots i (care_of t i).request ∙ long

  care_goes : Cares t i
  care_goes =
      let q = slot_at (inner t) i in
      let v = care_of t i in
      let said : brings_on (told_of i t) ≡ brings_on (record { slot = 0; phase = 0; outcome = (said_of_any (Care i) v.answer).outcome }) =
      ap (λ (a : Answer). brings_on (record { slot = 0; phase = 0; outcome = (said_of_any (Care i) a).outcome })) (care_tells t i long small lost) in
      ⊎_elim
      (λ p.
      inl (
        said ∙ p.0,
        care_leaves t i long small lost ∙ stays p.1 p.2,
      ))
      (λ p.
      inr (
        said ∙ p.0,
        subst (λ (u : Site). rank_sum u.slots < rank_sum t.slots) (sym (care_leaves t i long small lost))
            (sum_falls t.slots i v.request (omega arith) p.1),
      ))
      (visit_goes i q t.words (and_parts (in_use q) (shut_at t i) lost).0)
    where
      stays : (care_of t i).request ≡ slot_at (inner t) i → (care_of t i).words ≡ t.words → left_at t i (care_of t i) ≡ t
      stays e f =
          ap
          (λ (x : Request).
          record {
            slots = set t.slots i x;
            nodes = set t.nodes i (kept_node 0 (slot_at (inner t) i) x (node_at t i));
            fenced = t.fenced;
            words = (care_of t i).words;
          })
          e ∙
          ap
          (λ (l : List Request).
          record {
            slots = l;
            nodes = set t.nodes i (kept_node 0 (slot_at (inner t) i) (slot_at (inner t) i) (node_at t i));
            fenced = t.fenced;
            words = (care_of t i).words;
          })
          (set-get_or t.slots i free_request) ∙
          ap (λ (n : ℕ). record { slots = t.slots; nodes = set t.nodes i n; fenced = t.fenced; words = (care_of t i).words })
          (kept_same 0 (node_at t i) (slot_at (inner t) i)) ∙
          ap (λ (l : List ℕ). record { slots = t.slots; nodes = l; fenced = t.fenced; words = (care_of t i).words }) (set-get_or t.nodes i 0) ∙
          ap (λ (l : List ℕ). record { slots = t.slots; nodes = t.nodes; fenced = t.fenced; words = l }) f

-- no care of the k slots from i on would bring anything on
abbrev Quiet : ℕ → ℕ → Site → Type 0
Quiet k i t = (j : ℕ) → i ≤ j → j < i + k → is_lost t j ≡ true → brings_on (told_of j t) ≡ false

-- a pass over them brings nothing on and changes nothing, and they are quiet; or the rank falls
abbrev Passed : ℕ → ℕ → Site → Tended → Type 0
Passed k i t w =
    ((some_bring_on w.cares ≡ false) × (w.site ≡ t) × Quiet k i t) ⊎
    ((some_bring_on w.cares ≡ true) × (rank_sum w.site.slots < rank_sum t.slots) × (length w.site.slots ≡ SLOTS))

-- one slot more in front
quiet_more : (k i : ℕ) (t : Site) → (is_lost t i ≡ true → brings_on (told_of i t) ≡ false) → Quiet k (suc i) t → Quiet (suc k) i t
quiet_more k i t h r j low high lost =
    ⊎_elim
    (λ (e : i ≡ j). subst (λ (n : ℕ). is_lost t n ≡ true → brings_on (told_of n t) ≡ false) e h lost)
    (λ (l : i < j). r j l (omega arith) lost)
    (eq-or-lt_of_le low)

pass_result : (k i : ℕ) (t : Site) → length t.slots ≡ SLOTS → i + k ≤ SLOTS → Passed k i t (pass_from k i t)
unfolding pass_from
pass_result zero i t long fit = inl (refl, refl, λ j low high lost. absurd (omega arith))
pass_result (suc k) i t long fit =
    let small : i < SLOTS = omega arith in
    let fit' : suc i + k ≤ SLOTS = omega arith in
    let again : (u : Site) → length u.slots ≡ SLOTS → Passed k (suc i) u (pass_from k (suc i) u) = λ u l. pass_result k (suc i) u l fit' in
    ⊎_elim
    (λ (yes : is_lost t i ≡ true).
    let u = site_of (played_at (Care i) t) in
    let w = pass_from k (suc i) u in
    subst (Passed (suc k) i t) (sym (pass_cares k i t yes))
    (⊎_elim
    (λ c.
    ⊎_elim
    (λ p.
    inl (
      ap (λ (x : Bool). x || some_bring_on w.cares) c.0 ∙ p.0,
      p.1 ∙ c.1,
      quiet_more k i t (λ z. c.0) (subst (Quiet k (suc i)) c.1 p.2),
    ))
    (λ p.
    inr (
      ap (λ (x : Bool). x || some_bring_on w.cares) c.0 ∙ p.0,
      subst (λ (s : Site). rank_sum w.site.slots < rank_sum s.slots) c.1 p.1,
      p.2,
    ))
    (again u (care_long t i long small yes)))
    (λ c.
    let on = ap (λ (x : Bool). x || some_bring_on w.cares) c.0 in
    ⊎_elim
    (λ p.
    inr (
      on,
      subst (λ (s : Site). rank_sum s.slots < rank_sum t.slots) (sym p.1) c.1,
      ap (λ (s : Site). length s.slots) p.1 ∙ care_long t i long small yes,
    ))
    (λ p. let f = c.1 in let g = p.1 in inr (on, omega arith, p.2))
    (again u (care_long t i long small yes)))
    (care_goes t i long small yes)))
    (λ (no : is_lost t i ≡ false).
    subst (Passed (suc k) i t) (sym (pass_skips k i t no))
    (⊎_elim
    (λ p. inl (p.0, p.1, quiet_more k i t (λ yes. absurd (apart (sym yes ∙ no))) p.2))
    (λ p. inr p)
    (again t long)))
    (cases_Bool (is_lost t i))

pass_all : (t : Site) → length t.slots ≡ SLOTS → Passed SLOTS 0 t (pass_of t)
pass_all t long = pass_result SLOTS 0 t long (omega arith)

-- as many passes as the rank, and one more
ends_by : (n : ℕ) (t : Site) → length t.slots ≡ SLOTS → rank_sum t.slots ≤ n → done_in (suc n) t ≡ true
ends_by zero t long h =
    ⊎_elim
    (λ p. done_end 0 t p.0)
    (λ p. let l = p.1 in absurd (omega arith))
    (pass_all t long)
ends_by (suc n) t long h =
    let again : length (pass_of t).site.slots ≡ SLOTS → rank_sum (pass_of t).site.slots ≤ n → done_in (suc n) (pass_of t).site ≡ true =
    λ l r. ends_by n (pass_of t).site l r in
    ⊎_elim
    (λ p. done_end (suc n) t p.0)
    (λ p. let l = p.1 in done_go (suc n) t p.0 ∙ again p.2 (omega arith))
    (pass_all t long)

pub repair_ends : RepairEnds
repair_ends t long = let h = sum_most t.slots in ends_by 768 t long (omega arith)

-- where passes are done, the site is quiet
abbrev Rests : Site → Type 0
Rests u = (length u.slots ≡ SLOTS) × Quiet SLOTS 0 u

rests_by : (n : ℕ) (t : Site) → length t.slots ≡ SLOTS → done_in n t ≡ true → Rests (passes_of n t).site
unfolding done_in
rests_by zero t long d = absurd (apart (sym d))
rests_by (suc n) t long d =
    let again : length (pass_of t).site.slots ≡ SLOTS → done_in n (pass_of t).site ≡ true → Rests (passes_of n (pass_of t).site).site =
    λ l e. rests_by n (pass_of t).site l e in
    ⊎_elim
    (λ p.
    subst (λ (w : Tended). Rests w.site) (sym (passes_end n t p.0))
    (subst Rests (sym p.1) (long, p.2)))
    (λ p.
    subst (λ (w : Tended). Rests w.site) (sym (passes_go n t p.0))
    (again p.2 (sym (done_go n t p.0) ∙ d)))
    (pass_all t long)

-- a lost slot is one of the board
lost_small : (u : Site) (i : ℕ) → length u.slots ≡ SLOTS → is_lost u i ≡ true → i < SLOTS
lost_small u i long lost =
    ⊎_elim
    (λ (b : leb SLOTS i ≡ true).
    let h = leb-true SLOTS i b in
    let free : slot_at (inner u) i ≡ free_request = get_or-eq_default u.slots free_request (omega arith) in
    absurd (apart (sym (and_parts (in_use (slot_at (inner u) i)) (shut_at u i) lost).0 ∙ ap in_use free)))
    (λ (b : leb SLOTS i ≡ false). leb-false SLOTS i b)
    (cases_Bool (leb SLOTS i))

pub repair_rests : RepairRests
repair_rests t long i lost =
    let u = (passes_of PASSES t).site in
    let r = rests_by PASSES t long (repair_ends t long) in
    let small = lost_small u i r.0 lost in
    let quiet = r.1 i (omega arith) (omega arith) lost in
    ⊎_elim
    (λ c. c)
    (λ c. absurd (apart (sym c.0 ∙ quiet)))
    (care_goes u i r.0 small lost)
