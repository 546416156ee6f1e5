-- What is kept while a pass goes on: the whole pass is what has been done so far and the pass from this slot on. A slot that is not lost is gone by;
-- a lost one is cared for, which is its visit (`care_leaves`).
-- Assumes nothing.
use Prim.Native.Nat.{ℕ, suc, ◌+◌, ◌-◌, ◌<◌, ◌≤◌}
use mathlib.Core.Path.{◌≡◌, refl, ap, sym, ◌∙◌}
use mathlib.Core.Bool.{Bool, true, false, ◌||◌, or-false, or_assoc}
use mathlib.Core.List.{List, [], ◌∷◌}
use native.Mathlib.Omega.{arith}
use native.Mathlib.Nat.{add-zero}
use lib.ListN.{length, set, length-set}
use lib.Seq.{length-sets}
use Rattle.common.proofs.Choices.{either}
use Rattle.agent_request.specs.declared.Request.{Request}
use Rattle.board_slots.specs.declared.Board.{Board}
use Rattle.board_call.specs.declared.AnyCall.TheVariants.{Care}
use Rattle.board_rules.specs.Board.{slot_at}
use Rattle.board_rules.specs.Sent.{handed}
use Rattle.board_rules.specs.declared.Answer.{Answer}
use Rattle.board_rules.specs.declared.Seen.{Seen}
use Rattle.board_nodes.specs.Site.{Site, site_of, inner, node_at, kept_node, played_at}
use Rattle.board_nodes.specs.Answers.{said_of_any}
use Rattle.board_nodes.specs.Leaves.{lent_to}
use Rattle.board_nodes.proofs.Same.{same_site, set_small}
use Rattle.repair_rules.specs.Repair.{Cared, Tended, untended, and_then, is_lost, told_of, pass_from, pass_of, brings_on, some_bring_on}
use Rattle.repair_rules.specs.Log.{care_bytes, fits_at, care_logged, place_after, logged_at}
use Rattle.repair_rules.proofs.Cares.{care_of, left_at, care_leaves, care_tells, pass_skips, pass_cares}
use Rattle.repair_pass.specs.Passes.{PassLeaves}

-- the pass from a slot on
abbrev pub rest_of : ℕ → Site → Tended
rest_of i t = pass_from (256 - i) i t

pub record Passing (t₀ : Site) (log₀ : List ℕ) (at : ℕ) (t : Site) (log : List ℕ) (place cares : ℕ) (on : Bool) (i : ℕ) : Type 0 where
  pub long : length t.slots ≡ 256
  pub noded : (j : ℕ) → node_at t j < 256
  pub lent : length t.words ≡ length t₀.words
  pub room : length log ≡ length log₀
  pub within : i ≤ 256
  pub few : cares ≤ i
  pub left : (pass_of t₀).site ≡ (rest_of i t).site
  pub count : length (pass_of t₀).cares ≡ cares + length (rest_of i t).cares
  pub brings : some_bring_on (pass_of t₀).cares ≡ (on || some_bring_on (rest_of i t).cares)
  pub logged : logged_at log₀ at (pass_of t₀).cares ≡ logged_at log place (rest_of i t).cares

-- before the first slot
pub begins : (t : Site) (log : List ℕ) (at : ℕ) → length t.slots ≡ 256 → ((j : ℕ) → node_at t j < 256) → Passing t log at t log at 0 false 0
begins t log at long noded =
    record {
      long = long;
      noded = noded;
      lent = refl;
      room = refl;
      within = omega arith;
      few = omega arith;
      left = refl;
      count = omega arith;
      brings = refl;
      logged = refl;
    }

logged_long : (log : List ℕ) (at : ℕ) (c : Cared) → length (care_logged log at c) ≡ length log
logged_long log at c = either (λ (l : List ℕ). length l ≡ length log) (fits_at log at) (length-sets log at (care_bytes c)) refl

logged_one : (log : List ℕ) (at : ℕ) (c : Cared) (cs : List Cared) → logged_at log at (c ∷ cs) ≡ logged_at (care_logged log at c) (place_after log at) cs
unfolding logged_at
logged_one log at c cs = refl

-- a care in numbers
abbrev cared : ℕ → ℕ → ℕ → Cared
cared i p o = record { slot = i; phase = p; outcome = o }

module _
    {t₀ : Site} {log₀ : List ℕ} {at : ℕ} {t : Site} {log : List ℕ} {place cares : ℕ} {on : Bool} {i : ℕ}
    (p : Passing t₀ log₀ at t log place cares on i) (small : i < 256) where
  next : (w : Tended) → pass_from (suc (256 - (i + 1))) i t ≡ w → rest_of i t ≡ w
  next w e = let k : 256 - i ≡ suc (256 - (i + 1)) = omega arith in ap (λ (n : ℕ). pass_from n i t) k ∙ e

  on_from : suc i ≡ i + 1
  on_from = omega arith

  -- a slot that is not lost
  pub goes_by : is_lost t i ≡ false → Passing t₀ log₀ at t log place cares on (i + 1)
  goes_by e =
      let rest : rest_of i t ≡ rest_of (i + 1) t =
      next _ (pass_skips (256 - (i + 1)) i t e ∙ ap (λ (n : ℕ). pass_from (256 - (i + 1)) n t) on_from) in
      record {
        long = p.long;
        noded = p.noded;
        lent = p.lent;
        room = p.room;
        within = omega arith;
        few = let h = p.few in omega arith;
        left = p.left ∙ ap (λ (w : Tended). w.site) rest;
        count = p.count ∙ ap (λ (w : Tended). cares + length w.cares) rest;
        brings = p.brings ∙ ap (λ (w : Tended). on || some_bring_on w.cares) rest;
        logged = p.logged ∙ ap (λ (w : Tended). logged_at log place w.cares) rest;
      }

  -- a lost one
  pub cares_one :
      is_lost t i ≡ true →
      (r : Seen) (words' : List ℕ) →
      r ≡ handed (care_of t i) →
      words' ≡ (care_of t i).words →
      length words' ≡ length t.words →
      (node : ℕ) →
      node < 256 →
      node ≡ kept_node 0 (slot_at (inner t) i) r.request (node_at t i) →
      (outcome : ℕ) →
      outcome ≡ (said_of_any (Care i) r.answer).outcome →
      (place' : ℕ) (log' : List ℕ) →
      place' ≡ place_after log place →
      log' ≡ care_logged log place (cared i (slot_at (inner t) i).phase outcome) →
      (on' : Bool) →
      on' ≡ (on || brings_on (cared 0 0 outcome)) →
      Passing t₀ log₀ at
      (record { slots = set t.slots i r.request; nodes = set t.nodes i node; fenced = t.fenced; words = words' })
      log' place' (cares + 1) on' (i + 1)
  cares_one lost r words' er ew lw node below en outcome eo place' log' ep el on' eb =
      let v = care_of t i in
      let q = slot_at (inner t) i in
      let t' : Site = record { slots = set t.slots i r.request; nodes = set t.nodes i node; fenced = t.fenced; words = words' } in
      let got : r.request ≡ v.request = ap (λ (x : Seen). x.request) er in
      let stored : t' ≡ left_at t i v =
      same_site (ap (λ (x : Request). set t.slots i x) got)
      (ap (λ (x : ℕ). set t.nodes i x) (en ∙ ap (λ (x : Request). kept_node 0 q x (node_at t i)) got)) refl ew in
      let site : site_of (played_at (Care i) t) ≡ t' = care_leaves t i p.long small lost ∙ sym stored in
      let told : (played_at (Care i) t).answer ≡ r.answer =
      care_tells t i p.long small lost ∙ sym (ap (λ (x : Seen). x.answer) er) in
      let c = cared i q.phase outcome in
      let same : told_of i t ≡ c =
      ap (λ (a : Answer). cared i q.phase (said_of_any (Care i) a).outcome) told ∙ ap (cared i q.phase) (sym eo) in
      let w = rest_of (i + 1) t' in
      let rest : rest_of i t ≡ and_then (c ∷ []) w =
      next _
      (pass_cares (256 - (i + 1)) i t lost ∙
      ap (λ (x : Cared). and_then (x ∷ []) (pass_from (256 - (i + 1)) (suc i) (site_of (played_at (Care i) t)))) same ∙
      ap (λ (u : Site). and_then (c ∷ []) (pass_from (256 - (i + 1)) (suc i) u)) site ∙
      ap (λ (n : ℕ). and_then (c ∷ []) (pass_from (256 - (i + 1)) n t')) on_from) in
      record {
        long = length-set t.slots i r.request ∙ p.long;
        noded = set_small t.nodes i node below p.noded;
        lent = lw ∙ p.lent;
        room = ap length el ∙ logged_long log place c ∙ p.room;
        within = omega arith;
        few = let h = p.few in omega arith;
        left = p.left ∙ ap (λ (x : Tended). x.site) rest;
        count =
            let e : length (pass_of t₀).cares ≡ cares + suc (length w.cares) =
            p.count ∙ ap (λ (x : Tended). cares + length x.cares) rest in
            omega arith;
        brings =
            p.brings ∙ ap (λ (x : Tended). on || some_bring_on x.cares) rest ∙ sym (or_assoc on (brings_on c) (some_bring_on w.cares)) ∙
            ap (λ (b : Bool). b || some_bring_on w.cares) (sym eb);
        logged =
            p.logged ∙ ap (λ (x : Tended). logged_at log place x.cares) rest ∙ logged_one log place c w.cares ∙
            ap (λ (l : List ℕ). logged_at l (place_after log place) w.cares) (sym el) ∙
            ap (λ (n : ℕ). logged_at log' n w.cares) (sym ep);
      }

-- behind the last slot nothing is left
none_left : (t : Site) → pass_from 0 256 t ≡ untended t
unfolding pass_from
none_left t = refl

nothing_logged : (log : List ℕ) (at : ℕ) → logged_at log at [] ≡ log
unfolding logged_at
nothing_logged log at = refl

pub ends :
    (b : Board) (words₀ log₀ : List ℕ) (at : ℕ) (cur : Board) (words log : List ℕ) (place cares : ℕ) (on : Bool) (i : ℕ) →
    Passing (lent_to b words₀) log₀ at (lent_to cur words) log place cares on i →
    256 ≤ i →
    PassLeaves b words₀ log₀ at (record { board = cur; cares = cares; progress = on }) words log
ends b words₀ log₀ at cur words log place cares on i p h =
    let t = lent_to cur words in
    let g = p.within in
    let k : 256 - i ≡ 0 = omega arith in
    let j : i ≡ 256 = omega arith in
    let rest : rest_of i t ≡ untended t =
    ap (λ (n : ℕ). pass_from n i t) k ∙ ap (λ (n : ℕ). pass_from 0 n t) j ∙ none_left t in
    let site : (pass_of (lent_to b words₀)).site ≡ t = p.left ∙ ap (λ (x : Tended). x.site) rest in
    record {
      slots_after = sym (ap (λ (x : Site). x.slots) site);
      nodes_after = sym (ap (λ (x : Site). x.nodes) site);
      fenced_after = sym (ap (λ (x : Site). x.fenced) site);
      cares_made =
          sym (p.count ∙ ap (λ (x : Tended). cares + length x.cares) rest ∙ add-zero cares);
      brings =
          sym (p.brings ∙ ap (λ (x : Tended). on || some_bring_on x.cares) rest ∙ or-false on);
      words_after = sym (ap (λ (x : Site). x.words) site);
      log_after = sym (p.logged ∙ ap (λ (x : Tended). logged_at log place x.cares) rest ∙ nothing_logged log place);
    }
