-- What is kept while a repair goes on: all passes are those made so far and the passes from here. One more pass keeps it; a pass that brings nothing on
-- is the last, and so is the one after which the log has no room for another.
-- Assumes nothing.
use Prim.Native.Nat.{ℕ, suc, ◌+◌, ◌-◌, ◌*◌, ◌/◌, ◌<◌, ◌≤◌}
use mathlib.Core.Path.{◌≡◌, refl, ap, sym, ◌∙◌}
use mathlib.Core.Bool.{Bool, true, false}
use mathlib.Core.List.{List}
use native.Mathlib.Omega.{arith}
use native.Mathlib.Nat.{add-zero, sub-zero}
use lib.ListN.{length, length-append}
use Rattle.board_slots.specs.declared.Board.{Board}
use Rattle.board_nodes.specs.Site.{Site}
use Rattle.board_nodes.specs.Leaves.{lent_to}
use Rattle.board_nodes.proofs.Same.{same_site}
use Rattle.repair_rules.specs.Repair.{Tended, untended, and_then, pass_of, some_bring_on, passes_of}
use Rattle.repair_rules.specs.Log.{done_in, logged_at}
use Rattle.repair_rules.proofs.Passes.{pass_short, passes_go, passes_end, done_go, done_end}
use Rattle.repair_rules.proofs.Logs.{logged_apart, log_holds_all}
use Rattle.repair_pass.specs.Passes.{PassLeaves}
use Rattle.repair_pass.specs.declared.PassMade.{PassMade}
use Rattle.repair_all.specs.Repairs.{tended_of, Repairs}

pub record Repairing (t₀ : Site) (log₀ : List ℕ) (t : Site) (log : List ℕ) (cares passes : ℕ) : Type 0 where
  pub lent : length t.words ≡ length t₀.words
  pub room : length log ≡ length log₀
  pub within : passes ≤ length log₀ / 768
  pub few : cares ≤ passes * 256
  pub left : (passes_of (length log₀ / 768) t₀).site ≡ (passes_of (length log₀ / 768 - passes) t).site
  pub count : length (passes_of (length log₀ / 768) t₀).cares ≡ cares + length (passes_of (length log₀ / 768 - passes) t).cares
  pub is_done : done_in (length log₀ / 768) t₀ ≡ done_in (length log₀ / 768 - passes) t
  pub logged : logged_at log₀ 0 (passes_of (length log₀ / 768) t₀).cares ≡ logged_at log (cares * 3) (passes_of (length log₀ / 768 - passes) t).cares

-- before the first pass
pub begins : (t : Site) (log : List ℕ) → Repairing t log t log 0 0
begins t log =
    let same = sub-zero (length log / 768) in
    record {
      lent = refl;
      room = refl;
      within = omega arith;
      few = omega arith;
      left = rw same refl;
      count = rw same (omega arith);
      is_done = rw same refl;
      logged = rw same refl;
    }

-- what a repair came to, put together: all its passes are done
module _ (b : Board) (words₀ log₀ : List ℕ) (board : Board) (words log : List ℕ) (cares : ℕ) (done : Bool) where
  pub came :
      (tended_of b words₀ log₀).site ≡ lent_to board words →
      length (tended_of b words₀ log₀).cares ≡ cares →
      done_in (length log₀ / 768) (lent_to b words₀) ≡ done →
      logged_at log₀ 0 (tended_of b words₀ log₀).cares ≡ log →
      Repairs b words₀ log₀ (record { board = board; cares = cares; done = done }) words log
  came site count is_done logged =
      record {
        slots_after = sym (ap (λ (x : Site). x.slots) site);
        nodes_after = sym (ap (λ (x : Site). x.nodes) site);
        fenced_after = sym (ap (λ (x : Site). x.fenced) site);
        cares_made = sym count;
        is_done = sym is_done;
        words_after = sym (ap (λ (x : Site). x.words) site);
        log_after = sym logged ∙ log_holds_all log₀ (lent_to b words₀);
      }

module _
    (b : Board) (words₀ log₀ : List ℕ) (cur : Board) (words log : List ℕ) (cares passes : ℕ)
    (p : Repairing (lent_to b words₀) log₀ (lent_to cur words) log cares passes) where
  -- where a pass is made its cares fit
  pub bounds : passes < length log₀ / 768 → cares * 3 + 768 ≤ length log₀
  bounds h = let f = p.few in omega arith

  -- one pass more
  module _ (small : passes < length log₀ / 768) (r : PassMade) (words' log' : List ℕ) (l : PassLeaves cur words log (cares * 3) r words' log') where
    abbrev t : Site
    t = lent_to cur words

    after : (pass_of t).site ≡ lent_to r.board words'
    after = sym (same_site l.slots_after l.nodes_after l.fenced_after l.words_after)

    pub few_more : r.cares ≤ 256
    few_more = let e = l.cares_made in let h = pass_short 256 0 t in omega arith

    next : (w : Tended) → passes_of (suc (length log₀ / 768 - (passes + 1))) t ≡ w → passes_of (length log₀ / 768 - passes) t ≡ w
    next w e =
        let k : length log₀ / 768 - passes ≡ suc (length log₀ / 768 - (passes + 1)) = omega arith in
        ap (λ (n : ℕ). passes_of n t) k ∙ e

    next_done : (x : Bool) → done_in (suc (length log₀ / 768 - (passes + 1))) t ≡ x → done_in (length log₀ / 768 - passes) t ≡ x
    next_done x e =
        let k : length log₀ / 768 - passes ≡ suc (length log₀ / 768 - (passes + 1)) = omega arith in
        ap (λ (n : ℕ). done_in n t) k ∙ e

    -- which brings something on
    pub goes_on_law :
        length words' ≡ length words →
        length log' ≡ length log →
        r.progress ≡ true →
        Repairing (lent_to b words₀) log₀ (lent_to r.board words') log' (cares + r.cares) (passes + 1)
    goes_on_law lw ll on =
        let k = length log₀ / 768 - (passes + 1) in
        let t' = lent_to r.board words' in
        let cs = (pass_of t).cares in
        let some : some_bring_on cs ≡ true = sym l.brings ∙ on in
        let w = passes_of k t' in
        let rest : passes_of (length log₀ / 768 - passes) t ≡ and_then cs w =
        next _ (passes_go k t some ∙ ap (λ (u : Site). and_then cs (passes_of k u)) after) in
        let more = few_more in
        let made : cares * 3 + length cs * 3 ≡ (cares + r.cares) * 3 =
        let e = l.cares_made in omega arith in
        let few = p.few in
        record {
          lent = lw ∙ p.lent;
          room = ll ∙ p.room;
          within = omega arith;
          few = omega arith;
          left = p.left ∙ ap (λ (x : Tended). x.site) rest;
          count =
              let e = p.count ∙ ap (λ (x : Tended). cares + length x.cares) rest in
              let f = length-append cs w.cares in
              let g = l.cares_made in
              omega arith;
          is_done = p.is_done ∙ next_done _ (done_go k t some ∙ ap (done_in k) after);
          logged =
              let fit : cares * 3 + length cs * 3 ≤ length log =
              let e = p.room in let g = bounds small in let h = pass_short 256 0 t in omega arith in
              p.logged ∙ ap (λ (x : Tended). logged_at log (cares * 3) x.cares) rest ∙ logged_apart log (cares * 3) cs w.cares fit ∙
              ap (λ (x : List ℕ). logged_at x (cares * 3 + length cs * 3) w.cares) (sym l.log_after) ∙
              ap (λ (n : ℕ). logged_at log' n w.cares) made;
        }

    -- or nothing: it is the last
    pub is_last :
        r.progress ≡ false →
        Repairs b words₀ log₀ (record { board = r.board; cares = cares + r.cares; done = true }) words' log'
    is_last on =
        let k = length log₀ / 768 - (passes + 1) in
        let none : some_bring_on (pass_of t).cares ≡ false = sym l.brings ∙ on in
        let rest : passes_of (length log₀ / 768 - passes) t ≡ pass_of t = next _ (passes_end k t none) in
        came b words₀ log₀ r.board words' log' (cares + r.cares) true (p.left ∙ ap (λ (x : Tended). x.site) rest ∙ after)
        (p.count ∙ ap (λ (x : Tended). cares + length x.cares) rest ∙ ap (λ (n : ℕ). cares + n) (sym l.cares_made))
        (p.is_done ∙ next_done _ (done_end k t none))
        (p.logged ∙ ap (λ (x : Tended). logged_at log (cares * 3) x.cares) rest ∙ sym l.log_after)

  -- no room for another pass
  pub cut_off :
      length log₀ / 768 ≤ passes →
      {done : Bool} →
      done ≡ false →
      Repairs b words₀ log₀ (record { board = cur; cares = cares; done = done }) words log
  unfolding passes_of done_in logged_at
  cut_off h e =
      let g = p.within in
      let k : length log₀ / 768 - passes ≡ 0 = omega arith in
      let rest : passes_of (length log₀ / 768 - passes) (lent_to cur words) ≡ untended (lent_to cur words) =
      ap (λ (n : ℕ). passes_of n (lent_to cur words)) k in
      came b words₀ log₀ cur words log cares _ (p.left ∙ ap (λ (x : Tended). x.site) rest)
      (p.count ∙ ap (λ (x : Tended). cares + length x.cares) rest ∙ add-zero cares)
      (p.is_done ∙ ap (λ (n : ℕ). done_in n (lent_to cur words)) k ∙ sym e)
      (p.logged ∙ ap (λ (x : Tended). logged_at log (cares * 3) x.cares) rest)
