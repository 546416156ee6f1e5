-- A log that has room for all cares holds them one behind the other: each is three stores at its place, and the next place is behind it.
-- Assumes nothing.
use Prim.Native.Nat.{ℕ, suc, ◌+◌, ◌*◌, ◌/◌, ◌≤◌}
use mathlib.Core.Path.{◌≡◌, refl, ap, sym, ◌∙◌}
use mathlib.Core.List.{List, [], ◌∷◌, ◌++◌, append_assoc}
use native.Mathlib.Omega.{arith}
use borrow.Author.Tests.{le-leb}
use lib.ListN.{length, take, drop, length-append}
use lib.Seq.{sets, sets-eq, length-sets, take_at, drop-append-add, drop-drop, length-take-le}
use Rattle.board_nodes.specs.Site.{Site}
use Rattle.repair_rules.specs.Repair.{Cared, passes_of}
use Rattle.repair_rules.specs.Log.{PASS, care_bytes, log_bytes, care_logged, place_after, logged_at}
use Rattle.repair_rules.specs.Promises.{LogHoldsAll}
use Rattle.repair_rules.proofs.Passes.{passes_short}

-- a care that fits
module _ (log : List ℕ) (at : ℕ) (c : Cared) (h : at + 3 ≤ length log) where
  fits_log : care_logged log at c ≡ sets log at (care_bytes c)
  fits_log = rw (le-leb (at + 3) (length log) h) refl

  fits_place : place_after log at ≡ at + 3
  fits_place = rw (le-leb (at + 3) (length log) h) refl

  pub logged_next : (cs : List Cared) → logged_at log at (c ∷ cs) ≡ logged_at (sets log at (care_bytes c)) (at + 3) cs
  unfolding logged_at
  logged_next cs =
      ap (λ (l : List ℕ). logged_at l (place_after log at) cs) fits_log ∙
      ap (λ (n : ℕ). logged_at (sets log at (care_bytes c)) n cs) fits_place

-- cares, and cares behind them
pub logged_apart :
    (log : List ℕ) (at : ℕ) (xs ys : List Cared) →
    at + length xs * 3 ≤ length log →
    logged_at log at (xs ++ ys) ≡ logged_at (logged_at log at xs) (at + length xs * 3) ys
unfolding logged_at
logged_apart log at [] ys h = let z : at + 0 * 3 ≡ at = omega arith in rw z refl
logged_apart log at (c ∷ cs) ys h =
    let fit : at + 3 ≤ length log = omega arith in
    let log' = sets log at (care_bytes c) in
    let z : at + 3 + length cs * 3 ≡ at + suc (length cs) * 3 = omega arith in
    let same = length-sets log at (care_bytes c) in
    logged_next log at c fit (cs ++ ys) ∙ logged_apart log' (at + 3) cs ys (omega arith) ∙
    ap (λ (n : ℕ). logged_at (logged_at log' (at + 3) cs) n ys) z ∙
    ap (λ (l : List ℕ). logged_at l (at + suc (length cs) * 3) ys) (sym (logged_next log at c fit cs))

-- the log, byte by byte
pub logged_is :
    (log : List ℕ) (at : ℕ) (cs : List Cared) →
    at + length cs * 3 ≤ length log →
    logged_at log at cs ≡ take at log ++ log_bytes cs ++ drop (at + length cs * 3) log
unfolding logged_at
logged_is log at [] h = let z : at + 0 * 3 ≡ at + 0 = omega arith in rw z (sets-eq [] log at (omega arith))
logged_is log at (c ∷ cs) h =
    let fit : at + 3 ≤ length log = omega arith in
    let log' = sets log at (care_bytes c) in
    let front = take at log ++ care_bytes c in
    let stored : log' ≡ front ++ drop (at + 3) log = sets-eq (care_bytes c) log at fit in
    let same = length-sets log at (care_bytes c) in
    let long : length front ≡ at + 3 =
    length-append (take at log) (care_bytes c) ∙ ap (λ (n : ℕ). n + 3) (length-take-le at log (omega arith)) in
    let taken : take (at + 3) log' ≡ front = ap (take (at + 3)) stored ∙ take_at front (drop (at + 3) log) (at + 3) long in
    let behind : drop (at + 3 + length cs * 3) log' ≡ drop (at + 3 + length cs * 3) log =
    ap (drop (at + 3 + length cs * 3)) stored ∙ ap (λ (n : ℕ). drop (n + length cs * 3) (front ++ drop (at + 3) log)) (sym long) ∙
    drop-append-add front (drop (at + 3) log) (length cs * 3) ∙ drop-drop (length cs * 3) (at + 3) log in
    let z : at + 3 + length cs * 3 ≡ at + suc (length cs) * 3 = omega arith in
    logged_next log at c fit cs ∙ logged_is log' (at + 3) cs (omega arith) ∙
    ap (λ (l : List ℕ). l ++ log_bytes cs ++ drop (at + 3 + length cs * 3) log') taken ∙
    ap (λ (l : List ℕ). front ++ log_bytes cs ++ l) behind ∙
    ap (λ (n : ℕ). front ++ log_bytes cs ++ drop n log) z ∙
    ap (λ (l : List ℕ). l ++ drop (at + suc (length cs) * 3) log) (append_assoc (take at log) (care_bytes c) (log_bytes cs))

-- the passes that a log has room for
pub passes_fit : (log : List ℕ) (t : Site) → length (passes_of (length log / PASS) t).cares * 3 ≤ length log
passes_fit log t = let h = passes_short (length log / PASS) t in omega arith

pub log_holds_all : LogHoldsAll
log_holds_all log t =
    let cs = (passes_of (length log / PASS) t).cares in
    let h = passes_fit log t in
    let z : 0 + length cs * 3 ≡ 3 * length cs = omega arith in
    logged_is log 0 cs (omega arith) ∙ ap (λ (n : ℕ). log_bytes cs ++ drop n log) z
