-- Why one step stays in its counter. Changing one counter of four changes the word that they make by the same number of
-- that counter's steps (`change_counts`), and four counters that stay 16 bits wide come back out of their word; so adding
-- a step, and taking one back by adding 2^64 less it, change that counter alone as long as it stays within 0 to 65,535.
-- Assumes nothing.
use Prim.Native.Nat.{ℕ, ◌+◌, ◌*◌, ◌-◌, ◌<◌, ◌≤◌, ◌^◌}
use mathlib.Core.Path.{◌≡◌, ap, sym, ◌∙◌}
use native.Mathlib.Nat.{add-mul, sub-add_cancel}
use native.Mathlib.Omega.{arith}
use Rattle.word_layout.specs.Word.{WIDTH, step_of, back_of, held_by, split_of, join_of, add_of}
use Rattle.word_layout.specs.Promises.{Narrow, changed, StepRaises, BackLowers}
use Rattle.word_layout.specs.declared.Counters.{Counters}
use Rattle.word_layout.specs.declared.Counter.{Counter}
use Rattle.word_layout.specs.declared.Counter.TheVariants.{NX, NS, MX, MS}
use Rattle.word_layout.proofs.RoundTrips.{word_comes_back, counters_come_back}

-- what the counter k of four holds
abbrev pub of_four : Counter → Counters → ℕ
of_four NX c = c.nx.0
of_four NS c = c.ns.0
of_four MX c = c.mx.0
of_four MS c = c.ms.0

-- what split gives is 16 bits wide, and what four such counters make fits 64 bits
pub split_narrow : (w : ℕ) → Narrow (split_of w)
split_narrow w = record { nx = omega arith; ns = omega arith; mx = omega arith; ms = omega arith }

pub join_fits : (c : Counters) → Narrow c → join_of c < 2 ^ 64
join_fits c n = omega arith

change_counts : (k : Counter) (f : ℕ → ℕ) (c : Counters) → join_of (changed k f c) + of_four k c * step_of k ≡ join_of c + f (of_four k c) * step_of k
change_counts NX f c = omega arith
change_counts NS f c = omega arith
change_counts MX f c = omega arith
change_counts MS f c = omega arith

change_narrow : (k : Counter) (f : ℕ → ℕ) (c : Counters) → Narrow c → f (of_four k c) < WIDTH → Narrow (changed k f c)
change_narrow NX f c n h = record { nx = h; ns = n.ns; mx = n.mx; ms = n.ms }
change_narrow NS f c n h = record { nx = n.nx; ns = h; mx = n.mx; ms = n.ms }
change_narrow MX f c n h = record { nx = n.nx; ns = n.ns; mx = h; ms = n.ms }
change_narrow MS f c n h = record { nx = n.nx; ns = n.ns; mx = n.mx; ms = h }

four_narrow : (k : Counter) (c : Counters) → Narrow c → of_four k c < WIDTH
four_narrow NX c n = n.nx
four_narrow NS c n = n.ns
four_narrow MX c n = n.mx
four_narrow MS c n = n.ms

step_small : (k : Counter) → step_of k ≤ 2 ^ 48
step_small NX = omega arith
step_small NS = omega arith
step_small MX = omega arith
step_small MS = omega arith

held_of_four : (k : Counter) (w : ℕ) → of_four k (split_of w) ≡ held_by k w
held_of_four NX w = omega arith
held_of_four NS w = omega arith
held_of_four MX w = omega arith
held_of_four MS w = omega arith

-- over four counters: one more
pub step_joins : (k : Counter) (c : Counters) → Narrow c → of_four k c < 65535 → add_of (join_of c) (step_of k) ≡ join_of (changed k (λ n. n + 1) c)
step_joins k c n h =
    omega (
      arith,
      change_counts k (λ n. n + 1) c,
      add-mul (of_four k c) 1 (step_of k),
      join_fits (changed k (λ n. n + 1) c) (change_narrow k (λ n. n + 1) c n (omega arith)),
    )

-- and one less
pub back_joins : (k : Counter) (c : Counters) → Narrow c → 0 < of_four k c → add_of (join_of c) (back_of k) ≡ join_of (changed k (λ n. n - 1) c)
back_joins k c n h =
    let b = four_narrow k c n in
    omega (
      arith,
      change_counts k (λ n. n - 1) c,
      add-mul (of_four k c - 1) 1 (step_of k),
      ap (λ (m : ℕ). m * step_of k) (sub-add_cancel h),
      step_small k,
      join_fits (changed k (λ n. n - 1) c) (change_narrow k (λ n. n - 1) c n (omega arith)),
    )

-- over words: what is said of the counters of a word, through the round trips
from_four :
    (k : Counter) (f : ℕ → ℕ) (w d : ℕ) →
    w < 2 ^ 64 →
    f (held_by k w) < WIDTH →
    add_of (join_of (split_of w)) d ≡ join_of (changed k f (split_of w)) →
    split_of (add_of w d) ≡ changed k f (split_of w)
from_four k f w d h b e =
    ap (λ (v : ℕ). split_of (add_of v d)) (sym (word_comes_back w h)) ∙ ap split_of e ∙
    counters_come_back (changed k f (split_of w)) (change_narrow k f (split_of w) (split_narrow w) (rw (held_of_four k w) b))

pub step_raises : StepRaises
step_raises k w h b =
    let e = held_of_four k w in
    from_four k (λ n. n + 1) w (step_of k) h (omega arith) (step_joins k (split_of w) (split_narrow w) (omega arith))

pub back_lowers : BackLowers
back_lowers k w h b =
    let e = held_of_four k w in
    from_four k (λ n. n - 1) w (back_of k) h (omega arith) (back_joins k (split_of w) (split_narrow w) (omega arith))
