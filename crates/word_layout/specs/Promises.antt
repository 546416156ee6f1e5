-- What the layers above, and a stranger, may believe of the lock word. Statements only: proofs/ has why each holds.
use Rattle.std.specs.Prelude.{ℕ, ◌+◌, ◌-◌, ◌<◌, ◌^◌, ◌≡◌}
use Rattle.word_layout.specs.Word.{WIDTH, step_of, back_of, held_by, split_of, join_of, add_of}
use Rattle.word_layout.specs.declared.Counters.{Counters}
use Rattle.word_layout.specs.declared.Counter.{Counter}
use Rattle.word_layout.specs.declared.Counter.TheVariants.{NX, NS, MX, MS}

-- Four 16-bit counters.
pub record Narrow (c : Counters) : Type 0 where
  pub nx : c.nx.0 < WIDTH
  pub ns : c.ns.0 < WIDTH
  pub mx : c.mx.0 < WIDTH
  pub ms : c.ms.0 < WIDTH

-- Every 64-bit number comes back from split then join.
abbrev pub WordComesBack : Type 0
WordComesBack = (w : ℕ) → w < 2 ^ 64 → join_of (split_of w) ≡ w

-- Every four 16-bit counters come back from join then split.
abbrev pub CountersComeBack : Type 0
CountersComeBack = (c : Counters) → Narrow c → split_of (join_of c) ≡ c

-- The four counters with one of them changed by f and the other three as they were.
abbrev pub changed : Counter → (ℕ → ℕ) → Counters → Counters
changed NX f c = record { nx = record { 0 = f c.nx.0 }; ns = c.ns; mx = c.mx; ms = c.ms }
changed NS f c = record { nx = c.nx; ns = record { 0 = f c.ns.0 }; mx = c.mx; ms = c.ms }
changed MX f c = record { nx = c.nx; ns = c.ns; mx = record { 0 = f c.mx.0 }; ms = c.ms }
changed MS f c = record { nx = c.nx; ns = c.ns; mx = c.mx; ms = record { 0 = f c.ms.0 } }

-- Adding its step to a counter below 65,535 raises that counter by one and leaves the other three.
abbrev pub StepRaises : Type 0
StepRaises =
    (k : Counter) (w : ℕ) → w < 2 ^ 64 → held_by k w < 65535 →
    split_of (add_of w (step_of k)) ≡ changed k (λ n. n + 1) (split_of w)

-- Taking one back from a counter above 0 lowers that counter by one and leaves the other three.
abbrev pub BackLowers : Type 0
BackLowers =
    (k : Counter) (w : ℕ) → w < 2 ^ 64 → 0 < held_by k w →
    split_of (add_of w (back_of k)) ≡ changed k (λ n. n - 1) (split_of w)
