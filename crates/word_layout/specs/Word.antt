-- The lock word: four counters in one 64-bit number, and the three verbs.
-- Nothing here knows of requests, tickets or boards.
use Rattle.std.specs.Prelude.{ℕ, ◌+◌, ◌*◌, ◌-◌, ◌^◌, ◌/◌, ◌%◌, eqb}
use Rattle.common.specs.Choice.{when◌then◌else◌}
use Rattle.word_layout.specs.declared.Counters.{Counters}
use Rattle.word_layout.specs.declared.Counter.{Counter}
use Rattle.word_layout.specs.declared.Counter.TheVariants.{NX, NS, MX, MS}

-- Rule 1.1: How many values a counter has: it is 16 bits wide.
abbrev pub WIDTH : ℕ
WIDTH = 2 ^ 16

-- Rule 1.4: One step of a counter: 1 for mS, 2^16 for mX, 2^32 for nS, 2^48 for nX.
abbrev pub step_of : Counter → ℕ
step_of NX = 2 ^ 48
step_of NS = 2 ^ 32
step_of MX = 2 ^ 16
step_of MS = 1

-- Rule 1.4: Taking one back adds 2^64 less that step.
abbrev pub back_of : Counter → ℕ
back_of k = 2 ^ 64 - step_of k

-- Rule 1.1: What the counter k of a word holds: as many of its steps as the word has, in 16 bits.
abbrev pub held_by : Counter → ℕ → ℕ
held_by k w = w / step_of k % WIDTH

-- Rule 1.1: The four counters of a word.
abbrev pub split_of : ℕ → Counters
split_of w =
    record {
      nx = record { 0 = held_by NX w };
      ns = record { 0 = held_by NS w };
      mx = record { 0 = held_by MX w };
      ms = record { 0 = held_by MS w };
    }

-- Rule 1.1: The word that four counters make: each counts its steps.
abbrev pub join_of : Counters → ℕ
join_of c = c.nx.0 * step_of NX + c.ns.0 * step_of NS + c.mx.0 * step_of MX + c.ms.0 * step_of MS

-- Rule 1.5: add k: the word becomes (word + k) modulo 2^64.
abbrev pub add_of : ℕ → ℕ → ℕ
add_of w k = (w + k) % 2 ^ 64

-- Rule 1.5: swap old, new: the word becomes new if it equals old, else it stays.
abbrev pub swap_of : ℕ → ℕ → ℕ → ℕ
swap_of w old new = when eqb w old then new else w
