-- Why split and join undo each other. A word is the number with the four digits nX, nS, mX, mS to the base 2^16: a digit
-- and what stands above it make what stands there (`digit`), and three times over that is the whole word. The other way
-- round, each digit below 2^16 is what the division leaves.
-- Assumes nothing.
use Prim.Native.Nat.{ℕ, ◌+◌, ◌*◌, ◌/◌, ◌%◌}
use mathlib.Core.Path.{◌≡◌, ◌∙◌}
use native.Mathlib.Nat.{div-div-eq-div-mul, div-add-mod', div-one}
use native.Mathlib.Omega.{arith}
use Rattle.word_layout.specs.Promises.{WordComesBack, CountersComeBack}
use Rattle.word_layout.specs.declared.Counters.{Counters}

digit : (w k : ℕ) → w / (k * 65536) * 65536 + w / k % 65536 ≡ w / k
digit w k = rw (← div-div-eq-div-mul w k 65536) (div-add-mod' (w / k) 65536)

-- four digits, each with what stands above it, make the number
four_digits :
    (w above mid top a : ℕ) (b c d : ℕ) →
    above * 65536 + d ≡ w →
    mid * 65536 + c ≡ above →
    top * 65536 + b ≡ mid →
    a ≡ top →
    a * 281474976710656 + b * 4294967296 + c * 65536 + d * 1 ≡ w
four_digits w above mid top a b c d p q r s = omega arith

pub word_comes_back : WordComesBack
word_comes_back w h =
    let lowest : w / 65536 * 65536 + w / 1 % 65536 ≡ w = digit w 1 ∙ div-one w in
    let highest : w / 281474976710656 % 65536 ≡ w / 281474976710656 = omega arith in
    four_digits w _ _ _ _ _ _ _ lowest (digit w 65536) (digit w 4294967296) highest

-- four numbers as counters
abbrev four : ℕ → ℕ → ℕ → ℕ → Counters
four a b c d = record { nx = record { 0 = a }; ns = record { 0 = b }; mx = record { 0 = c }; ms = record { 0 = d } }

four_same : {a b c d a' b' c' d' : ℕ} → a ≡ a' → b ≡ b' → c ≡ c' → d ≡ d' → four a b c d ≡ four a' b' c' d'
four_same p q r s = cc

pub counters_come_back : CountersComeBack
counters_come_back c n = four_same (omega arith) (omega arith) (omega arith) (omega arith)
