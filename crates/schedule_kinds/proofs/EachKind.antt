-- Why a call is its kind and numbers: each kind has its line in `parts_of` and in `call_of`, and the one undoes the other. What depends on the
-- kind is shown kind by kind, 0 to 7 and above, once (`none_or_known`).
-- Assumes nothing.
use Prim.Native.Nat.{ℕ, zero, suc, ◌<◌, ◌≤◌}
use mathlib.Core.Path.{◌≡◌, refl, ap}
use mathlib.Core.Bool.{false}
use mathlib.Core.Logic.{◌⊎◌, inl, inr, ⊎_elim}
use mathlib.Core.List.{[], ◌∷◌}
use native.Mathlib.Omega.{arith}
use borrow.Author.Tests.{ne_eqb}
use lib.Dec.{eqb}
use lib.ListN.{length, get_or}
use Rattle.board_call.specs.declared.AnyCall.TheVariants.{Base, OpenAs, Fence, Care}
use Rattle.board_call.specs.declared.Call.TheVariants.{Open, Step, Release, Show}
use Rattle.schedule_kinds.specs.Kinds.{widths_of, body_of, total, parts, parts_of, call_of}
use Rattle.schedule_kinds.specs.Promises.{KnownExactly, CallIsItsParts, CallIsKnown, PartsAreTheCall}

-- past the last kind each test of `widths_of` fails
pub beyond : (k : ℕ) → 7 < k → widths_of k ≡ 0 ∷ 0 ∷ 0 ∷ []
unfolding widths_of
beyond k h =
    let ne : (n : ℕ) → n ≤ 7 → eqb k n ≡ false = λ n l. ne_eqb k n (λ e. omega arith) in
    rw (ne 1 (omega arith), ne 2 (omega arith), ne 3 (omega arith), ne 4 (omega arith), ne 5 (omega arith), ne 6 (omega arith), ne 7 (omega arith)) refl

-- what holds of 0 to 7 and of all above holds of every kind
pub each_kind : (P : ℕ → Type 0) → P 0 → P 1 → P 2 → P 3 → P 4 → P 5 → P 6 → P 7 → ((k : ℕ) → 7 < k → P k) → (k : ℕ) → P k
each_kind P p0 p1 p2 p3 p4 p5 p6 p7 above zero = p0
each_kind P p0 p1 p2 p3 p4 p5 p6 p7 above (suc zero) = p1
each_kind P p0 p1 p2 p3 p4 p5 p6 p7 above (suc (suc zero)) = p2
each_kind P p0 p1 p2 p3 p4 p5 p6 p7 above (suc (suc (suc zero))) = p3
each_kind P p0 p1 p2 p3 p4 p5 p6 p7 above (suc (suc (suc (suc zero)))) = p4
each_kind P p0 p1 p2 p3 p4 p5 p6 p7 above (suc (suc (suc (suc (suc zero))))) = p5
each_kind P p0 p1 p2 p3 p4 p5 p6 p7 above (suc (suc (suc (suc (suc (suc zero)))))) = p6
each_kind P p0 p1 p2 p3 p4 p5 p6 p7 above (suc (suc (suc (suc (suc (suc (suc zero))))))) = p7
each_kind P p0 p1 p2 p3 p4 p5 p6 p7 above (suc (suc (suc (suc (suc (suc (suc (suc m)))))))) = above (suc (suc (suc (suc (suc (suc (suc (suc m)))))))) (omega arith)

-- a kind is none of 1 to 7 and has no body, or is one of them and has one
abbrev Sorted : ℕ → Type 0
Sorted k = (((k ≡ 0) ⊎ (7 < k)) × (body_of k ≡ 0)) ⊎ ((0 < k) × (k ≤ 7) × (0 < body_of k))

pub none_or_known : (k : ℕ) → Sorted k
unfolding body_of widths_of
none_or_known =
    each_kind
    Sorted
    (inl (inl refl, refl))
    (inr (omega arith, omega arith, omega arith))
    (inr (omega arith, omega arith, omega arith))
    (inr (omega arith, omega arith, omega arith))
    (inr (omega arith, omega arith, omega arith))
    (inr (omega arith, omega arith, omega arith))
    (inr (omega arith, omega arith, omega arith))
    (inr (omega arith, omega arith, omega arith))
    (λ k h. inl (inr h, ap total (beyond k h)))

pub no_body : (k : ℕ) → (k ≡ 0) ⊎ (7 < k) → body_of k ≡ 0
no_body k h = ⊎_elim (λ n. n.1) (λ b. absurd (⊎_elim (λ e. omega arith) (λ l. omega arith) h)) (none_or_known k)

pub some_body : (k : ℕ) → 0 < k → k ≤ 7 → 0 < body_of k
some_body k p q = ⊎_elim (λ n. absurd (⊎_elim (λ e. omega arith) (λ l. omega arith) n.0)) (λ b. b.2) (none_or_known k)

pub known_exactly : KnownExactly
known_exactly k = (
  λ h. ⊎_elim (λ n. absurd (omega (arith, n.1))) (λ b. (b.0, b.1)) (none_or_known k),
  λ h. some_body k h.0 h.1,
)

pub call_is_its_parts : CallIsItsParts
unfolding call_of
call_is_its_parts (Base (Open r m)) = refl
call_is_its_parts (Base (Step s)) = refl
call_is_its_parts (Base (Release s)) = refl
call_is_its_parts (Base (Show r)) = refl
call_is_its_parts (OpenAs r m n) = refl
call_is_its_parts (Fence n) = refl
call_is_its_parts (Care s) = refl

pub call_is_known : CallIsKnown
unfolding body_of widths_of
call_is_known (Base (Open r m)) = omega arith
call_is_known (Base (Step s)) = omega arith
call_is_known (Base (Release s)) = omega arith
call_is_known (Base (Show r)) = omega arith
call_is_known (OpenAs r m n) = omega arith
call_is_known (Fence n) = omega arith
call_is_known (Care s) = omega arith

-- the same of a kind and three numbers
abbrev Same : ℕ → Type 0
Same k =
    (a b c : ℕ) →
    0 < body_of k →
    ((i : ℕ) → get_or (widths_of k) i 0 ≡ 0 → get_or (a ∷ b ∷ c ∷ []) i 0 ≡ 0) →
    parts_of (call_of (parts k a b c)) ≡ parts k a b c

same : (k : ℕ) → Same k
unfolding call_of body_of widths_of
same =
    each_kind
    Same
    (λ a b c h z. absurd (omega arith))
    (λ a b c h z. let c0 : c ≡ 0 = z 2 refl in rw c0)
    (λ a b c h z. let b0 : b ≡ 0 = z 1 refl in let c0 : c ≡ 0 = z 2 refl in rw (b0, c0))
    (λ a b c h z. let b0 : b ≡ 0 = z 1 refl in let c0 : c ≡ 0 = z 2 refl in rw (b0, c0))
    (λ a b c h z. let b0 : b ≡ 0 = z 1 refl in let c0 : c ≡ 0 = z 2 refl in rw (b0, c0))
    (λ a b c h z. refl)
    (λ a b c h z. let b0 : b ≡ 0 = z 1 refl in let c0 : c ≡ 0 = z 2 refl in rw (b0, c0))
    (λ a b c h z. let b0 : b ≡ 0 = z 1 refl in let c0 : c ≡ 0 = z 2 refl in rw (b0, c0))
    (λ k l a b c h z. absurd (omega (arith, ap total (beyond k l))))

pub parts_are_the_call : PartsAreTheCall
parts_are_the_call p h z = same p.kind p.first p.second p.third h z

-- every kind has three widths
pub three : (k : ℕ) → length (widths_of k) ≡ 3
unfolding widths_of
three = each_kind (λ k. length (widths_of k) ≡ 3) refl refl refl refl refl refl refl refl (λ k h. ap length (beyond k h))
