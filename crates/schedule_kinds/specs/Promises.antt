-- What is promised of the kinds. Statements only: proofs/ has why each holds.
use Rattle.std.specs.Prelude.{ℕ, ◌<◌, ◌≤◌, ◌≡◌, ◌↔◌, [], ◌∷◌, map, get_or}
use Rattle.board_call.specs.declared.AnyCall.{AnyCall}
use Rattle.schedule_kinds.specs.Kinds.{widths_of, body_of, numbers_of, parts_of, call_of}
use Rattle.schedule_kinds.specs.declared.Parts.{Parts}

-- Rule 6.1: How long the bodies of 0, the kinds 1 to 7, 8 and 255 are.
abbrev pub BodiesAre : Type 0
BodiesAre = map body_of (0 ∷ 1 ∷ 2 ∷ 3 ∷ 4 ∷ 5 ∷ 6 ∷ 7 ∷ 8 ∷ 255 ∷ []) ≡ 0 ∷ 3 ∷ 1 ∷ 1 ∷ 2 ∷ 4 ∷ 1 ∷ 1 ∷ 0 ∷ 0 ∷ []

-- The kinds that have a body are 1 to 7.
abbrev pub KnownExactly : Type 0
KnownExactly = (k : ℕ) → (0 < body_of k) ↔ ((0 < k) × (k ≤ 7))

-- A call taken apart and put together is the same call, so two calls of other kinds or numbers differ in their parts;
abbrev pub CallIsItsParts : Type 0
CallIsItsParts = (c : AnyCall) → call_of (parts_of c) ≡ c

-- its kind is known;
abbrev pub CallIsKnown : Type 0
CallIsKnown = (c : AnyCall) → 0 < body_of (parts_of c).kind

-- and a known kind with numbers, 0 where it has no field, put together and taken apart is the same kind with the same numbers.
abbrev pub PartsAreTheCall : Type 0
PartsAreTheCall =
    (p : Parts) →
    0 < body_of p.kind →
    ((i : ℕ) → get_or (widths_of p.kind) i 0 ≡ 0 → get_or (numbers_of p) i 0 ≡ 0) →
    parts_of (call_of p) ≡ p
