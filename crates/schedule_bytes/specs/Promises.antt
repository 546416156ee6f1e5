-- What is promised of schedules. Statements only: proofs/ has why each holds.
use Rattle.std.specs.Prelude.{ℕ, ◌+◌, ◌<◌, ◌≤◌, ◌≡◌, ◌↔◌, ◌⊎◌, List, length}
use Rattle.board_call.specs.declared.AnyCall.{AnyCall}
use Rattle.schedule_kinds.specs.Kinds.{body_of}
use Rattle.schedule_bytes.specs.Schedule.{byte_at, next_of}
use Rattle.schedule_bytes.specs.declared.Next.TheVariants.{Record, End, Unknown, Cut}

-- Records of one kind have one length: the kind byte and the body that the kind fixes.
abbrev pub KindFixesLength : Type 0
KindFixesLength = (s : List ℕ) (at : ℕ) (c : AnyCall) (next : ℕ) → next_of s at ≡ Record c next → next ≡ at + 1 + body_of (byte_at s at)

-- Rule 6.2: at a place stands the end exactly where no byte is left;
abbrev pub EndStandsExactly : Type 0
EndStandsExactly = (s : List ℕ) (at : ℕ) → (next_of s at ≡ End) ↔ (length s ≤ at)

-- an unknown kind exactly where the byte there is none of 1 to 7;
abbrev pub UnknownStandsExactly : Type 0
UnknownStandsExactly = (s : List ℕ) (at : ℕ) → (next_of s at ≡ Unknown) ↔ ((at < length s) × ((byte_at s at ≡ 0) ⊎ (7 < byte_at s at)))

-- and a cut record exactly where it is one of them, and the body that it fixes runs past the end.
abbrev pub CutStandsExactly : Type 0
CutStandsExactly =
    (s : List ℕ) (at : ℕ) →
    (next_of s at ≡ Cut) ↔ ((at < length s) × (0 < byte_at s at) × (byte_at s at ≤ 7) × (length s < at + 1 + body_of (byte_at s at)))
