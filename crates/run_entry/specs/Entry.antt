-- A report entry, 12 bytes.
use Rattle.std.specs.Prelude.{ℕ, ◌+◌, ◌*◌, ◌/◌, ◌%◌, ◌^◌, List, [], ◌∷◌, leb, length}
use Rattle.std.proofs.lemmas.List.Edits.{sets}
use Rattle.common.specs.Choice.{when◌then◌else◌}
use Rattle.board_rules.specs.declared.Said.{Said}

-- Rule 7.5: How long an entry is.
abbrev pub ENTRY : ℕ
ENTRY = 12

-- Rule 7.5: The byte k of a number, low first.
abbrev pub byte_of : ℕ → ℕ → ℕ
byte_of k v = v / 2 ^ (8 * k) % 256

-- Rule 7.5: The call's number; outcome; slot; 0; then 8 bytes low first.
unfoldable pub entry_of : Said → List ℕ
entry_of d =
    d.number ∷ d.outcome ∷ d.slot ∷ 0 ∷
    byte_of 0 d.value ∷ byte_of 1 d.value ∷ byte_of 2 d.value ∷ byte_of 3 d.value ∷
    byte_of 4 d.value ∷ byte_of 5 d.value ∷ byte_of 6 d.value ∷ byte_of 7 d.value ∷ []

-- Rule 7.5: A report with an entry at a place, where it fits; else the report as it is.
unfoldable pub put_of : List ℕ → ℕ → Said → List ℕ
put_of report at d = when leb (at + ENTRY) (length report) then sets report at (entry_of d) else report
