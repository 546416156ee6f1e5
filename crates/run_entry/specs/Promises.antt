-- What is promised of report entries. A statement only: proofs/ has why it holds.
use Rattle.std.specs.Prelude.{ℕ, ◌+◌, ◌*◌, ◌<◌, ◌^◌, ◌≡◌, List, length, get_or}
use Rattle.board_rules.specs.declared.Said.{Said}
use Rattle.run_entry.specs.Entry.{ENTRY, entry_of}

-- The outcome in an entry's bytes,
abbrev pub outcome_in : List ℕ → ℕ
outcome_in e = get_or e 1 0

-- and the value, its last 8 bytes, low first.
abbrev pub value_in : List ℕ → ℕ
value_in e =
    get_or e 4 0 + get_or e 5 0 * 2 ^ 8 + get_or e 6 0 * 2 ^ 16 + get_or e 7 0 * 2 ^ 24 +
    get_or e 8 0 * 2 ^ 32 + get_or e 9 0 * 2 ^ 40 + get_or e 10 0 * 2 ^ 48 + get_or e 11 0 * 2 ^ 56

-- A byte of an entry.
abbrev pub byte_in : Said → ℕ → ℕ
byte_in d i = get_or (entry_of d) i 0

-- Reading an entry's bytes back gives its four parts, the value low byte first; it is 12 bytes long, and its fourth byte is 0.
pub record ReadsBack (d : Said) : Type 0 where
  pub long : length (entry_of d) ≡ ENTRY
  pub number : byte_in d 0 ≡ d.number
  pub outcome : outcome_in (entry_of d) ≡ d.outcome
  pub slot : byte_in d 2 ≡ d.slot
  pub none : byte_in d 3 ≡ 0
  pub value : value_in (entry_of d) ≡ d.value

abbrev pub EntryReadsBack : Type 0
EntryReadsBack = (d : Said) → d.value < 2 ^ 64 → ReadsBack d
