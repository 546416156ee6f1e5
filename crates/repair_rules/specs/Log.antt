-- A repair in a lent log, so many passes at a time: the bytes of each care, and whether the repair is done.
use Rattle.std.specs.Prelude.{ℕ, zero, suc, ◌+◌, ◌*◌, Bool, true, false, List, [], ◌∷◌, ◌++◌, leb, length, drop}
use Rattle.std.proofs.lemmas.List.Edits.{sets}
use Rattle.common.specs.Choice.{when◌then◌else◌}
use Rattle.board_nodes.specs.Site.{Site}
use Rattle.repair_rules.specs.Repair.{Cared, pass_of, some_bring_on}

-- Rule 8.5: A repair is done where one among so many passes brings nothing on.
unfoldable pub done_in : ℕ → Site → Bool
done_in zero t = false
done_in (suc n) t = when some_bring_on (pass_of t).cares then done_in n (pass_of t).site else true

-- Rule 8.6: A care in a log has 3 bytes, its slot, the old phase and the outcome; so a pass has at most 768.
abbrev pub CARE : ℕ
CARE = 3

abbrev pub PASS : ℕ
PASS = 768

abbrev pub care_bytes : Cared → List ℕ
care_bytes c = c.slot ∷ c.phase ∷ c.outcome ∷ []

abbrev pub log_bytes : List Cared → List ℕ
log_bytes [] = []
log_bytes (c ∷ cs) = care_bytes c ++ log_bytes cs

-- Cares written one behind the other from a place on, as far as they fit: where one does not fit nothing is written, and the place stays.
abbrev pub fits_at : List ℕ → ℕ → Bool
fits_at log at = leb (at + CARE) (length log)

abbrev pub care_logged : List ℕ → ℕ → Cared → List ℕ
care_logged log at c = when fits_at log at then sets log at (care_bytes c) else log

abbrev pub place_after : List ℕ → ℕ → ℕ
place_after log at = when fits_at log at then at + CARE else at

unfoldable pub logged_at : List ℕ → ℕ → List Cared → List ℕ
logged_at log at [] = log
logged_at log at (c ∷ cs) = logged_at (care_logged log at c) (place_after log at) cs

-- The whole log: the cares in front, and every byte behind them as it was lent.
abbrev pub log_of : List ℕ → List Cared → List ℕ
log_of log cs = log_bytes cs ++ drop (CARE * length cs) log
