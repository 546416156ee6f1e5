-- What a caller in C sees, row by row in plain numbers, and one claim over each table.
use Rattle.std.specs.Prelude.{ℕ, ◌-◌, ◌^◌, ◌≡◌, List, [], ◌∷◌, map}
use Rattle.agent_request.specs.declared.Request.{Request}
use Rattle.agent_rules.specs.Life.{step_sends, release_sends, step_takes, release_takes}
use Rattle.agent_rules.specs.Care.{care_sends, care_takes}
use Rattle.agent_rules.specs.declared.Taken.{Taken}
use Rattle.agent_c_rules.specs.Boundary.{verb_of, told_of, Asked, asked_of}
use Rattle.agent_c_rules.specs.declared.CVerb.{CVerb}
use Rattle.agent_c_rules.specs.declared.CTold.{CTold}

-- {record, mode, phase, x, s, clearing}
abbrev kept : ℕ → ℕ → ℕ → ℕ → ℕ → ℕ → Request
kept r m p x s c = record { «record» = r; mode = m; phase = p; ticket = record { 0 = record { 0 = x }; 1 = record { 0 = s } }; clearing = c }

-- {kind, first, second}
abbrev verb : ℕ → ℕ → ℕ → CVerb
verb k f s = record { kind = k; first = f; second = s }

-- {number, outcome, ahead}
abbrev told : ℕ → ℕ → ℕ → CTold
told n o a = record { number = n; outcome = o; ahead = a }

-- A step, a release or a care: the request, what is sent, the result, what is told, and the request afterwards.
pub record Row : Type 0 where
  pub before : Request
  pub sent : CVerb
  pub result : ℕ
  pub told : CTold
  pub after : Request

abbrev row : Request → CVerb → ℕ → CTold → Request → Row
row b v n t a = record { before = b; sent = v; result = n; told = t; after = a }

-- The free record.
abbrev free : Request
free = kept 0 0 0 0 0 0

abbrev pub steps : List Row
steps =
    -- a writer asks and is granted; a reader asks behind it, waits, and is granted once the writer let go
    row (kept 7 1 1 0 0 0) (verb 1 65536 0) 0 (told 0 2 0) (kept 7 1 3 0 0 0) ∷
    row (kept 7 0 1 0 0 0) (verb 1 1 0) 65536 (told 0 3 1) (kept 7 0 2 1 0 0) ∷
    row (kept 7 0 2 1 0 0) (verb 2 0 0) 65537 (told 0 3 1) (kept 7 0 2 1 0 0) ∷
    row (kept 7 0 2 1 0 0) (verb 2 0 0) 281474976776193 (told 0 2 0) (kept 7 0 3 1 0 0) ∷
    -- behind a writer and two readers a reader waits for one, a writer for three
    row (kept 7 0 1 0 0 0) (verb 1 1 0) 65538 (told 0 3 1) (kept 7 0 2 1 2 0) ∷
    row (kept 7 1 1 0 0 0) (verb 1 65536 0) 65538 (told 0 3 3) (kept 7 1 2 1 2 0) ∷
    -- at the ceiling it is turned away, and takes its 1 back
    row (kept 7 0 1 0 0 0) (verb 1 1 0) 32768 (told 0 4 0) (kept 7 0 4 0 0 0) ∷
    row (kept 7 0 4 0 0 0) (verb 1 (2 ^ 64 - 1) 0) 32769 (told 0 5 0) free ∷
    -- clearing: the word is there, and is not
    row (kept 7 1 5 3 4 9) (verb 3 9 0) 9 (told 0 8 0) free ∷
    row (kept 7 1 5 3 4 9) (verb 3 9 0) 8 (told 0 9 0) (kept 7 1 5 3 4 9) ∷
    -- a ticket that has passed
    row (kept 7 1 2 0 0 0) (verb 2 0 0) 281474976776192 (told 0 11 0) free ∷
    -- refused: a free record, a held one, and a phase that is none
    row free (verb 0 0 0) 5 (told 5 0 0) free ∷
    row (kept 7 0 3 1 0 0) (verb 0 0 0) 5 (told 5 0 0) (kept 7 0 3 1 0 0) ∷
    row (kept 9 8 77 6 5 4) (verb 0 0 0) 5 (told 5 0 0) (kept 9 8 77 6 5 4) ∷
    []

abbrev pub releases : List Row
releases =
    -- a writer and a reader let go; with a clearing word the record is kept
    row (kept 7 1 3 0 0 0) (verb 1 281474976710656 0) 65536 (told 0 6 0) free ∷
    row (kept 7 0 3 1 0 0) (verb 1 4294967296 0) 5 (told 0 6 0) free ∷
    row (kept 7 1 3 3 4 9) (verb 1 281474976710656 0) 5 (told 0 7 0) (kept 7 1 5 3 4 9) ∷
    -- refused: any phase but Held
    row (kept 7 0 2 1 0 0) (verb 0 0 0) 5 (told 5 0 0) (kept 7 0 2 1 0 0) ∷
    row (kept 9 8 77 6 5 4) (verb 0 0 0) 5 (told 5 0 0) (kept 9 8 77 6 5 4) ∷
    []

abbrev pub cares : List Row
cares =
    -- one that never asked sends nothing and is free, whatever is handed over
    row (kept 8 1 1 0 0 0) (verb 0 0 0) 0 (told 0 12 0) free ∷
    row (kept 8 0 1 0 0 0) (verb 0 0 0) 281474976776193 (told 0 12 0) free ∷
    -- one that waits reads: it waits on, it is granted, it has passed
    row (kept 8 0 2 1 0 0) (verb 2 0 0) 65537 (told 0 3 1) (kept 8 0 2 1 0 0) ∷
    row (kept 8 0 2 1 0 0) (verb 2 0 0) 281474976776193 (told 0 2 0) (kept 8 0 3 1 0 0) ∷
    row (kept 8 1 2 0 0 0) (verb 2 0 0) 281474976776192 (told 0 11 0) free ∷
    -- one that holds lets go; with a clearing word the record is kept
    row (kept 8 1 3 0 0 0) (verb 1 281474976710656 0) 65536 (told 0 6 0) free ∷
    row (kept 8 0 3 1 0 0) (verb 1 4294967296 0) 5 (told 0 6 0) free ∷
    row (kept 8 1 3 3 4 9) (verb 1 281474976710656 0) 5 (told 0 7 0) (kept 8 1 5 3 4 9) ∷
    -- one that owes takes its 1 back; one that clears swaps
    row (kept 8 0 4 0 0 0) (verb 1 (2 ^ 64 - 1) 0) 32769 (told 0 5 0) free ∷
    row (kept 8 1 5 3 4 9) (verb 3 9 0) 9 (told 0 8 0) free ∷
    row (kept 8 1 5 3 4 9) (verb 3 9 0) 8 (told 0 9 0) (kept 8 1 5 3 4 9) ∷
    -- refused: a free record, and a phase that is none
    row free (verb 0 0 0) 5 (told 5 0 0) free ∷
    row (kept 9 8 77 6 5 4) (verb 0 0 0) 5 (told 5 0 0) (kept 9 8 77 6 5 4) ∷
    []

abbrev seen : (Request → CVerb) → (Request → ℕ → Taken) → Row → Row
seen sends takes r = row r.before (sends r.before) r.result (told_of (takes r.before r.result).answer) (takes r.before r.result).request

-- An ask: the request, the record, the mode, and what comes of it.
pub record Ask : Type 0 where
  pub before : Request
  pub wanted : ℕ
  pub mode : ℕ
  pub comes : Asked

abbrev ask : Request → ℕ → ℕ → ℕ → Request → Ask
ask b r m n a = record { before = b; wanted = r; mode = m; comes = record { request = a; number = n } }

abbrev pub asks : List Ask
asks =
    ask free 7 0 0 (kept 7 0 1 0 0 0) ∷
    ask free 65535 1 0 (kept 65535 1 1 0 0 0) ∷
    -- a phase that is none counts as free, whatever else the record holds
    ask (kept 9 8 77 6 5 4) 7 1 0 (kept 7 1 1 0 0 0) ∷
    ask (kept 9 8 6 6 5 4) 7 1 0 (kept 7 1 1 0 0 0) ∷
    -- refused: the mode before the phase; the record stays
    ask free 7 2 3 free ∷
    ask (kept 7 0 3 1 0 0) 7 2 3 (kept 7 0 3 1 0 0) ∷
    ask (kept 7 0 1 0 0 0) 8 1 5 (kept 7 0 1 0 0 0) ∷
    ask (kept 7 0 5 3 4 9) 8 1 5 (kept 7 0 5 3 4 9) ∷
    []

abbrev pub StepsHold : Type 0
StepsHold = map (seen (λ q. verb_of (step_sends q)) step_takes) steps ≡ steps

abbrev pub ReleasesHold : Type 0
ReleasesHold = map (seen (λ q. verb_of (release_sends q)) release_takes) releases ≡ releases

abbrev pub CaresHold : Type 0
CaresHold = map (seen (λ q. verb_of (care_sends q)) care_takes) cares ≡ cares

abbrev pub AsksHold : Type 0
AsksHold = map (λ (a : Ask). record { before = a.before; wanted = a.wanted; mode = a.mode; comes = asked_of a.before a.wanted a.mode }) asks ≡ asks
