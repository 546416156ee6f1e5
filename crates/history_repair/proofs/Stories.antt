-- The repair that stops behind a reader: the site that the calls lead to is computed, and the care of slot 1 and of slot 2; the slots behind them
-- are free, which is an induction and not computed 253 times.
-- Assumes nothing.
use Prim.Native.Nat.{ℕ, zero, suc, ◌≤◌}
use mathlib.Core.Path.{◌≡◌, refl, ap, subst, sym, ◌∙◌}
use mathlib.Core.Bool.{true, false, ◌&&◌}
use mathlib.Core.List.{List, [], ◌∷◌, ◌++◌, map}
use native.Mathlib.Omega.{arith}
use lib.ListN.{get_or, replicate}
use Rattle.agent_ticket.specs.Turn.{turn_of}
use Rattle.agent_ceiling.specs.Ceiling.{clearing_word_of}
use Rattle.agent_request.specs.Request.{in_use, free_request}
use Rattle.agent_request.specs.declared.Request.{Request}
use Rattle.agent_rules.specs.Life.{step_sends, step_takes, asked}
use Rattle.agent_rules.specs.Care.{care_sends, care_takes}
use Rattle.board_slots.specs.Slots.{lowest_free}
use Rattle.board_call.specs.declared.AnyCall.TheVariants.{Care}
use Rattle.board_rules.specs.Records.{refusal_of}
use Rattle.board_rules.specs.Board.{opened, sent, stepped}
use Rattle.board_rules.specs.Care.{cared}
use Rattle.board_nodes.specs.Site.{Site, site_of, shut_at, played_at, opened_by, stepped_at, cared_at, fenced_by}
use Rattle.repair_rules.specs.Repair.{Cared, Tended, untended, and_then, is_lost, told_of, pass_from, pass_of, some_bring_on, passes_of, repair_of}
use Rattle.repair_rules.proofs.Cares.{pass_skips, pass_cares}
use Rattle.history_nodes.specs.History.{AnyMove, ledger_at, site_at, after_at, events_at, read_off_at}
use Rattle.history_nodes.specs.History.AnyMove.{Do}
use Rattle.history_repair.specs.Stories.{reader_lives, both_wait, RepairStopsBehindAReader, ReaderWaitsBehindALostWriter}

-- a pass over slots of which none is lost
pass_free : (k i : ℕ) (t : Site) → ((j : ℕ) → i ≤ j → is_lost t j ≡ false) → pass_from k i t ≡ untended t
unfolding pass_from
pass_free zero i t h = refl
pass_free (suc k) i t h =
    let here : is_lost t i ≡ false = h i (omega arith) in
    pass_skips k i t here ∙ pass_free k (suc i) t (λ j l. h j (omega (arith, l)))

-- a repair whose first pass brings nothing on
passes_one : (n : ℕ) (t : Site) → some_bring_on (pass_of t).cares ≡ false → passes_of (suc n) t ≡ pass_of t
unfolding passes_of
passes_one n t e = rw e refl

abbrev request : ℕ → ℕ → ℕ → ℕ → Request
request m p x s = record { «record» = 0; mode = m; phase = p; ticket = record { 0 = record { 0 = x }; 1 = record { 0 = s } }; clearing = 0 }

-- a reader with ticket (0, 0) that is Held, a writer with (0, 1) and a reader with (1, 1) that are Waiting; the word is {0, 0, 1, 2}
abbrev there : Site
there =
    record {
      slots = request 0 3 0 0 ∷ request 1 2 0 1 ∷ request 0 2 1 1 ∷ replicate 253 free_request;
      nodes = 2 ∷ 1 ∷ 1 ∷ replicate 253 0;
      fenced = false ∷ true ∷ replicate 254 false;
      words = 65538 ∷ [];
    }

reached : site_at 1 reader_lives ≡ there
unfolding after_at opened_by stepped_at fenced_by opened sent stepped refusal_of lowest_free step_sends step_takes turn_of clearing_word_of asked
reached = refl

-- the cares of slots 1 and 2 change nothing
stays_1 : site_of (played_at (Care 1) there) ≡ there
unfolding cared_at cared care_sends step_sends care_takes step_takes turn_of
stays_1 = refl

stays_2 : site_of (played_at (Care 2) there) ≡ there
unfolding cared_at cared care_sends step_sends care_takes step_takes turn_of
stays_2 = refl

both_told : told_of 1 there ∷ told_of 2 there ∷ [] ≡ both_wait
unfolding cared_at cared care_sends step_sends care_takes step_takes turn_of
both_told = refl

all_same : (n j : ℕ) → get_or (replicate n free_request) j free_request ≡ free_request
all_same zero j = refl
all_same (suc n) zero = refl
all_same (suc n) (suc j) = all_same n j

free_beyond : (j : ℕ) → 3 ≤ j → is_lost there j ≡ false
free_beyond zero h = absurd (omega arith)
free_beyond (suc zero) h = absurd (omega arith)
free_beyond (suc (suc zero)) h = absurd (omega arith)
free_beyond (suc (suc (suc j))) h = ap (λ (q : Request). in_use q && shut_at there (suc (suc (suc j)))) (all_same 253 j)

pass_told : pass_of there ≡ record { site = there; cares = told_of 1 there ∷ told_of 2 there ∷ [] }
pass_told =
    pass_skips 255 0 there refl ∙
    pass_cares 254 1 there refl ∙
    ap (λ (t : Site). and_then (told_of 1 there ∷ []) (pass_from 254 2 t)) stays_1 ∙
    ap (and_then (told_of 1 there ∷ []))
    (pass_cares 253 2 there refl ∙
    ap (λ (t : Site). and_then (told_of 2 there ∷ []) (pass_from 253 3 t)) stays_2 ∙
    ap (and_then (told_of 2 there ∷ [])) (pass_free 253 3 there free_beyond))

pass_is : pass_of there ≡ record { site = there; cares = both_wait }
pass_is = pass_told ∙ ap (λ (cs : List Cared). record { site = there; cares = cs }) both_told

repair_is : repair_of there ≡ record { site = there; cares = both_wait }
repair_is = passes_one 768 there (ap (λ (p : Tended). some_bring_on p.cares) pass_is) ∙ pass_is

pub repair_stops_behind_a_reader : RepairStopsBehindAReader
repair_stops_behind_a_reader = subst (λ (t : Site). repair_of t ≡ record { site = t; cares = both_wait }) (sym reached) repair_is

-- the ledger with the two cares noted
abbrev with_cares : List Cared → List AnyMove
with_cares cs = reader_lives ++ map (λ (c : Cared). Do (Care c.slot)) cs

pub reader_waits_behind_a_lost_writer : ReaderWaitsBehindALostWriter
unfolding events_at read_off_at opened_by stepped_at cared_at fenced_by opened sent stepped cared refusal_of lowest_free
    step_sends care_sends step_takes care_takes turn_of clearing_word_of asked
reader_waits_behind_a_lost_writer =
    let cares : (repair_of (site_at 1 reader_lives)).cares ≡ both_wait = ap (λ (p : Tended). p.cares) repair_stops_behind_a_reader in
    let site : (repair_of (site_at 1 reader_lives)).site ≡ there = ap (λ (p : Tended). p.site) repair_stops_behind_a_reader ∙ reached in (
      ap (λ (t : Site). map (is_lost t) (0 ∷ 1 ∷ 2 ∷ [])) site,
      ap (λ (cs : List Cared). (ledger_at 1 (with_cares cs)).tickets 0) cares,
      ap (λ (cs : List Cared). (ledger_at 1 (with_cares cs)).seats 2) cares,
    )
