-- Why a visit of the aimed slot is the call: a refused call writes back what stood in the slot, an open aims at the lowest free slot, and where
-- none is free it aims at one in use.
-- Assumes nothing.
use Prim.Native.Nat.{ℕ, ◌<◌, ◌%◌}
use mathlib.Core.Path.{◌≡◌, refl, ap, sym}
use mathlib.Core.Bool.{Bool, true, false}
use mathlib.Core.List.{List}
use native.Mathlib.Omega.{arith}
use borrow.Author.Tests.{leb-true, leb-false}
use lib.Dec.{eqb, ltb, leb}
use lib.ListN.{length, get_or}
use lib.Seq.{set-get_or}
use Rattle.common.specs.Choice.{when◌then◌else◌}
use Rattle.agent_request.specs.Request.{in_use, free_request}
use Rattle.agent_request.specs.declared.Request.{Request}
use Rattle.agent_rules.specs.Life.{step_sends, release_sends, step_takes, release_takes}
use Rattle.agent_rules.specs.declared.Verb.{Verb}
use Rattle.agent_rules.specs.declared.Taken.{Taken}
use Rattle.board_slots.specs.Slots.{SLOTS, lowest_free}
use Rattle.board_slots.specs.Map.{lowest_zero}
use Rattle.board_slots.proofs.Promises.{lowest_is_free, lower_are_used, map_finds_lowest}
use Rattle.board_call.specs.declared.Call.{Call}
use Rattle.board_call.specs.declared.Call.TheVariants.{Open, Step, Release, Show}
use Rattle.board_rules.specs.Records.{is_record, refusal_of}
use Rattle.board_rules.specs.Sent.{visited, sent_visit}
use Rattle.board_rules.specs.Visit.{aim_of, within_board, open_visit, show_visit, named_visit}
use Rattle.board_rules.specs.declared.Answer.{Answer}
use Rattle.board_rules.specs.declared.Answer.TheVariants.{Refused}
use Rattle.board_rules.specs.Visit.{stored}
use Rattle.board_rules.specs.Promises.{VisitIsPlayed}
use Rattle.board_rules.specs.Board.{State, refused, sent, opened, stepped, released, shown, slot_at}

-- a refused visit writes back what stood there
back : (s : State) (i : ℕ) (a : Answer) → record { slots = s.slots; words = s.words; answer = a } ≡ stored s i (visited (slot_at s i) s.words a)
back s i a = ap (λ (l : List Request). record { slots = l; words = s.words; answer = a }) (sym (set-get_or s.slots i free_request))

sent_stored : (s : State) (i : ℕ) (verb : Verb) (takes : ℕ → Taken) → sent i (slot_at s i) verb takes s ≡ stored s i (sent_visit (slot_at s i) verb takes s.words)
unfolding sent sent_visit
sent_stored s i verb takes = by (eqb (refusal_of (slot_at s i) verb s.words) 0) refl
  where
    by : (x : Bool) → eqb (refusal_of (slot_at s i) verb s.words) 0 ≡ x → sent i (slot_at s i) verb takes s ≡ stored s i (sent_visit (slot_at s i) verb takes s.words)
    by true e = rw e refl
    by false e = rw e (back s i (Refused (refusal_of (slot_at s i) verb s.words)))

open_stored :
    (s : State) (r m i : ℕ) (x y f : Bool) →
    is_record r s.words ≡ x →
    ltb 1 m ≡ y →
    leb SLOTS (lowest_free s.slots) ≡ f →
    in_use (slot_at s i) ≡ f →
    (f ≡ false → i ≡ lowest_free s.slots) →
    opened r m s ≡ stored s i (open_visit r m i (slot_at s i) s.words)
unfolding opened open_visit
open_stored s r m i false y f a b c d e = rw a (back s i (Refused 2))
open_stored s r m i true true f a b c d e = rw (a, b) (back s i (Refused 3))
open_stored s r m i true false true a b c d e = rw (a, b, c, d) (back s i (Refused 6))
open_stored s r m i true false false a b c d e =
    let at = e refl in
    let low : i % 256 ≡ i = let small = leb-false SLOTS (lowest_free s.slots) c in omega arith in
    rw (a, b, c, d, low, at) refl

-- where an open aims, by whether a slot is free
pub aimed_use : (l : List Request) → length l ≡ SLOTS → (f : Bool) → leb SLOTS (lowest_free l) ≡ f → in_use (get_or l (within_board (lowest_free l)) free_request) ≡ f
aimed_use l long true e = rw e (lower_are_used l 0 (let h = leb-true SLOTS (lowest_free l) e in omega arith))
aimed_use l long false e = rw e (lowest_is_free l (let h = leb-false SLOTS (lowest_free l) e in omega arith))

aimed_at : (k : ℕ) (f : Bool) → leb SLOTS k ≡ f → f ≡ false → within_board k ≡ k
aimed_at k true e z = absurd (omega (arith, ap one (z)))
  where
    one : Bool → ℕ
    one true = 1
    one false = 0
aimed_at k false e z = rw e refl

named_stored :
    (s : State) (n : ℕ) (verb : Request → Verb) (takes : Request → ℕ → Taken) (x : Bool) →
    leb SLOTS n ≡ x →
    (when leb SLOTS n then refused 1 s else sent n (slot_at s n) (verb (slot_at s n)) (takes (slot_at s n)) s) ≡
    stored s (within_board n)
    (named_visit n (slot_at s (within_board n)) s.words (sent_visit (slot_at s (within_board n)) (verb (slot_at s (within_board n))) (takes (slot_at s (within_board n))) s.words))
unfolding named_visit
named_stored s n verb takes true e = rw e (back s 0 (Refused 1))
named_stored s n verb takes false e = rw e (sent_stored s n (verb (slot_at s n)) (takes (slot_at s n)))

show_stored : (s : State) (r : ℕ) → shown r s ≡ stored s 0 (show_visit r (slot_at s 0) s.words)
unfolding shown show_visit
show_stored s r = back s 0 _

pub visit_is_played : VisitIsPlayed
unfolding aim_of stepped released
visit_is_played (Open r m) s long =
    let k = lowest_free s.slots in
    rw (map_finds_lowest s.slots long)
    (open_stored s r m (within_board k) (is_record r s.words) (ltb 1 m) (leb SLOTS k) refl refl refl (aimed_use s.slots long (leb SLOTS k) refl) (aimed_at k (leb SLOTS k) refl))
visit_is_played (Step n) s long = named_stored s n step_sends step_takes (leb SLOTS n) refl
visit_is_played (Release n) s long = named_stored s n release_sends release_takes (leb SLOTS n) refl
visit_is_played (Show r) s long = show_stored s r

-- a call visits a slot of the board
within_small : (i : ℕ) (x : Bool) → leb SLOTS i ≡ x → within_board i < SLOTS
within_small i true e = rw e (omega arith)
within_small i false e = rw e (leb-false SLOTS i e)

pub aim_small : (c : Call) (m : List ℕ) → aim_of c m < SLOTS
unfolding aim_of
aim_small (Open r n) m = within_small (lowest_zero m) (leb SLOTS (lowest_zero m)) refl
aim_small (Step i) m = within_small i (leb SLOTS i) refl
aim_small (Release i) m = within_small i (leb SLOTS i) refl
aim_small (Show r) m = omega arith
