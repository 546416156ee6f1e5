-- A record that is lent, or small; and a sent verb that is accepted.
-- Assumes nothing.
use Prim.Native.Nat.{ℕ, ◌<◌}
use mathlib.Core.Path.{◌≡◌, refl, ap, sym, ◌∙◌}
use mathlib.Core.Bool.{Bool, true, false, not, ◌&&◌}
use mathlib.Core.List.{List}
use native.Mathlib.Omega.{arith}
use borrow.Author.Tests.{ltb-true}
use lib.Dec.{ltb}
use lib.ListN.{length, get_or, set}
use Rattle.common.specs.Choice.{when◌then◌else◌}
use Rattle.agent_request.specs.declared.Request.{Request}
use Rattle.agent_rules.specs.Life.{left_by}
use Rattle.agent_rules.specs.declared.Verb.{Verb}
use Rattle.agent_rules.specs.declared.Taken.{Taken}
use Rattle.agent_request.specs.Request.{in_use}
use Rattle.board_rules.specs.Records.{RECORDS, is_record, is_record_of, is_nothing, refusal_of}
use Rattle.board_rules.specs.Sent.{visited, sent_visit}
use Rattle.board_rules.specs.declared.Answer.TheVariants.{Told}

both_left : (a b : Bool) → (a && b) ≡ true → a ≡ true
both_left true b e = refl
both_left false b e = e

pub record_lent : (r : ℕ) (ws : List ℕ) → is_record r ws ≡ true → r < length ws
record_lent r ws e = ltb-true r (length ws) (both_left _ _ e)

none_refused : (a b c : Bool) → ◌≡◌ {A = ℕ} (when not a then 4 else when b then 5 else when not c then 2 else 0) 0 → c ≡ true
none_refused false b c e = absurd (omega arith)
none_refused true true c e = absurd (omega arith)
none_refused true false false e = absurd (omega arith)
none_refused true false true e = refl

pub may_go : (q : Request) (verb : Verb) (ws : List ℕ) → refusal_of q verb ws ≡ 0 → is_record q.«record» ws ≡ true
unfolding refusal_of
may_go q verb ws e = none_refused (in_use q) (is_nothing verb) (is_record q.«record» ws) e

pub inside : (q : Request) (verb : Verb) (ws : List ℕ) → 0 ≡ refusal_of q verb ws → q.«record» < length ws
inside q verb ws e = record_lent q.«record» ws (may_go q verb ws (sym e))

-- a verb that is the one to send, and the number that was found for it
module _ (q : Request) (sends : Verb) (takes : ℕ → Taken) (ws : List ℕ) (verb : Verb) (n : ℕ) (same : verb ≡ sends) (why : n ≡ refusal_of q verb ws) where
  found : refusal_of q sends ws ≡ n
  found = ap (λ (v : Verb). refusal_of q v ws) (sym same) ∙ sym why

  pub accepted_visit :
      n ≡ 0 →
      (v : ℕ) →
      v ≡ get_or ws q.«record» 0 →
      sent_visit q sends takes ws ≡ visited (takes v).request (set ws q.«record» (left_by verb v)) (Told (takes v).answer)
  unfolding sent_visit
  accepted_visit e v w = rw (found, e, w, same)

both_right : (a b : Bool) → (a && b) ≡ true → b ≡ true
both_right true b e = e
both_right false true e = refl
both_right false false e = e

pub record_small : (r n : ℕ) → is_record_of r n ≡ true → r < RECORDS
record_small r n e = ltb-true r RECORDS (both_right (ltb r n) (ltb r RECORDS) e)
