-- Why a run can be taken up again where it stopped: what it had played is in front of either, and from its place on the long run does what the
-- second one does. By induction along the first run.
-- Assumes nothing.
use Prim.Native.Nat.{ℕ, zero, suc, ◌+◌, ◌-◌, ◌*◌}
use mathlib.Core.Path.{◌≡◌, refl, ap, sym, ◌∙◌}
use mathlib.Core.Bool.{Bool, true, false}
use mathlib.Core.List.{List, append_assoc}
use native.Mathlib.Omega.{arith}
use native.Mathlib.Nat.{zero-add, suc-add}
use borrow.Author.Tests.{le-ltb}
use lib.Dec.{ltb}
use Rattle.board_call.specs.declared.AnyCall.{AnyCall}
use Rattle.board_nodes.specs.Answers.{said_of_any}
use Rattle.board_rules.specs.declared.Answer.{Answer}
use Rattle.board_nodes.specs.Site.{Site, site_of, played_at}
use Rattle.run_entry.specs.Entry.{ENTRY, entry_of}
use Rattle.schedule_bytes.specs.Schedule.{next_of}
use Rattle.schedule_bytes.specs.declared.Next.{Next}
use Rattle.schedule_bytes.specs.declared.Next.TheVariants.{Record, End, Unknown, Cut}
use Rattle.run_rules.specs.Run.{Whole, state_after, ended, followed, spent, goes_on, run_of, joined}
use Rattle.run_rules.specs.Promises.{TakenUpAgain}
use Rattle.run_rules.proofs.Wholes.{same_whole, nothing_yet}

module _ (b room' : ℕ) (bytes : List ℕ) where
  -- the claim for a first run v that began at a place in a state
  abbrev Claim : ℕ → Site → Whole → Type 0
  Claim at s v = run_of (v.records + b) (ENTRY * v.records + room') bytes at s ≡ joined v (run_of b room' bytes v.place (state_after v))

  at_once : (at h : ℕ) (s : Site) → Claim at s (ended h at s)
  at_once at h s = rw (zero-add b, zero-add room') (nothing_yet (run_of b room' bytes at s))

  -- a record put in front of both
  in_front : (c : AnyCall) (a : Answer) (v w : Whole) → followed c a (joined v w) ≡ joined (followed c a v) w
  in_front c a v w = same_whole (sym (suc-add v.records w.records)) (omega arith) (sym (append_assoc (entry_of (said_of_any c a)) v.entries w.entries))

  one_further :
      (at : ℕ) (s : Site) (c : AnyCall) (next : ℕ) (v : Whole) →
      next_of bytes at ≡ Record c next →
      Claim next (site_of (played_at c s)) v →
      Claim at s (followed c (played_at c s).answer v)
  unfolding run_of
  one_further at s c next v e i =
      let more : suc v.records + b ≡ suc (v.records + b) = suc-add v.records b in
      let room : ltb (ENTRY * suc v.records + room') ENTRY ≡ false = le-ltb (ENTRY * suc v.records + room') ENTRY (omega arith) in
      let less : ENTRY * suc v.records + room' - ENTRY ≡ ENTRY * v.records + room' = omega arith in
      rw (more, e, room, less) (ap (followed c (played_at c s).answer) i ∙ in_front c (played_at c s).answer v (run_of b room' bytes v.place (state_after v)))

  by_next :
      (at : ℕ) (s : Site) (short : Bool) (n : Next) (rest : ℕ → Site → Whole) →
      next_of bytes at ≡ n →
      ((next : ℕ) (t : Site) → Claim next t (rest next t)) →
      Claim at s (goes_on n short at s rest)
  by_next at s short End rest e i = at_once at 0 s
  by_next at s true Unknown rest e i = at_once at 12 s
  by_next at s false Unknown rest e i = at_once at 8 s
  by_next at s true Cut rest e i = at_once at 12 s
  by_next at s false Cut rest e i = at_once at 7 s
  by_next at s true (Record c next) rest e i = at_once at 12 s
  by_next at s false (Record c next) rest e i = one_further at s c next (rest next (site_of (played_at c s))) e (i next (site_of (played_at c s)))

  by_spent : (at : ℕ) (s : Site) (n : Next) → Claim at s (spent n at s)
  by_spent at s End = at_once at 0 s
  by_spent at s (Record c next) = at_once at 11 s
  by_spent at s Unknown = at_once at 11 s
  by_spent at s Cut = at_once at 11 s

  along : (a room at : ℕ) (s : Site) → Claim at s (run_of a room bytes at s)
  unfolding run_of
  along zero room at s = by_spent at s (next_of bytes at)
  along (suc a) room at s = by_next at s (ltb room ENTRY) (next_of bytes at) _ refl (λ next t. along a (room - ENTRY) next t)

pub taken_up_again : TakenUpAgain
taken_up_again a room b room' bytes at s = along b room' bytes a room at s
