-- The two ways a begin goes.
-- Assumes nothing.
use Prim.Native.Nat.{◌<◌, ◌≤◌}
use mathlib.Core.Path.{◌≡◌, refl}
use mathlib.Core.Bool.{or-true}
use mathlib.Core.Logic.{◌⊎◌, ⊎_elim}
use borrow.Author.Tests.{eq-eqb, ne_eqb, lt-ltb, le-ltb}
use lib.Dec.{eqb}
use lib.ListN.{length, replicate}
use Rattle.board_slots.specs.Slots.{fresh_slots}
use Rattle.board_rules.specs.declared.Answer.TheVariants.{Begun}
use Rattle.board_nodes.specs.Site.{Site, refused_at, fresh_nodes, no_fences, begun_at}

module _ (s : Site) where
  pub begun_refused : (length s.words ≡ 0) ⊎ ((length s.words ≡ 0 → ⊥) × (4096 < length s.words)) → begun_at s ≡ refused_at 9 s
  unfolding begun_at
  begun_refused e =
      ⊎_elim
      (λ z. rw (eq-eqb (length s.words) 0 z) refl)
      (λ h. rw (lt-ltb 4096 (length s.words) h.1, or-true (eqb (length s.words) 0)) refl)
      e

  pub begun_all :
      (length s.words ≡ 0 → ⊥) →
      length s.words ≤ 4096 →
      begun_at s ≡ record { slots = fresh_slots; nodes = fresh_nodes; fenced = no_fences; words = replicate (length s.words) 0; answer = Begun }
  unfolding begun_at
  begun_all n h = rw (ne_eqb (length s.words) 0 n, le-ltb 4096 (length s.words) h) refl
