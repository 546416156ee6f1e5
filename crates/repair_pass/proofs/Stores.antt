-- The bytes of a care, copied over a part of the log, are the care written where it fits; else nothing is.
-- Assumes nothing.
use Prim.Native.Nat.{ℕ, ◌+◌, ◌-◌, ◌<◌, ◌≤◌}
use mathlib.Core.Path.{◌≡◌, refl, sym, ◌∙◌, ap}
use mathlib.Core.List.{List, ◌++◌, append_assoc}
use native.Mathlib.Omega.{arith}
use borrow.Author.Tests.{le-leb, lt-leb}
use borrow.Rule.Slice.PartMut.{put_mid}
use lib.ListN.{length, take, drop}
use lib.Seq.{sets-eq, drop-drop}
use Rattle.repair_rules.specs.Repair.{Cared}
use Rattle.repair_rules.specs.Log.{care_bytes, care_logged, place_after}

module _ (log : List ℕ) (at : ℕ) where
  pub stays : length log < at + 3 → at ≡ place_after log at
  stays h = rw (lt-leb (at + 3) (length log) h) refl

  pub moves : at + 3 ≤ length log → at + 3 ≡ place_after log at
  moves h = rw (le-leb (at + 3) (length log) h) refl

  pub misses : (c : Cared) → length log < at + 3 → log ≡ care_logged log at c
  misses c h = rw (lt-leb (at + 3) (length log) h) refl

  pub stored : (c : Cared) (care : List ℕ) → at + 3 ≤ length log → care ≡ care_bytes c → put_mid at (at + 3 - at) log care ≡ care_logged log at c
  stored c care h e =
      let three : at + 3 - at ≡ 3 = omega arith in
      let v = care_bytes c in
      rw (le-leb (at + 3) (length log) h, three, e)
      (ap (λ (r : List ℕ). take at log ++ (v ++ r)) (drop-drop 3 at log) ∙ sym (append_assoc (take at log) v (drop (at + 3) log)) ∙
      sym (sets-eq v log at h))
