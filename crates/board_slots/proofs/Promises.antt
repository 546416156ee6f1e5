-- The promises of the slots: the first two by going along the list, the others from the laws of the map.
-- Assumes nothing.
use Prim.Native.Nat.{zero, suc, ◌<◌}
use mathlib.Core.Path.{◌≡◌}
use mathlib.Core.Bool.{true, false}
use mathlib.Core.Logic.{⊎_elim}
use mathlib.Core.List.{[], ◌∷◌}
use native.Mathlib.Omega.{arith}
use lib.ListN.{length}
use Rattle.agent_request.specs.Request.{in_use}
use Rattle.board_slots.specs.Slots.{lowest_free}
use Rattle.board_slots.specs.Promises.{LowestIsFree, LowerAreUsed, MapFindsLowest, MapCountsUsed, MarkFollowsStore}
use Rattle.board_slots.proofs.Bits.{used_or_free}
use Rattle.board_slots.proofs.Maps.{lowest_of_map, ones_of_map, marked_is}

pub lowest_is_free : LowestIsFree
unfolding lowest_free
lowest_is_free [] h = absurd (omega arith)
lowest_is_free (q ∷ qs) h =
    let i = lowest_is_free qs in
    ⊎_elim
    (λ (e : in_use q ≡ true). let up : suc (lowest_free qs) < suc (length qs) = rw e at h in rw e (i (omega arith)))
    (λ (e : in_use q ≡ false). rw e e)
    (used_or_free q)

pub lower_are_used : LowerAreUsed
unfolding lowest_free
lower_are_used [] i h = absurd (omega arith)
lower_are_used (q ∷ qs) zero h =
    ⊎_elim (λ (e : in_use q ≡ true). e) (λ (e : in_use q ≡ false). let none : zero < zero = rw e at h in absurd (omega arith)) (used_or_free q)
lower_are_used (q ∷ qs) (suc i) h =
    let r = lower_are_used qs i in
    ⊎_elim
    (λ (e : in_use q ≡ true). let up : suc i < suc (lowest_free qs) = rw e at h in r (omega arith))
    (λ (e : in_use q ≡ false). let none : suc i < zero = rw e at h in absurd (omega arith))
    (used_or_free q)

pub map_finds_lowest : MapFindsLowest
map_finds_lowest slots long = lowest_of_map slots long

pub map_counts_used : MapCountsUsed
map_counts_used slots long = ones_of_map slots long

pub mark_follows_store : MarkFollowsStore
mark_follows_store slots long i h q = marked_is slots long i h q
