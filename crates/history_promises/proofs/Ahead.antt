-- What each of six waits for, computed. It stands by itself so that a wrong number is named before any proof that rests on the count.
-- Assumes nothing.
use mathlib.Core.Path.{refl}
use Rattle.history_promises.specs.Tickets.{counted}
use Rattle.history_promises.specs.Stories.{EachWaitsFor}

pub each_waits_for : EachWaitsFor
unfolding counted
each_waits_for = refl
