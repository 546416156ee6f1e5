-- The table holds: the definitions compute each body.
-- Assumes nothing.
use mathlib.Core.Path.{refl}
use Rattle.schedule_kinds.specs.Kinds.{widths_of, body_of}
use Rattle.schedule_kinds.specs.Promises.{BodiesAre}

pub bodies_are : BodiesAre
unfolding body_of widths_of
bodies_are = refl
