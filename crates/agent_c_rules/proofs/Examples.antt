-- The four tables hold: the definitions compute each row.
-- Assumes nothing.
use mathlib.Core.Path.{refl}
use Rattle.agent_ticket.specs.Turn.{turn_of}
use Rattle.agent_ceiling.specs.Ceiling.{clearing_word_of}
use Rattle.agent_rules.specs.Life.{step_sends, release_sends, step_takes, release_takes, asked}
use Rattle.agent_rules.specs.Care.{care_sends, care_takes}
use Rattle.agent_c_rules.specs.Examples.{StepsHold, ReleasesHold, CaresHold, AsksHold}

pub steps_hold : StepsHold
unfolding step_sends step_takes turn_of clearing_word_of asked
steps_hold = refl

pub releases_hold : ReleasesHold
unfolding release_sends release_takes
releases_hold = refl

pub cares_hold : CaresHold
unfolding step_sends release_sends care_sends step_takes release_takes care_takes turn_of
cares_hold = refl

pub asks_hold : AsksHold
asks_hold = refl
