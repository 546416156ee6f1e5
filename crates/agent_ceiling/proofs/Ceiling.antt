-- A clearing word is never 0: it has CEIL in its highest or its second counter.
-- Assumes nothing.
use native.Mathlib.Omega.{arith}
use Rattle.agent_ceiling.specs.Ceiling.{clearing_word_of}
use Rattle.agent_ceiling.specs.Promises.{ClearingWordIsSome}

pub clearing_word_is_some : ClearingWordIsSome
unfolding clearing_word_of
clearing_word_is_some p = ((λ e z. let w = rw e at z in omega arith), (λ e z. let w = rw e at z in omega arith))
