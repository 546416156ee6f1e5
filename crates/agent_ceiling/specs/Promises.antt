-- What the layers above, and a stranger, may believe of the ceiling. A statement only: proofs/ has why it holds.
use Rattle.std.specs.Prelude.{◌≡◌, true}
use Rattle.word_counter.specs.Order.{equals_x, equals_s}
use Rattle.word_layout.specs.declared.Counters.{Counters}
use Rattle.agent_request.specs.Request.{NONE}
use Rattle.agent_ceiling.specs.Ceiling.{LAST, clearing_word_of}
use Rattle.agent_ticket.specs.declared.Mode.TheVariants.{Reader, Writer}

-- The last ticket of a kind brings a clearing word that is not the number kept for none.
abbrev pub ClearingWordIsSome : Type 0
ClearingWordIsSome =
    (p : Counters) →
    (equals_s p.ms (record { 0 = LAST }) ≡ true → clearing_word_of Reader p ≡ NONE → ⊥) ×
    (equals_x p.mx (record { 0 = LAST }) ≡ true → clearing_word_of Writer p ≡ NONE → ⊥)
