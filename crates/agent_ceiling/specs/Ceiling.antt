-- The ceiling: when a request is turned away, and which ticket brings a clearing word.
use Rattle.std.specs.Prelude.{ℕ, Bool, ◌||◌}
use Rattle.common.specs.Choice.{when◌then◌else◌}
use Rattle.word_layout.specs.Word.{join_of}
use Rattle.word_counter.specs.Order.{reaches_x, equals_x, reaches_s, equals_s}
use Rattle.word_counter.specs.declared.Exclusive.{Exclusive}
use Rattle.word_counter.specs.declared.Shared.{Shared}
use Rattle.word_layout.specs.declared.Counters.{Counters}
use Rattle.agent_request.specs.Request.{NONE}
use Rattle.agent_ticket.specs.declared.Mode.{Mode}
use Rattle.agent_ticket.specs.declared.Mode.TheVariants.{Reader, Writer}

-- Rule 3.2: CEIL is 32,768.
abbrev pub CEIL : ℕ
CEIL = 32768

-- Rule 3.4: The last ticket of a kind that is given, 32,767.
abbrev pub LAST : ℕ
LAST = 32767

-- Rule 3.2: Full: p.mX >= CEIL or p.mS >= CEIL.
abbrev pub full_at : Counters → Bool
full_at p = reaches_x p.mx (record { 0 = CEIL }) || reaches_s p.ms (record { 0 = CEIL })

-- Rule 3.4: The word {x, s, x, s}: as many releases of each kind as tickets.
abbrev pub rest_of : Exclusive → Shared → ℕ
rest_of x s = join_of (record { nx = x; ns = s; mx = x; ms = s })

-- Rule 3.4: A reader with p.mS = 32,767 gets the clearing word {p.mX, CEIL, p.mX, CEIL}; a writer with p.mX = 32,767 gets
-- {CEIL, p.mS, CEIL, p.mS}; any other request gets none.
unfoldable pub clearing_word_of : Mode → Counters → ℕ
clearing_word_of Reader p = when equals_s p.ms (record { 0 = LAST }) then rest_of p.mx (record { 0 = CEIL }) else NONE
clearing_word_of Writer p = when equals_x p.mx (record { 0 = LAST }) then rest_of (record { 0 = CEIL }) p.ms else NONE
