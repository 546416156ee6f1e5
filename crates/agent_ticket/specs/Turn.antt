-- The turn test of a ticket (x, s) against the four counters v of a word.
use Rattle.std.specs.Prelude.{ℕ, ◌+◌, Bool, true, false, not, ◌&&◌, ◌||◌}
use Rattle.common.specs.Choice.{when◌then◌else◌}
use Rattle.word_counter.specs.Order.{exceeds_x, equals_x, beyond_x, exceeds_s, equals_s, beyond_s}
use Rattle.word_layout.specs.declared.Counters.{Counters}
use Rattle.agent_ticket.specs.declared.Ticket.{Ticket}
use Rattle.agent_ticket.specs.declared.Mode.{Mode}
use Rattle.agent_ticket.specs.declared.Mode.TheVariants.{Reader, Writer}
use Rattle.agent_ticket.specs.declared.Turn.{Turn}
use Rattle.agent_ticket.specs.declared.Turn.TheVariants.{Passed, Granted, Ahead}

-- Rule 2.2: Reader means shared, writer exclusive.
abbrev pub is_writer : Mode → Bool
is_writer Reader = false
is_writer Writer = true

-- Rule 3.7: The number ahead of a ticket (x, s), at counters v: x - v.nX for a reader, (x - v.nX) + (s - v.nS) for a writer. Where it is told,
-- no difference in it is below 0: the ticket would have passed.
abbrev pub ahead_of : Mode → Ticket → Counters → ℕ
ahead_of Reader t v = beyond_x t.0 v.nx
ahead_of Writer t v = beyond_x t.0 v.nx + beyond_s t.1 v.ns

-- Rule 3.6: passed, if v.nX > x, or a writer and v.nS > s;
abbrev pub passed_at : Mode → Ticket → Counters → Bool
passed_at m t v = exceeds_x v.nx t.0 || (is_writer m && exceeds_s v.ns t.1)

-- Rule 3.6: granted, if v.nX = x and (a reader, or v.nS = s);
abbrev pub granted_at : Mode → Ticket → Counters → Bool
granted_at m t v = equals_x v.nx t.0 && (not (is_writer m) || equals_s v.ns t.1)

-- Rule 3.6: waiting, otherwise, with the number ahead.
unfoldable pub turn_of : Mode → Ticket → Counters → Turn
turn_of m t v = when passed_at m t v then Passed else when granted_at m t v then Granted else Ahead (ahead_of m t v)
