-- What is promised of the turn test. Statements only: proofs/ has why each holds.
use Rattle.std.specs.Prelude.{ℕ, ◌+◌, ◌≡◌, eqb}
use Rattle.common.specs.Choice.{when◌then◌else◌}
use Rattle.word_layout.specs.declared.Counters.{Counters}
use Rattle.agent_ticket.specs.Turn.{turn_of}
use Rattle.agent_ticket.specs.declared.Ticket.{Ticket}
use Rattle.agent_ticket.specs.declared.Mode.TheVariants.{Reader, Writer}
use Rattle.agent_ticket.specs.declared.Turn.{Turn}
use Rattle.agent_ticket.specs.declared.Turn.TheVariants.{Granted, Ahead}

-- Behind n tickets: granted where there are none, else told to wait, with n.
abbrev pub behind : ℕ → Turn
behind n = when eqb n 0 then Granted else Ahead n

-- Where x is nX and a more, a reader is behind a tickets, whatever the shared numbers are. (Its ticket was drawn when so many writers more
-- had drawn theirs than have now let go.)
abbrev pub ReaderWaitsForWriters : Type 0
ReaderWaitsForWriters = (a : ℕ) (t : Ticket) (v : Counters) → t.0.0 ≡ v.nx.0 + a → turn_of Reader t v ≡ behind a

-- Where x is nX and a more, and s is nS and b more, a writer is behind both.
abbrev pub WriterWaitsForBoth : Type 0
WriterWaitsForBoth =
    (a b : ℕ) (t : Ticket) (v : Counters) → t.0.0 ≡ v.nx.0 + a → t.1.0 ≡ v.ns.0 + b → turn_of Writer t v ≡ behind (a + b)
