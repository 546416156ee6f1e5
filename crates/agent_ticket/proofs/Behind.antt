-- What the turn test tells whoever is behind so many tickets: no released number is past the ticket, so it is not passed; all are reached
-- exactly where nothing is missing, and else the differences are what is missing.
-- Assumes nothing.
use Prim.Native.Nat.{zero, suc, ◌+◌}
use mathlib.Core.Path.{refl, ap}
use native.Mathlib.Omega.{arith}
use borrow.Author.Tests.{le-ltb, eq-eqb, ne_eqb}
use Rattle.agent_ticket.specs.Turn.{turn_of}
use Rattle.agent_ticket.specs.Promises.{ReaderWaitsForWriters, WriterWaitsForBoth}
use Rattle.agent_ticket.specs.declared.Turn.TheVariants.{Ahead}

pub reader_waits_for_writers : ReaderWaitsForWriters
unfolding turn_of
reader_waits_for_writers zero t v e = rw (le-ltb t.0.0 v.nx.0 (omega arith), eq-eqb v.nx.0 t.0.0 (omega arith)) refl
reader_waits_for_writers (suc a) t v e =
    rw (le-ltb t.0.0 v.nx.0 (omega arith), ne_eqb v.nx.0 t.0.0 (λ q. absurd (omega arith)), ne_eqb (suc a) 0 (λ q. absurd (omega arith)))
    (ap Ahead (omega arith))

pub writer_waits_for_both : WriterWaitsForBoth
unfolding turn_of
writer_waits_for_both zero zero t v e f =
    rw (le-ltb t.0.0 v.nx.0 (omega arith), le-ltb t.1.0 v.ns.0 (omega arith), eq-eqb v.nx.0 t.0.0 (omega arith), eq-eqb v.ns.0 t.1.0 (omega arith)) refl
writer_waits_for_both zero (suc b) t v e f =
    rw (le-ltb t.0.0 v.nx.0 (omega arith), le-ltb t.1.0 v.ns.0 (omega arith), eq-eqb v.nx.0 t.0.0 (omega arith), ne_eqb v.ns.0 t.1.0 (λ q. absurd (omega arith)), ne_eqb (zero + suc b) 0 (λ q. absurd (omega arith)))
    (ap Ahead (omega arith))
writer_waits_for_both (suc a) b t v e f =
    rw (le-ltb t.0.0 v.nx.0 (omega arith), le-ltb t.1.0 v.ns.0 (omega arith), ne_eqb v.nx.0 t.0.0 (λ q. absurd (omega arith)), ne_eqb (suc a + b) 0 (λ q. absurd (omega arith)))
    (ap Ahead (omega arith))
