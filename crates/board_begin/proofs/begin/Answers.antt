-- Its test is that of `begun_at`.
-- Assumes nothing.
use Rattle.std.proofs.Common.{refl, ap, arith}
use Rattle.board_rules.specs.declared.Answer.TheVariants.{Refused}
use Rattle.board_nodes.specs.Leaves.{lent_to}
use Rattle.board_begin.proofs.Begins.{begun_refused, begun_all}
use Rattle.board_begin.proofs.begin.Goals as goal

pub returns-then-n-eq0 : goal.returns-then-n-eq0
returns-then-n-eq0 c =
    rw (begun_refused (lent_to c.args.b c.args.words.now) c.then-n-eq0.either) (record { slots = refl; nodes = refl; fenced = refl; answer = ap Refused c.into.ensures; words = refl })

pub returns : goal.returns
returns c =
    rw (begun_all (lent_to c.args.b c.args.words.now) c.if-n-eq0.false (omega arith))
    (record {
      slots = c.fresh.ensures.slots;
      nodes = c.fresh.ensures.nodes;
      fenced = c.fresh.ensures.fenced;
      answer = refl;
      words = c.fill.ensures.after (λ y e. e);
    })
