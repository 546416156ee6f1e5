-- A turn plays one record and keeps what is kept while the run goes on (`turns_one`, `waits_one`, `opens_one`), and where the run stops nothing is
-- left (`halts_here`, `leaves_here`).
-- Assumes nothing.
use Rattle.std.proofs.Common.{◌≡◌, ◌∙◌, sym, ℕ, ◌<◌, length, get_or, arith, rules}
use borrow.Author.Rules.{elem_Fits}
use mir.Syntax.{w8}
use Rattle.board_nodes.specs.Leaves.{lent_to}
use Rattle.common.proofs.But.{some_but}
use Rattle.board_visit_waiting.proofs.Waits.{stepped_is}
use Rattle.run_play.proofs.Playing.{begins, turning, one_verb, turn_bounds, turns_one, waits_one, opens_one, halts_here, leaves_here}
use Rattle.run_play.proofs.run.Goals as goal
use Rattle.run_play.proofs.run.Goals.{in-Some, in_default+in_default-next}

pub loop-ending-init : goal.loop-ending-init
loop-ending-init c =
    let long : length c.args.b.slots ≡ 256 = search rules in
    let good = c.well_formed.0.1.1 in
    let noded : (i : ℕ) → get_or c.args.b.nodes i 0 < 256 = λ i. (elem_Fits w8 w8 c.args.b.nodes _ i good.1.0.1.1 tt).fits in
    begins (lent_to c.args.b c.args.words.now) c.args.s.now c.args.at c.args.allowance c.args.report.now c.map_of-map.result.parts long noded c.map_of-map.ensures

pub returns : goal.returns
returns c =
    let l = c.loop-ending in
    let b = c.args.b in
    record {
      ran =
          elim c.match-halted.branch [
            | in-Some w ↦
                rw w.ending-is
                (halts_here b c.args.words.now c.args.s.now c.args.at c.args.allowance c.args.report.now l.cur l.words l.report l.map.parts l.place l.records l.verbs l.invariant
                _ _ c.next_at-next.ensures w.in-Some.ensures)
            | in_default+in_default-next w ↦
                rw w.ending-is
                (leaves_here b c.args.words.now c.args.s.now c.args.at c.args.allowance c.args.report.now l.cur l.words l.report l.map.parts l.place l.records l.verbs l.invariant
                _ _ c.next_at-next.ensures w.in_default.ensures w.in_default-next.not-Record w.left_by-ending.ensures)
          ];
    }

pub loop-ending-preserved-in-Some-still_ahead : goal.loop-ending-preserved-in-Some-still_ahead
loop-ending-preserved-in-Some-still_ahead c =
    let s = stepped_is c.in-Record.o _ c.in-Some-stepped.ensures in
    let a = some_but 0 _ _ c.in-Some-still_ahead.ensures in
    waits_one (turning c.loop-ending.invariant c.in-Record.o c.in-Record.after _ c.next_at-next.ensures c.in-Record.ensures c.in_default.ensures)
    _ s.0 s.1 _ a.1 (λ z. a.0 (sym a.1 ∙ z)) _ c.put_waiting.ensures

pub overflow_add-verbs-in_default-c : goal.overflow_add-verbs-in_default-c
overflow_add-verbs-in_default-c c =
    let few = one_verb _ _ _ _ c.turn-sent.ensures.handed in
    let bounds = turn_bounds (turning c.loop-ending.invariant c.in-Record.o c.in-Record.after _ c.next_at-next.ensures c.in-Record.ensures c.in_default.ensures) in
    omega (arith, few, bounds.0, c.loop-ending.invariant.few, c.ranges.allowance.fits)

pub loop-ending-preserved-in_default-c : goal.loop-ending-preserved-in_default-c
loop-ending-preserved-in_default-c c =
    let t = c.turn-sent in
    turns_one (turning c.loop-ending.invariant c.in-Record.o c.in-Record.after _ c.next_at-next.ensures c.in-Record.ensures c.in_default.ensures)
    c.reported_as-c.result c.reported_as-c.ensures c.aim-i.result c.aim-i.ensures c.watched_node-g.result c.watched_node-g.ensures t.result t.new.words
    t.ensures.handed t.ensures.left t.auto.words c.kept_node.result c.fence_after.result c.kept_node.type_inv c.kept_node.ensures c.fence_after.ensures
    _ _ c.marked-map.ensures t.ensures.told

pub loop-ending-preserved : goal.loop-ending-preserved
loop-ending-preserved c =
    let t = c.open_turn-opened in
    opens_one (turning c.loop-ending.invariant c.in-Record.o c.in-Record.after _ c.next_at-next.ensures c.in-Record.ensures c.in_default.ensures)
    c.reported_as-c.result c.reported_as-c.ensures _ _ c.in-Open.is c.aim-i.result c.aim-i.ensures c.watched_node-g.result c.watched_node-g.ensures
    t.result t.ensures.handed c.kept_node-in-loop-ending.result c.kept_node-in-loop-ending.type_inv c.kept_node-in-loop-ending.ensures _ _ c.marked-map-in-loop-ending.ensures t.ensures.told
