-- A turn is the call played, since the visit of the aimed slot is (`AnyVisitIsPlayed`).
-- Assumes nothing.
use mathlib.Core.Path.{ap, sym}
use Rattle.board_nodes.specs.Site.{SiteDone}
use Rattle.board_nodes.specs.Answers.{said_of_any, verbs_of_any}
use Rattle.board_nodes.proofs.Visits.{any_visit_is_played}
use Rattle.run_entry.specs.Entry.{put_of}
use Rattle.run_turn.specs.Turns.{TurnIsPlayed}

pub turn_is_played : TurnIsPlayed
turn_is_played o t long report at =
    let e = any_visit_is_played o t long in
    record {
      slots = ap (λ (d : SiteDone). d.slots) (sym e);
      nodes = ap (λ (d : SiteDone). d.nodes) (sym e);
      fenced = ap (λ (d : SiteDone). d.fenced) (sym e);
      words = ap (λ (d : SiteDone). d.words) (sym e);
      verbs = ap (λ (d : SiteDone). verbs_of_any o d.answer) (sym e);
      told = ap (λ (d : SiteDone). put_of report at (said_of_any o d.answer)) (sym e);
    }
