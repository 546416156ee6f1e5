-- A mirror of a part of `Board`: a verb sent for one request, and its result taken, without the table of slots. `VisitIsPlayed` (Promises) says
-- that visiting a slot so is playing the call, so nothing here needs belief but `handed`: what a visit hands back is its request and its answer.
use Rattle.std.specs.Prelude.{ℕ, List, eqb, get_or, set}
use Rattle.common.specs.Choice.{when◌then◌else◌}
use Rattle.agent_request.specs.declared.Request.{Request}
use Rattle.agent_rules.specs.Life.{left_by}
use Rattle.agent_rules.specs.declared.Verb.{Verb}
use Rattle.agent_rules.specs.declared.Taken.{Taken}
use Rattle.board_rules.specs.declared.Answer.{Answer}
use Rattle.board_rules.specs.declared.Answer.TheVariants.{Refused, Told}
use Rattle.board_rules.specs.Records.{refusal_of}
use Rattle.board_rules.specs.declared.Seen.{Seen}

-- What a visit leaves.
pub record Visited : Type 0 where
  pub request : Request
  pub words : List ℕ
  pub answer : Answer

abbrev pub visited : Request → List ℕ → Answer → Visited
visited q ws a = record { request = q; words = ws; answer = a }

-- The part of it that is handed back; the words are lent.
abbrev pub seen_as : Request → Answer → Seen
seen_as q a = record { request = q; answer = a }

abbrev pub handed : Visited → Seen
handed v = seen_as v.request v.answer

unfoldable pub sent_visit : Request → Verb → (ℕ → Taken) → List ℕ → Visited
sent_visit q verb takes ws =
    when eqb (refusal_of q verb ws) 0
    then
    visited
    (takes (get_or ws q.«record» 0)).request
    (set ws q.«record» (left_by verb (get_or ws q.«record» 0)))
    (Told (takes (get_or ws q.«record» 0)).answer)
    else visited q ws (Refused (refusal_of q verb ws))
