-- What a caller in C gets of the agent: its verbs and its answers as plain numbers.
use Rattle.std.specs.Prelude.{ℕ, ◌<◌, ◌≡◌, ltb}
use Rattle.common.specs.Choice.{when◌then◌else◌}
use Rattle.agent_request.specs.Request.{in_use, opened_request}
use Rattle.agent_request.specs.declared.Request.{Request}
use Rattle.agent_rules.specs.Answers.{numbers_of}
use Rattle.agent_rules.specs.declared.Verb.{Verb}
use Rattle.agent_rules.specs.declared.Verb.TheVariants as verb
use Rattle.agent_rules.specs.declared.Answer.{Answer}
use Rattle.agent_c_rules.specs.declared.CVerb.{CVerb}
use Rattle.agent_c_rules.specs.declared.CTold.{CTold}

-- Decision 33: the kinds of verb: 0 none, 1 add with its number, 2 read, 3 swap with the old word and the new one. A number that is not used is 0.
abbrev pub verb_of : Verb → CVerb
verb_of verb.Nothing = record { kind = 0; first = 0; second = 0 }
verb_of (verb.Add k) = record { kind = 1; first = k; second = 0 }
verb_of verb.Read = record { kind = 2; first = 0; second = 0 }
verb_of (verb.Swap old new) = record { kind = 3; first = old; second = new }

-- Rules 3.7, 5.1 and 5.3: the number and the outcome of an answer, and the number ahead.
abbrev pub told_of : Answer → CTold
told_of a = record { number = (numbers_of a).number; outcome = (numbers_of a).outcome; ahead = (numbers_of a).value }

-- Decision 33: What the request becomes when it is to ask, with the number that is told.
pub record Asked : Type 0 where
  pub request : Request
  pub number : ℕ

-- A request that stays as it is, refused with a number.
abbrev refused_by : ℕ → Request → Asked
refused_by n q = record { request = q; number = n }

-- Decision 33: a request that is to ask: mode 0 or 1, else 3; not in use, else 5; then it is the opened one, and 0.
abbrev pub asked_of : Request → ℕ → ℕ → Asked
asked_of q r m =
    when ltb 1 m then refused_by 3 q else
    when in_use q then refused_by 5 q else
    record { request = opened_request r m; number = 0 }

-- Demand D1.3: an ask that is refused leaves the request.
abbrev pub AskRefusedKeeps : Type 0
AskRefusedKeeps = (q : Request) (r m : ℕ) → 0 < (asked_of q r m).number → (asked_of q r m).request ≡ q
