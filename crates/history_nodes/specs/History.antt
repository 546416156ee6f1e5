-- A history of all seven calls: one after the other on one board, and what is read off it. Slots, words and the ledger are those of
-- `history_promises`; nodes and fences come to them.
use Rattle.std.specs.Prelude.{ℕ, List, [], ◌∷◌, replicate}
use Rattle.board_slots.specs.Slots.{fresh_slots}
use Rattle.board_call.specs.declared.Call.TheVariants.{Open}
use Rattle.board_call.specs.declared.AnyCall.{AnyCall}
use Rattle.board_call.specs.declared.AnyCall.TheVariants.{Base, OpenAs, Fence, Care}
use Rattle.board_rules.specs.declared.Answer.{Answer}
use Rattle.board_nodes.specs.Site.{Site, SiteDone, site_of, fresh_nodes, no_fences, played_at, begun_at}
use Rattle.history_promises.specs.Ledger.{Ledger, blank, noted_call, noted_care, begun_with}

-- Any call, or begin.
pub data AnyMove : Type 0 where
  Begin : AnyMove
  Do : AnyCall → AnyMove

-- Rule 9.1: A fresh board of n words, as an accepted begin leaves it.
abbrev pub fresh_site : ℕ → Site
fresh_site n = record { slots = fresh_slots; nodes = fresh_nodes; fenced = no_fences; words = replicate n 0 }

abbrev pub made_at : AnyMove → Site → SiteDone
made_at Begin t = begun_at t
made_at (Do o) t = played_at o t

-- Rule 9.1: The site after some calls.
unfoldable pub after_at : Site → List AnyMove → Site
after_at t [] = t
after_at t (m ∷ ms) = after_at (site_of (made_at m t)) ms

-- A call and its answer.
pub record AnyEvent : Type 0 where
  pub move : AnyMove
  pub answer : Answer

-- The calls with their answers.
unfoldable pub events_at : Site → List AnyMove → List AnyEvent
events_at t [] = []
events_at t (m ∷ ms) = record { move = m; answer = (made_at m t).answer } ∷ events_at (site_of (made_at m t)) ms

-- Rules 9.2, 9.3 and 9.6: What a call and its answer tell: an open by a node what an open tells, a fence nothing, and a care what its answer says that
-- it was.
abbrev pub noted_any : AnyCall → Answer → Ledger → Ledger
noted_any (Base c) a L = noted_call c a L
noted_any (OpenAs r m k) a L = noted_call (Open r m) a L
noted_any (Fence n) a L = L
noted_any (Care i) a L = noted_care i a L

abbrev pub noted_at : AnyMove → Answer → Ledger → Ledger
noted_at Begin a L = begun_with a L
noted_at (Do o) a L = noted_any o a L

-- Section 9 of the rules: the ledger is read off calls and answers alone.
unfoldable pub read_off_at : Ledger → List AnyEvent → Ledger
read_off_at L [] = L
read_off_at L (e ∷ es) = read_off_at (noted_at e.move e.answer L) es

-- The ledger, and the site, after some calls on a fresh board of n words,
abbrev pub ledger_at : ℕ → List AnyMove → Ledger
ledger_at n ms = read_off_at blank (events_at (fresh_site n) ms)

abbrev pub site_at : ℕ → List AnyMove → Site
site_at n ms = after_at (fresh_site n) ms

-- and what a call would then be answered.
abbrev pub answer_at : ℕ → List AnyMove → AnyCall → Answer
answer_at n ms o = (played_at o (site_at n ms)).answer
