-- Each public function of `cases_ceiling`, and why its contract determines it: it prints, and hands back nothing and changes nothing lent; two
-- outcomes are then equal at once. A function that is missing here is a defect.
-- Assumes nothing.
use Rattle.std.proofs.Common.{refl}
use Rattle.common.specs.Determined.{Determined}
use Rattle.cases_ceiling.proofs.after_almost_all_tickets.Kinds as after-almost-all-tickets-kinds
use Rattle.cases_ceiling.proofs.after_almost_all_tickets.Reads as after-almost-all-tickets-reads
use Rattle.cases_ceiling.proofs.ceiling.Kinds as ceiling-kinds
use Rattle.cases_ceiling.proofs.ceiling.Reads as ceiling-reads
use Rattle.cases_ceiling.proofs.lost_clearer.Kinds as lost-clearer-kinds
use Rattle.cases_ceiling.proofs.lost_clearer.Reads as lost-clearer-reads
use Rattle.cases_ceiling.proofs.most.Kinds as most-kinds
use Rattle.cases_ceiling.proofs.most.Reads as most-reads

after_almost_all_tickets_determined : Determined 1 after-almost-all-tickets-kinds.ps after-almost-all-tickets-kinds.r after-almost-all-tickets-reads.Post
after_almost_all_tickets_determined κs a z z' ws ws' p q = (refl, refl)

ceiling_determined : Determined 0 ceiling-kinds.ps ceiling-kinds.r ceiling-reads.Post
ceiling_determined κs a z z' ws ws' p q = (refl, refl)

most_determined : Determined 0 most-kinds.ps most-kinds.r most-reads.Post
most_determined κs a z z' ws ws' p q = (refl, refl)

lost_clearer_determined : Determined 0 lost-clearer-kinds.ps lost-clearer-kinds.r lost-clearer-reads.Post
lost_clearer_determined κs a z z' ws ws' p q = (refl, refl)
