-- What the comparisons of both kinds say at one kind: what `exceeds_x`, `exceeds_s` and their like say.
-- Assumes nothing.
use mathlib.Core.Path.{◌≡◌, refl}
use Rattle.common.specs.Determined.{Determined}
use Rattle.common.proofs.OnlyOne.{only_one}
use Rattle.word_counter.proofs.Counting.exceeds.Kinds as exceeds-kinds
use Rattle.word_counter.proofs.Counting.exceeds.Reads as exceeds-reads
use Rattle.word_counter.proofs.Counting.reaches.Kinds as reaches-kinds
use Rattle.word_counter.proofs.Counting.reaches.Reads as reaches-reads
use Rattle.word_counter.proofs.Counting.equals.Kinds as equals-kinds
use Rattle.word_counter.proofs.Counting.equals.Reads as equals-reads
use Rattle.word_counter.proofs.Counting.beyond.Kinds as beyond-kinds
use Rattle.word_counter.proofs.Counting.beyond.Reads as beyond-reads
use Rattle.word_counter.specs.Order.{exceeds_n, reaches_n, equals_n, beyond_n, exceeds_x, reaches_x, equals_x, beyond_x, exceeds_s, reaches_s, equals_s, beyond_s}
use Rattle.word_counter.specs.declared.Exclusive.{Exclusive}
use Rattle.word_counter.specs.declared.Shared.{Shared}
use Rattle.word_counter.specs.contracts.Exclusive as exclusive-kind
use Rattle.word_counter.specs.contracts.Shared as shared-kind
use Rattle.word_counter.specs.contracts.ExclusiveCounting.TheImpl as exclusive
use Rattle.word_counter.specs.contracts.SharedCounting.TheImpl as shared

pub exclusive_exceeds : (a b : Exclusive) → exceeds_n (exclusive.ghosts.held a) (exclusive.ghosts.held b) ≡ exceeds_x a b
exclusive_exceeds a b = refl

pub exclusive_reaches : (a b : Exclusive) → reaches_n (exclusive.ghosts.held a) (exclusive.ghosts.held b) ≡ reaches_x a b
exclusive_reaches a b = refl

pub exclusive_equals : (a b : Exclusive) → equals_n (exclusive.ghosts.held a) (exclusive.ghosts.held b) ≡ equals_x a b
exclusive_equals a b = refl

pub exclusive_beyond : (a b : Exclusive) → beyond_n (exclusive.ghosts.held a) (exclusive.ghosts.held b) ≡ beyond_x a b
exclusive_beyond a b = refl

pub shared_exceeds : (a b : Shared) → exceeds_n (shared.ghosts.held a) (shared.ghosts.held b) ≡ exceeds_s a b
shared_exceeds a b = refl

pub shared_reaches : (a b : Shared) → reaches_n (shared.ghosts.held a) (shared.ghosts.held b) ≡ reaches_s a b
shared_reaches a b = refl

pub shared_equals : (a b : Shared) → equals_n (shared.ghosts.held a) (shared.ghosts.held b) ≡ equals_s a b
shared_equals a b = refl

pub shared_beyond : (a b : Shared) → beyond_n (shared.ghosts.held a) (shared.ghosts.held b) ≡ beyond_s a b
shared_beyond a b = refl

-- And so the contract of each comparison, at each kind, determines it: what `proofs/Determined.antt` shows of every kind, said of the two.
exclusive_exceeds_determined :
    (l c d h e : _) →
    Determined 1 (exceeds-kinds.ps exclusive-kind.the_row l c) (exceeds-kinds.r exclusive-kind.the_row l c) (exceeds-reads.Post exclusive-kind.the_row l c exclusive.ghosts d h e)
exclusive_exceeds_determined l c d h e κs a z z' ws ws' p q = (only_one p q, refl)

exclusive_reaches_determined :
    (l c d h e : _) →
    Determined 1 (reaches-kinds.ps exclusive-kind.the_row l c) (reaches-kinds.r exclusive-kind.the_row l c) (reaches-reads.Post exclusive-kind.the_row l c exclusive.ghosts d h e)
exclusive_reaches_determined l c d h e κs a z z' ws ws' p q = (only_one p q, refl)

exclusive_equals_determined :
    (l c d h e : _) →
    Determined 1 (equals-kinds.ps exclusive-kind.the_row l c) (equals-kinds.r exclusive-kind.the_row l c) (equals-reads.Post exclusive-kind.the_row l c exclusive.ghosts d h e)
exclusive_equals_determined l c d h e κs a z z' ws ws' p q = (only_one p q, refl)

exclusive_beyond_determined :
    (l c d h e : _) →
    Determined 1 (beyond-kinds.ps exclusive-kind.the_row l c) (beyond-kinds.r exclusive-kind.the_row l c) (beyond-reads.Post exclusive-kind.the_row l c exclusive.ghosts d h e)
exclusive_beyond_determined l c d h e κs a z z' ws ws' p q = (only_one p q, refl)

shared_exceeds_determined :
    (l c d h e : _) →
    Determined 1 (exceeds-kinds.ps shared-kind.the_row l c) (exceeds-kinds.r shared-kind.the_row l c) (exceeds-reads.Post shared-kind.the_row l c shared.ghosts d h e)
shared_exceeds_determined l c d h e κs a z z' ws ws' p q = (only_one p q, refl)

shared_reaches_determined :
    (l c d h e : _) →
    Determined 1 (reaches-kinds.ps shared-kind.the_row l c) (reaches-kinds.r shared-kind.the_row l c) (reaches-reads.Post shared-kind.the_row l c shared.ghosts d h e)
shared_reaches_determined l c d h e κs a z z' ws ws' p q = (only_one p q, refl)

shared_equals_determined :
    (l c d h e : _) →
    Determined 1 (equals-kinds.ps shared-kind.the_row l c) (equals-kinds.r shared-kind.the_row l c) (equals-reads.Post shared-kind.the_row l c shared.ghosts d h e)
shared_equals_determined l c d h e κs a z z' ws ws' p q = (only_one p q, refl)

shared_beyond_determined :
    (l c d h e : _) →
    Determined 1 (beyond-kinds.ps shared-kind.the_row l c) (beyond-kinds.r shared-kind.the_row l c) (beyond-reads.Post shared-kind.the_row l c shared.ghosts d h e)
shared_beyond_determined l c d h e κs a z z' ws ws' p q = (only_one p q, refl)
