-- So far the first job of the targets before the next one, which has a job.
use Rattle.open_transaction.specs.DueIndex.{IsFirst}
use Rattle.open_transaction.specs.Queue.{is_due}
use Rattle.open_transaction.proofs.async_queue.Steps.{Before, left}
use Rattle.open_transaction.proofs.async_queue.Targets.{NextHasJob}
use Rattle.open_transaction.proofs.async_queue.choice.first_allowed.Given as goal

abbrev pub invariant-loop-tac : goal.invariant-loop-tac
invariant-loop-tac g l = record {
  first : IsFirst (Before l.by_due l.now (g.A.Allows.allows l.allowed) l.next) (is_due l.now (g.A.Allows.allows l.allowed)) l.first;
  has : NextHasJob l.by_due l.next;
}

abbrev pub decreases-loop-tac : goal.decreases-loop-tac
decreases-loop-tac g l = left l.by_due l.next
