-- So far the first jobs of the tables.
use Rattle.std.proofs.Common.{◌≡◌, map, take}
use Rattle.open_transaction.specs.Queue.{untaken}
use Rattle.open_transaction.proofs.async_queue.jobs.Jobs.from_tables.Given as goal

abbrev pub invariant-loop-job : goal.invariant-loop-job
invariant-loop-job l = l.jobs ≡ map untaken (take l.job-index l.job-items)
