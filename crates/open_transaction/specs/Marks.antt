-- The queue of a state of the monitor: the jobs of its tables, of which those with an open service are taken. Each call on
-- the queue is a step of the state.
use Rattle.std.specs.Prelude.{not, List, map}
use Rattle.kdcs_types.specs.declared.service.Job.{Job}
use Rattle.abstract_monitor.specs.Locks.{Active}
use Rattle.abstract_monitor.specs.Picks.{is_free}
use Rattle.open_transaction.specs.declared.async_queue.queue.QueuedJob.{QueuedJob}
use Rattle.open_transaction.specs.Queue.{untaken, with_taken}

-- a job of the tables with its mark
abbrev pub queued_in : Active → Job → QueuedJob
queued_in active job = with_taken (not (is_free active job)) (untaken job)

-- the jobs of the tables with their marks
abbrev pub queue_of : Active → List Job → List QueuedJob
queue_of active jobs = map (queued_in active) jobs
