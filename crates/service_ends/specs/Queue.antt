-- The jobs of the tables with the marks of the open transactions, when a service opens or is over, and when the tables change.
use Rattle.std.specs.Prelude.{ℕ, Bool, true, false, List, [], ◌∷◌, is_some}
use Rattle.std.specs.FinMap.{find}
use Rattle.kdcs_types.specs.declared.act.Change.{Change}
use Rattle.kdcs_types.specs.declared.act.Change.TheVariants.{Set, Remove}
use Rattle.kdcs_types.specs.declared.act.Row.TheVariants as row
use Rattle.kdcs_types.specs.declared.key.Key.TheVariants as key
use Rattle.kdcs_types.specs.declared.key.ServiceId.{ServiceId}
use Rattle.kdcs_types.specs.declared.key.ServiceId.TheVariants.{Dialogue, Asynchronous}
use Rattle.kdcs_types.specs.declared.service.Job.{Job}
use Rattle.kdcs_types.specs.Keys.{id_cmp}
use Rattle.open_transaction.specs.declared.async_queue.queue.QueuedJob.{QueuedJob}
use Rattle.open_transaction.specs.Queue.{untaken, with_job, with_mark, without_job}
use Rattle.abstract_monitor.specs.Locks.{Active}

-- the job of an asynchronous service has this mark
abbrev pub marked_for : (taken : Bool) → ServiceId → List QueuedJob → List QueuedJob
marked_for taken (Dialogue user) queue = queue
marked_for taken (Asynchronous number) queue = with_mark number taken queue

-- ---- the jobs of the tables change

-- a mark where the service is open
abbrev pub marked_if : Bool → ℕ → List QueuedJob → List QueuedJob
marked_if true number queue = with_mark number true queue
marked_if false number queue = queue

abbrev pub is_open_job : Active → ℕ → Bool
is_open_job active number = is_some (find id_cmp (Asynchronous number) active)

-- the job is in its place, with its mark
abbrev pub with_marked : Active → Job → List QueuedJob → List QueuedJob
with_marked active job queue = marked_if (is_open_job active job.number) job.number (with_job (untaken job) (without_job job.number queue))

-- what a change of the tables does to the marked jobs
abbrev pub queue_after : Active → Change → List QueuedJob → List QueuedJob
queue_after active (Set (row.Job number value)) queue = with_marked active (record { number = number; value = value }) queue
queue_after active (Set (row.Gssb name content)) queue = queue
queue_after active (Set (row.Tls block lterm content)) queue = queue
queue_after active (Set (row.Uls block user content)) queue = queue
queue_after active (Set (row.Service id service)) queue = queue
queue_after active (Set (row.Shown lterm value)) queue = queue
queue_after active (Remove (key.Job number)) queue = without_job number queue
queue_after active (Remove (key.Gssb name)) queue = queue
queue_after active (Remove (key.Tls block lterm)) queue = queue
queue_after active (Remove (key.Uls block user)) queue = queue
queue_after active (Remove (key.Service id)) queue = queue
queue_after active (Remove (key.Shown lterm)) queue = queue

abbrev pub queue_after_all : Active → List Change → List QueuedJob → List QueuedJob
queue_after_all active [] queue = queue
queue_after_all active (c ∷ cs) queue = queue_after_all active cs (queue_after active c queue)
