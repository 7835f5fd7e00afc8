use Rattle.std.proofs.Common.{◌≡◌, drop}
use Rattle.service_ends.specs.Queue.{queue_after_all}
use Rattle.service_ends.specs.Standing.{active_of}
use Rattle.service_ends.proofs.core_state.rows.change_all_jobs.Given as goal

abbrev pub invariant-loop-change : goal.invariant-loop-change
invariant-loop-change l = queue_after_all (active_of l.fn.active) (drop l.change-index l.fn.changes) l.jobs ≡ queue_after_all (active_of l.fn.active) l.fn.changes l.fn.jobs
