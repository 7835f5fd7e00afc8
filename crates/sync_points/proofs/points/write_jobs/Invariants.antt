use Rattle.std.proofs.Common.{◌≡◌, ◌++◌}
use Rattle.sync_points.specs.PointChanges.{job_changes}
use Rattle.sync_points.proofs.points.write_jobs.Given as goal

abbrev pub invariant-loop-job : goal.invariant-loop-job
invariant-loop-job l = l.changes ≡ l.initial.changes ++ job_changes l.yielded
