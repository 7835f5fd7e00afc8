use Rattle.std.specs.Prelude.{◌&&◌, nat_le, option_copied}
use Rattle.kdcs_types.specs.declared.service.Job.{Job}
use Rattle.abstract_monitor.specs.Commands.{is_for}
use Rattle.serial_audit.proofs.DueJob.{none_behind, one_behind}
use Rattle.serial_audit.proofs.shows.due_job.Goals as goal

pub loop-behind-init : goal.loop-behind-init
loop-behind-init c = none_behind (λ (job : Job). nat_le job.value.due c.args.clock && is_for c.args.lterm job.value.to) c.args.jobs.now

pub loop-behind-preserved : goal.loop-behind-preserved
loop-behind-preserved c = one_behind (λ (job : Job). nat_le job.value.due c.args.clock && is_for c.args.lterm job.value.to) c.args.jobs.now c.loop-behind.behind c.index-jobs-jobs.result (option_copied c.loop-behind.first) (option_copied c.with_job-first.result) c.loop-behind-test.true c.index-jobs-jobs.is c.loop-behind.invariant c.with_job-first.ensures
