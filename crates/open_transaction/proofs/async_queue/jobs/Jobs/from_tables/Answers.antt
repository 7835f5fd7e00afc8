-- Each job of the tables has a greater number than those before it.
use Rattle.std.proofs.Common.{IsTrue, List, sym, subst, ◌∙◌}
use Rattle.kdcs_types.specs.declared.service.Job.{Job}
use Rattle.kdcs_types.specs.Keyed.{ascends}
use Rattle.kdcs_types.specs.Tables.{job_key}
use Rattle.open_transaction.proofs.async_queue.Filling.{next_absent, next_last}
use Rattle.open_transaction.proofs.async_queue.jobs.Jobs.from_tables.Goals as goal

pub insert-requires : goal.insert-requires
insert-requires c =
    next_absent c.jobs-job-items.result.now c.loop-job.job-index c.job-item.result c.loop-job.jobs
    (subst (λ (jobs : List Job). IsTrue (ascends job_key jobs)) (sym c.jobs-job-items.ensures) c.clock-clock.ensures.sorted.jobs) c.loop-job-test.true c.job-item.is c.loop-job.invariant

pub loop-job-preserved : goal.loop-job-preserved
loop-job-preserved c =
    c.in_ok-insert.ensures.ok
    ∙ next_last c.jobs-job-items.result.now c.loop-job.job-index c.job-item.result c.loop-job.jobs
    (subst (λ (jobs : List Job). IsTrue (ascends job_key jobs)) (sym c.jobs-job-items.ensures) c.clock-clock.ensures.sorted.jobs) c.loop-job-test.true c.job-item.is c.loop-job.invariant
