-- The job leaves both, or is in neither.
use Rattle.std.proofs.Common.{is_some, sym, ap, ◌∙◌}
use Rattle.open_transaction.specs.DueIndex.{queue_in}
use Rattle.open_transaction.proofs.async_queue.Index.{removed}
use Rattle.open_transaction.proofs.async_queue.Views.{job_absent, job_left, job_there}
use Rattle.open_transaction.proofs.async_queue.jobs.Jobs.remove.Goals as goal

pub invariant_of-self : goal.invariant_of-self
invariant_of-self c =
    rw (c.remove.ensures.left, c.remove-in-Some.ensures.left, c.key.ensures)
    (removed c.args.number c.self.inside.by_number c.self.inside.by_due c.self.invariant c.in-Some.waiting (sym c.remove.ensures.value ∙ c.in-Some.is))

pub returns-in-Some-clause-found : goal.returns-in-Some-clause-found
returns-in-Some-clause-found c = sym (ap is_some (job_there c.args.number c.self.inside.by_number c.args.self.now c.self.view_is c.in-Some.waiting (sym c.remove.ensures.value ∙ c.in-Some.is)))

pub returns-in-Some-clause-left : goal.returns-in-Some-clause-left
returns-in-Some-clause-left c = ap queue_in c.remove.ensures.left ∙ job_left c.args.number c.self.inside.by_number c.args.self.now c.self.view_is

pub returns-in-None-clause-found : goal.returns-in-None-clause-found
returns-in-None-clause-found c = sym (ap is_some (job_absent c.args.number c.self.inside.by_number c.args.self.now c.self.view_is (sym c.remove.ensures.value ∙ c.in-None.is)))

pub returns-in-None-clause-left : goal.returns-in-None-clause-left
returns-in-None-clause-left c = ap queue_in c.remove.ensures.left ∙ job_left c.args.number c.self.inside.by_number c.args.self.now c.self.view_is
