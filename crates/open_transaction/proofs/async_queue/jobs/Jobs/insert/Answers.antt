-- The job comes to both, or to neither.
use Rattle.std.proofs.Common.{false, ap, ◌∙◌}
use Rattle.open_transaction.specs.declared.async_queue.due.DueKey.{DueKey}
use Rattle.open_transaction.specs.DueIndex.{queue_in}
use Rattle.open_transaction.proofs.async_queue.Index.{inserted, taken_back}
use Rattle.open_transaction.proofs.async_queue.Views.{job_added, number_absent}
use Rattle.open_transaction.proofs.async_queue.jobs.Jobs.insert.Goals as goal

pub invariant_of-self-in-Err : goal.invariant_of-self-in-Err
invariant_of-self-in-Err c =
    rw (c.in-Err.ensures.err, c.remove.ensures.left, c.in_ok-put.ensures.ok)
    (taken_back c.args.number c.self.inside.by_number c.self.inside.by_due c.self.invariant c.key-key.result false
    (ap (λ (k : DueKey). k.number) c.key-key.ensures) (number_absent c.args.number c.self.inside.by_number c.args.self.now c.self.view_is c.requires))

pub invariant_of-self-in_default : goal.invariant_of-self-in_default
invariant_of-self-in_default c =
    rw (c.in_default.ensures.ok, c.in_ok-put.ensures.ok, c.key-key.ensures)
    (inserted c.args.number c.self.inside.by_number c.self.inside.by_due c.self.invariant (record { to = c.args.to; due = c.args.due; taken = false })
    (number_absent c.args.number c.self.inside.by_number c.args.self.now c.self.view_is c.requires))

pub returns-clause-ok : goal.returns-clause-ok
returns-clause-ok c =
    ap queue_in c.in_default.ensures.ok
    ∙ job_added c.args.number c.self.inside.by_number c.args.self.now c.self.view_is (record { to = c.args.to; due = c.args.due; taken = false })
    (number_absent c.args.number c.self.inside.by_number c.args.self.now c.self.view_is c.requires)
