-- The first job by due is that of the queue.
use Rattle.std.proofs.Common.{ap, ◌∙◌}
use Rattle.open_transaction.specs.Queue.{first_due, is_due}
use Rattle.open_transaction.proofs.async_queue.DueFirst.{first_is}
use Rattle.open_transaction.proofs.async_queue.jobs.Jobs.first_allowed.Goals as goal

pub returns : goal.returns
returns g c =
    let allowed = g.A.Allows.allows c.args.allowed.now in
    first_is (is_due c.args.now allowed) c.self.inside.by_number c.self.inside.by_due c.self.invariant c.first_allowed.result c.first_allowed.ensures
    ∙ ap (first_due c.args.now allowed) c.self.view_is
