-- The first job by due is that of the queue.
use Rattle.std.proofs.Common.{ap, ◌∙◌}
use Rattle.kdcs_types.specs.Same.{target_eq}
use Rattle.open_transaction.specs.Queue.{first_due, is_due}
use Rattle.open_transaction.proofs.async_queue.DueFirst.{first_is}
use Rattle.open_transaction.proofs.async_queue.jobs.Jobs.first_for.Goals as goal

pub returns : goal.returns
returns c =
    first_is (is_due c.args.now (target_eq c.args.to.now)) c.self.inside.by_number c.self.inside.by_due c.self.invariant c.first_for.result c.first_for.ensures
    ∙ ap (first_due c.args.now (target_eq c.args.to.now)) c.self.view_is
