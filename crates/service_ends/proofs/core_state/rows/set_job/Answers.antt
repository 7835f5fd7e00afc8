use Rattle.std.proofs.Common.{ap, ◌∙◌}
use Rattle.open_transaction.specs.Queue.{queued_at}
use Rattle.service_ends.specs.QueueLaws.{gone}
use Rattle.service_ends.proofs.core_state.rows.set_job.Goals as goal

pub insert-requires : goal.insert-requires
insert-requires c = ap (queued_at c.args.number) c.remove.ensures.left ∙ gone c.args.number c.args.jobs.now
