use Rattle.service_ends.proofs.Ended.{closed_result, none_closed}
use Rattle.service_ends.proofs.closed.close_transaction.Goals as goal

pub unreachable-requires : goal.unreachable-requires
unreachable-requires c = none_closed c.args.parts.now c.free_task.new.self c.args.task c.args.id.now c.requires.serves c.free_task.ensures.state c.in-None.ensures.found

pub returns-clause-closed : goal.returns-clause-closed
returns-clause-closed c =
    closed_result c.args.parts.now c.free_task.new.self c.close.new.self c.args.task c.args.id.now c.in-Some.transaction c.requires.serves c.free_task.ensures.same c.close.ensures.same c.free_task.ensures.state c.close.ensures.state c.in-Some.ensures.found
    c.in-Some.ensures.owned
