use Rattle.std.proofs.Common.{arith}
use Rattle.lab_orders.proofs.Following.{replaced_at}
use Rattle.lab_orders.proofs.standing.is_replaced.Goals as goal

pub returns-then-can_replace : goal.returns-then-can_replace
returns-then-can_replace c is = replaced_at c.args.nodes.now c.args.node.now c.other-item.result c.loop-other.other-index (omega arith) c.other-item.is (c.can_replace.ensures c.if-can_replace.true)
