use Rattle.std.proofs.Common.{arith}
use Rattle.lab_orders.proofs.Exploring.{is_there}
use Rattle.lab_orders.proofs.explored.place_of.Goals as goal

pub returns-then-is_that_of : goal.returns-then-is_that_of
returns-then-is_that_of c = is_there c.args.outcomes.now c.args.found.now c.loop-at.at c.index-outcomes-at.result c.loop-at.invariant (omega arith) c.index-outcomes-at.is (c.is_that_of.ensures.0 c.if-is_that_of.true)
