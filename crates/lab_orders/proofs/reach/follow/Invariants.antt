use Rattle.lab_orders.proofs.Reaching.{Following}
use Rattle.lab_orders.proofs.reach.follow.Given as goal

abbrev pub invariant-loop-command : goal.invariant-loop-command
invariant-loop-command l = Following l.asks l.fn.core l.core l.fn.path l.path l.commands l.command-index l.later l.frames l.rest
