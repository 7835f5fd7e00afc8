use Rattle.lab_orders.proofs.Drawing.{Drawn}
use Rattle.lab_orders.proofs.draw.drawn_walk.Given as goal

abbrev pub invariant-loop-command : goal.invariant-loop-command
invariant-loop-command l = Drawn l.fn.core l.core l.fn.path l.path l.commands l.command-index
