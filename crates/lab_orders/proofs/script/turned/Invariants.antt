use Rattle.lab_orders.proofs.Scripts.{Turning}
use Rattle.lab_orders.proofs.script.turned.Given as goal

abbrev pub invariant-loop-command : goal.invariant-loop-command
invariant-loop-command l = Turning l.commands l.script.items l.command-index l.order l.rest
