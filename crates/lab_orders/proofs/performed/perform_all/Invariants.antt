use Rattle.lab_orders.proofs.Performing.{PerformingAll}
use Rattle.lab_orders.proofs.performed.perform_all.Given as goal

abbrev pub invariant-loop-command : goal.invariant-loop-command
invariant-loop-command l = PerformingAll l.asks l.fn.core l.core l.fn.path l.path l.commands l.command-index l.walk l.rest
