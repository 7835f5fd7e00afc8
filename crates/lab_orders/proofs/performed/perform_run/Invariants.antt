use Rattle.lab_orders.proofs.Performing.{PerformingRun}
use Rattle.lab_orders.proofs.performed.perform_run.Given as goal

abbrev pub invariant-loop-made : goal.invariant-loop-made
invariant-loop-made l = PerformingRun l.fn.core l.core l.fn.path l.path l.turns l._made l.walk l.rest
