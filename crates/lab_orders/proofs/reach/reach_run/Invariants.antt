use Rattle.lab_orders.proofs.Reaching.{Running}
use Rattle.lab_orders.proofs.reach.reach_run.Given as goal

abbrev pub invariant-loop-made : goal.invariant-loop-made
invariant-loop-made l = Running l.fn.core l.core l.fn.path l.path l.turns l.made l.room l.frames l.rest
