use Rattle.lab_orders.proofs.Asking.{Asking}
use Rattle.lab_orders.proofs.turns.is_at_rest.Given as goal

abbrev pub invariant-loop-at : goal.invariant-loop-at
invariant-loop-at l = Asking l.fn.core l.core l.at
