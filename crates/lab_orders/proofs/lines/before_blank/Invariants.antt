use Rattle.lab_orders.proofs.Placing.{IsFront}
use Rattle.lab_orders.proofs.lines.before_blank.Given as goal

abbrev pub invariant-loop-at : goal.invariant-loop-at
invariant-loop-at l = IsFront l.text l.at
