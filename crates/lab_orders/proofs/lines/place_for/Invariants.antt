use Rattle.lab_orders.proofs.Placing.{IsPast}
use Rattle.lab_orders.proofs.lines.place_for.Given as goal

abbrev pub invariant-loop-at : goal.invariant-loop-at
invariant-loop-at l = IsPast l.line l.others l.at
