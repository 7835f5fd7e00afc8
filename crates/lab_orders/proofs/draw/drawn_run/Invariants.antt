use Rattle.lab_orders.proofs.Drawing.{Drawing}
use Rattle.lab_orders.proofs.draw.drawn_run.Given as goal

abbrev pub invariant-loop-made : goal.invariant-loop-made
invariant-loop-made l = Drawing l.fn.core l.core l.fn.path l.path l.turns l._made l.effects l.resting.tasks.items
