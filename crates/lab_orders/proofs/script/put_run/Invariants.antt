use Rattle.lab_orders.proofs.Scripts.{Putting}
use Rattle.lab_orders.proofs.script.put_run.Given as goal

abbrev pub invariant-loop-turn : goal.invariant-loop-turn
invariant-loop-turn l = Putting l.fn.script.items l.script.items l.turns l._turn l.order l.rest
