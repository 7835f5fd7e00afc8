use Rattle.std.specs.Prelude.{sum_by}
use Rattle.lab_orders.specs.Walking.{tries_of}
use Rattle.lab_orders.proofs.Searching.{Trying}
use Rattle.lab_orders.proofs.search.try_tasks.Given as goal

abbrev pub invariant-loop-at : goal.invariant-loop-at
invariant-loop-at l = Trying l.fn.core l.core (sum_by tries_of l.commands) l.at l.choices l.idle
