use Rattle.laws_of_runs.specs.Applied.{applied}
use Rattle.lab_orders.specs.Finding.{CanStart}
use Rattle.lab_orders.proofs.Covering.{AllTried}
use Rattle.lab_orders.proofs.explored.all_orders.Given as goal

abbrev pub invariant-loop-tried : goal.invariant-loop-tried
invariant-loop-tried l = record {
  can : CanStart (applied l.fn.generation l.fn.units) l.tables l.commands l.generation l.units;
  all : AllTried (applied l.fn.generation l.fn.units) l.tables l.commands l.tried l.outcomes.items l.frames.items;
}
