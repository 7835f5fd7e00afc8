use Rattle.laws_of_runs.specs.Applied.{applied}
use Rattle.lab_orders.specs.Finding.{CanStart}
use Rattle.lab_orders.proofs.Covering.{AreDrawn}
use Rattle.lab_orders.proofs.explored.drawn_orders.Given as goal

abbrev pub invariant-loop-drawn : goal.invariant-loop-drawn
invariant-loop-drawn l = record {
  can : CanStart (applied l.fn.generation l.fn.units) l.tables l.commands l.generation l.units;
  are : AreDrawn (applied l.fn.generation l.fn.units) l.tables l.commands l._drawn l.outcomes.items;
}
