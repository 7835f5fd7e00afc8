use Rattle.laws_of_runs.specs.Applied.{applied}
use Rattle.lab_orders.specs.Exploring.{AreFollowed}
use Rattle.lab_orders.specs.Finding.{CanStart}
use Rattle.lab_orders.proofs.standing.standing_orders.Given as goal

abbrev pub invariant-loop-turn : goal.invariant-loop-turn
invariant-loop-turn l = record {
  can : CanStart (applied l.fn.generation l.fn.units) l.tables l.commands l.generation l.units;
  followed : AreFollowed (applied l.fn.generation l.fn.units) l.tables l.commands l.most l.orders l.outcomes.items l.layer.items;
}
