use Rattle.std.proofs.Common.{◌++◌, drop}
use Rattle.laws_of_runs.specs.Applied.{applied}
use Rattle.lab_orders.specs.Exploring.{AreFollowed}
use Rattle.lab_orders.specs.Finding.{CanStart}
use Rattle.lab_orders.proofs.standing.next_layer.Given as goal

abbrev pub invariant-loop-node : goal.invariant-loop-node
invariant-loop-node l = record {
  can : CanStart (applied l.fn.generation l.fn.units) l.tables l.commands l.generation l.units;
  followed : AreFollowed (applied l.fn.generation l.fn.units) l.tables l.commands l.most l.orders l.outcomes.items (drop l.node-index l.layer ++ l.next.items);
}
