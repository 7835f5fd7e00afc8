use Rattle.std.proofs.Common.{ℕ, ◌<◌, [], ◌∷◌, ◌++◌}
use Rattle.abstract_monitor.specs.Commands.{started}
use Rattle.laws_of_runs.specs.Applied.{applied}
use Rattle.lab_orders.specs.Finding.{CanStart}
use Rattle.lab_orders.specs.Standing.{AreInPlace, IsFollowed, chosen}
use Rattle.lab_orders.proofs.standing.put_choices.Given as goal

abbrev pub invariant-loop-at : goal.invariant-loop-at
invariant-loop-at l = record {
  can : CanStart (applied l.fn.generation l.fn.units) l.tables l.commands l.generation l.units;
  place : AreInPlace (applied l.fn.generation l.fn.units) l.tables l.commands l.fn.nodes.items l.nodes.items;
  each : (k : ℕ) → k < l.at → IsFollowed (applied l.fn.generation l.fn.units) l.commands (started (applied l.fn.generation l.fn.units) l.tables) l.nodes.items (l.frames ++ chosen l.last k ∷ []);
}
