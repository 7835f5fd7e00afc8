use Rattle.std.proofs.Common.{ℕ, List, ◌≤◌, length}
use Rattle.abstract_monitor.specs.Commands.{started}
use Rattle.laws_of_runs.specs.Applied.{applied}
use Rattle.lab_orders.specs.Finding.{CanStart}
use Rattle.lab_walks.specs.Frames.{IsAhead}
use Rattle.lab_walks.specs.Frames.{IsWay}
use Rattle.lab_walks.specs.Walks.{IsWalk}
use Rattle.lab_orders.proofs.search.descend.Given as goal

abbrev pub invariant-loop-deeper : goal.invariant-loop-deeper
invariant-loop-deeper l = record {
  can : CanStart (applied l.fn.generation l.fn.units) l.tables l.commands l.generation l.units;
  way : IsWay (applied l.fn.generation l.fn.units) l.commands (started (applied l.fn.generation l.fn.units) l.tables) l.frames.items;
  kept : (w : List ℕ) → IsWalk (applied l.fn.generation l.fn.units) l.commands (started (applied l.fn.generation l.fn.units) l.tables) w → IsAhead l.fn.frames.items w → IsAhead l.frames.items w;
  only : (w : List ℕ) → IsAhead l.frames.items w → IsAhead l.fn.frames.items w;
  long : l._deeper ≤ length l.frames.items;
}
