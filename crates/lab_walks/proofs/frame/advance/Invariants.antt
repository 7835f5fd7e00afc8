use Rattle.std.proofs.Common.{ℕ, List, length}
use Rattle.abstract_monitor.specs.declared.command.Command.{Command}
use Rattle.abstract_monitor.specs.State.{Application, State}
use Rattle.lab_walks.specs.Frames.{IsLeft}
use Rattle.lab_walks.specs.Frames.{IsWay}
use Rattle.lab_walks.proofs.frame.advance.Given as goal

abbrev pub invariant-loop-frame : goal.invariant-loop-frame
invariant-loop-frame l = record {
  left : (w : List ℕ) → IsLeft l.fn.frames.items w → IsLeft l.frames.items w;
  only : (w : List ℕ) → IsLeft l.frames.items w → IsLeft l.fn.frames.items w;
  way : (app : Application) (cs : List Command) (s : State) → IsWay app cs s l.fn.frames.items → IsWay app cs s l.frames.items;
}

abbrev pub decreases-loop-frame : goal.decreases-loop-frame
decreases-loop-frame l = length l.frames.items
