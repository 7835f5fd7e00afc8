use Rattle.std.specs.Prelude.{◌-◌, ◌≤◌, IsTrue}
use Rattle.monitor_core.specs.CoreSteps.{HasNoWork}
use Rattle.monitor_core.proofs.script_run.Rotating.{Rotation}
use Rattle.monitor_core.proofs.script_run.turns.run_turns.Given as goal

abbrev pub invariant-loop-done : goal.invariant-loop-done
invariant-loop-done g l = Rotation g.S.Sink.took l.fn.sink l.fn.core l.turns l.sink l.core l.done l.task l.unmoved × (IsTrue l.idle → HasNoWork l.core.application l.core.state) × (l.done ≤ l.turns)

abbrev pub decreases-loop-done : goal.decreases-loop-done
decreases-loop-done g l = l.turns - l.done
