use Rattle.std.proofs.Common.{◌≡◌, ◌≤◌, ◌+◌, ◌^◌, take, drop}
use Rattle.std.specs.Prelude.{sum_by}
use Rattle.abstract_monitor.specs.Trace.{history}
use Rattle.monitor_core.specs.CoreSteps.{turns_of}
use Rattle.monitor_core.proofs.script_run.script.run_script.Given as goal

abbrev pub invariant-loop-command : goal.invariant-loop-command
invariant-loop-command g l = record {
  count : l.done ≡ l.command-index;
  steps : l.core.steps + sum_by turns_of (drop l.command-index l.commands) ≤ 10 ^ 18;
  took : g.S.Sink.took l.fn.sink l.fn.core (history l.fn.core.application l.fn.core.state (take l.command-index l.commands)) l.sink l.core;
}
