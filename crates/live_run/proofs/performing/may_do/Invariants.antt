use Rattle.std.proofs.Common.{◌≡◌, ◌+◌, ◌^◌, take}
use Rattle.std.specs.Prelude.{sum_by}
use Rattle.monitor_core.specs.CoreSteps.{turns_of}
use Rattle.live_run.proofs.performing.may_do.Given as goal

abbrev pub invariant-loop-command : goal.invariant-loop-command
invariant-loop-command l = l.steps + sum_by turns_of (take l.command-index l.commands) + l.left ≡ 10 ^ 18
