use Rattle.std.proofs.Common.{◌≡◌, ◌≤◌, ◌+◌, ◌^◌, drop}
use Rattle.std.specs.Prelude.{sum_by}
use Rattle.lab_orders.specs.Walking.{tries_of}
use Rattle.lab_cli.proofs.exploring.can_be_counted.Given as goal

abbrev pub invariant-loop-command : goal.invariant-loop-command
invariant-loop-command l = record {
  few : l.sum ≤ 10 ^ 14;
  sum : l.sum + sum_by tries_of (drop l.command-index l.commands) ≡ sum_by tries_of l.commands;
}
