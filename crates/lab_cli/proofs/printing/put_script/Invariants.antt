use Rattle.std.proofs.Common.{◌≡◌, ◌++◌, take}
use Rattle.std.specs.Prelude.{flat_map}
use Rattle.lab_cli.specs.ExploredText.{command_below}
use Rattle.lab_cli.proofs.printing.put_script.Given as goal

abbrev pub invariant-loop-command : goal.invariant-loop-command
invariant-loop-command l = l.out ≡ l.initial.out ++ flat_map command_below (take l.command-index l.commands)
