use Rattle.script_read.proofs.Spelled.{commands_said, commands_only, outside_told, outside_only}
use Rattle.script_read.proofs.Passed.{passed_said, passed_only}
use Rattle.script_read.proofs.laws.commands_are_said.Goals as goal

pub returns : goal.returns
returns c = record { commands = commands_said; commands_only = commands_only; ranges = outside_told; ranges_only = outside_only; passed = passed_said; passed_only = passed_only }
