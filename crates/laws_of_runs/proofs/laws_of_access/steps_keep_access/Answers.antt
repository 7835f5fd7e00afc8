use Rattle.laws_of_runs.proofs.laws_of_access.Commands.{turns_keep_access, commands_keep_access}
use Rattle.laws_of_runs.proofs.laws_of_access.steps_keep_access.Goals as goal

pub returns : goal.returns
returns c = record { turns = turns_keep_access; commands = commands_keep_access }
