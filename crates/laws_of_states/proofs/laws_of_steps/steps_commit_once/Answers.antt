use Rattle.laws_of_states.proofs.laws_of_steps.Commits.{turns_commit_once, commands_commit_once, steps_make_their_tables}
use Rattle.laws_of_states.proofs.laws_of_steps.steps_commit_once.Goals as goal

pub returns : goal.returns
returns c = record { turns = turns_commit_once; commands = commands_commit_once; tables = steps_make_their_tables }
