use Rattle.laws_of_runs.proofs.laws_of_jobs.Doings.{turns_do_so, commands_do_so}
use Rattle.laws_of_runs.proofs.laws_of_jobs.makers_say_what_commits_do.Goals as goal

pub returns : goal.returns
returns c = record { turns = turns_do_so; commands = commands_do_so }
