use Rattle.laws_of_runs.proofs.laws_of_jobs.Queues.{turns_keep_queues, commands_keep_queues}
use Rattle.laws_of_runs.proofs.laws_of_jobs.commits_keep_queues.Goals as goal

pub returns : goal.returns
returns c = record { turns = turns_keep_queues c.makers_say_what_commits_do.ensures.turns; commands = commands_keep_queues c.makers_say_what_commits_do.ensures.commands }
