use Rattle.laws_of_runs.specs.AlongLaws.{meets_along}
use Rattle.laws_of_runs.specs.QueueLaws.{KeepsQueues, SendsAtPoints}
use Rattle.laws_of_runs.proofs.laws_of_jobs.Sent.{sends_each}
use Rattle.laws_of_runs.proofs.laws_of_jobs.runs_keep_queues.Goals as goal

pub returns : goal.returns
returns c =
    let keeps = c.facts_hold_along.ensures.steps c.states_stay_sound.ensures in
    record {
      laws = meets_along KeepsQueues keeps (record { turns = c.commits_keep_queues.ensures.turns; commands = c.commits_keep_queues.ensures.commands });
      messages = meets_along SendsAtPoints keeps (sends_each c.makers_say_what_commits_do.ensures.turns c.makers_say_what_commits_do.ensures.commands);
    }
