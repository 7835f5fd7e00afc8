use Rattle.laws_of_runs.proofs.laws_of_jobs.Numbers.{numbers_are_drawn_once, jobs_stay_over}
use Rattle.laws_of_runs.proofs.laws_of_jobs.Kept.{no_job_is_lost}
use Rattle.laws_of_runs.proofs.laws_of_jobs.jobs_are_done_once.Goals as goal

pub returns : goal.returns
returns c = λ app s script application names facts first more rest whole.
    let keeps = c.facts_hold_along.ensures.steps c.states_stay_sound.ensures in
    let once = c.steps_commit_once.ensures in
    let queues = c.commits_keep_queues.ensures in
    record {
      numbers = numbers_are_drawn_once keeps once.turns once.commands queues.turns queues.commands app s script application names facts first more rest whole;
      lost = no_job_is_lost keeps once.turns once.commands queues.turns queues.commands app s script application names facts first more rest whole;
      doubled = jobs_stay_over keeps once.turns once.commands queues.turns queues.commands app s script application names facts first more rest whole;
    }
