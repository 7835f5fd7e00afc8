use Rattle.laws_of_runs.proofs.laws_of_jobs.ManyRuns.{all_runs_keep_jobs}
use Rattle.laws_of_runs.proofs.laws_of_jobs.runs_keep_jobs.Goals as goal

pub returns : goal.returns
returns c = all_runs_keep_jobs c.facts_hold_along_every_script.ensures.starts c.cuts_resume.ensures c.jobs_are_done_once.ensures
