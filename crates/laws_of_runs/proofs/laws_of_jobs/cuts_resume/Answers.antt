use Rattle.laws_of_runs.proofs.laws_of_jobs.Cuts.{cuts_resume}
use Rattle.laws_of_runs.proofs.laws_of_jobs.cuts_resume.Goals as goal

pub returns : goal.returns
returns c = cuts_resume c.steps_commit_once.ensures.tables c.commits_make_the_tables.ensures.once c.facts_hold_along_every_script.ensures.starts c.facts_hold_along_every_script.ensures.steps c.services_resume.ensures.starts c.services_resume.ensures.sign_ons
