use Rattle.laws_of_runs.proofs.laws_of_jobs.Resuming.{starts_resume, sign_ons_resume}
use Rattle.laws_of_runs.proofs.laws_of_jobs.services_resume.Goals as goal

pub returns : goal.returns
returns c = record { starts = starts_resume; sign_ons = sign_ons_resume }
