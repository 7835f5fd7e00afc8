use Rattle.laws_of_states.specs.NumbersLaws.{closed_not_placed, free_not_placed, job_has_no_row, open_drawn}
use Rattle.laws_of_states.proofs.laws_of_commits.open_services_and_jobs.Goals as goal

pub returns : goal.returns
returns c = record { drawn = open_drawn; closed = closed_not_placed; free = free_not_placed; no_row = job_has_no_row }
