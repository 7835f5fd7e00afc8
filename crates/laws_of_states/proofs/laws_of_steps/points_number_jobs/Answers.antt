use Rattle.laws_of_states.specs.JobLaws.{points_number, ends_draw_none}
use Rattle.laws_of_states.proofs.laws_of_steps.points_number_jobs.Goals as goal

pub returns : goal.returns
returns c = record { points = points_number; ends = ends_draw_none }
