use Rattle.laws_of_states.specs.ShownEndsLaws.{end_made, point_made}
use Rattle.laws_of_states.proofs.laws_of_commits.points_and_ends_make_tables.Goals as goal

pub returns : goal.returns
returns c = record { points = point_made; ends = end_made }
