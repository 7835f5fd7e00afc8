use Rattle.sync_points.specs.MadeLaws.{ends_change, points_change}
use Rattle.sync_points.proofs.points_change_what_was_written.Goals as goal

pub returns-clause-points : goal.returns-clause-points
returns-clause-points c = points_change

pub returns-clause-ends : goal.returns-clause-ends
returns-clause-ends c = ends_change
