use Rattle.audit_trail.specs.TrailLaws.{trails_come_back}
use Rattle.audit_trail.proofs.laws.trails_come_back.Goals as goal

pub returns : goal.returns
returns c = trails_come_back
