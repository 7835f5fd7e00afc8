use Rattle.trail_run.specs.RunningLaws.{kept_goes}
use Rattle.trail_run.proofs.steps.KeptSink.over.Goals as goal

pub returns-clause-took : goal.returns-clause-took
returns-clause-took c = (kept_goes {E = Unit {0}}).none _ _ c.requires.ready
