use Rattle.device_run.specs.StoringLaws.{took_nothing}
use Rattle.device_run.proofs.storing.StoringSink.over.Goals as goal

pub returns-clause-took : goal.returns-clause-took
returns-clause-took g c = (c.requires.ready.0, took_nothing g.K.Keeper.stands g.K.Reopens.commit_most g.K.Keeper.fine g.met.K.Keeper.fine_goes _ _ _ _ _ _ _ _ _ c.requires.ready.1)
