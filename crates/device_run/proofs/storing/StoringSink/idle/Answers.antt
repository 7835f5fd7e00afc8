use Rattle.std.proofs.Common.{◌∷◌}
use Rattle.device_run.proofs.Idle.{took_idle}
use Rattle.device_run.proofs.storing.StoringSink.idle.Goals as goal

pub returns-clause-took : goal.returns-clause-took
returns-clause-took g c = (
  c.requires.ready.0,
  took_idle g.K.Keeper.stands g.K.Reopens.commit_most g.K.Keeper.fine g.met.K.Keeper.fine_goes c.args.self.now.fingerprint.now (c.args.self.now.keeper.ghost_name ∷ g.K.Keeper.place c.args.self.now.keeper.now) c.args.core c.idle.result c.args.most (g.K.Keeper.identity c.args.self.now.keeper.now) (g.K.Keeper.kept c.args.self.now.keeper.now) (g.K.Keeper.file c.args.self.now.keeper.now) (g.K.Keeper.state c.args.self.now.keeper.now) (g.K.Keeper.leaves c.args.self.now.keeper.now) c.args.self.now.commits
      c.requires.ready.1 c.idle.ensures.rested c.idle.ensures.facts,
)
