use Rattle.std.proofs.Common.{sym, subst}
use Rattle.std.specs.Prelude.{Ok}
use Rattle.typed_lines.specs.declared.typed.Switch.{Switch}
use Rattle.live_run.proofs.Acting.{took_no_acts}
use Rattle.live_run.specs.Performing.{TookActs}
use Rattle.live_run.specs.Sessions.{acts_set}
use Rattle.live_run.proofs.performing.set.Goals as goal

pub returns-in-Auto-clause-took : goal.returns-in-Auto-clause-took
returns-in-Auto-clause-took g c =
    subst (λ (s : Switch). TookActs g.K.Keeper.stands g.K.Reopens.commit_most g.K.Keeper.fine c.args.fingerprint.now c.args.core (acts_set c.args.number s) c.args.core.state (g.K.Keeper.identity c.args.keeper.now) (g.K.Keeper.kept c.args.keeper.now) (g.K.Keeper.file c.args.keeper.now) (g.K.Keeper.state c.args.keeper.now) (g.K.Keeper.state c.args.keeper.now) (g.K.Keeper.leaves c.args.keeper.now) (g.K.Keeper.leaves c.args.keeper.now) (Ok c.args.core)) (sym c.in-Auto.is)
    (took_no_acts g.K.Keeper.stands g.K.Reopens.commit_most g.K.Keeper.fine c.args.fingerprint.now c.args.core g.met.K.Keeper.fine_goes (g.K.Keeper.identity c.args.keeper.now) (g.K.Keeper.kept c.args.keeper.now) (g.K.Keeper.file c.args.keeper.now) (g.K.Keeper.state c.args.keeper.now) (g.K.Keeper.leaves c.args.keeper.now) c.requires.running c.requires.kept (g.met.K.Keeper.file_stands c.args.keeper.now))

pub returns-in-Trace-clause-took : goal.returns-in-Trace-clause-took
returns-in-Trace-clause-took g c =
    subst (λ (s : Switch). TookActs g.K.Keeper.stands g.K.Reopens.commit_most g.K.Keeper.fine c.args.fingerprint.now c.args.core (acts_set c.args.number s) c.args.core.state (g.K.Keeper.identity c.refuse.new.keeper) (g.K.Keeper.kept c.refuse.new.keeper) (g.K.Keeper.file c.refuse.new.keeper) (g.K.Keeper.state c.args.keeper.now) (g.K.Keeper.state c.refuse.new.keeper) (g.K.Keeper.leaves c.args.keeper.now) (g.K.Keeper.leaves c.refuse.new.keeper) c.refuse.result) (sym c.in-Trace.is) c.refuse.ensures.took
