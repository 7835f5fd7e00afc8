use Rattle.std.proofs.Common.{inl, refl}
use Rattle.typed_lines.specs.Commands.{commands_in}
use Rattle.live_run.specs.Performing.{session_at}
use Rattle.live_run.specs.Sessions.{acts_said, state_said}
use Rattle.live_run.proofs.Acting.{rows_rest, took_memory}
use Rattle.live_run.proofs.performing.do_script_line.Goals as goal

pub returns-in-Err-Memory-clause-took : goal.returns-in-Err-Memory-clause-took
returns-in-Err-Memory-clause-took g c =
    let session = session_at c.args.core c.args.auto c.args.number in
    let said = commands_in c.args.core.application.generation c.args.auto c.args.line.now in
    took_memory g.K.Keeper.stands g.K.Reopens.commit_most g.K.Keeper.fine c.args.fingerprint.now c.args.core g.met.K.Keeper.fine_goes (acts_said c.args.core.application session said) (state_said c.args.core.application session said) (g.K.Keeper.identity c.args.keeper.now) (g.K.Keeper.kept c.args.keeper.now) (g.K.Keeper.file c.args.keeper.now) (g.K.Keeper.state c.args.keeper.now) (g.K.Keeper.leaves c.args.keeper.now)
    (rows_rest g.K.Keeper.stands g.K.Reopens.commit_most g.K.Keeper.fine c.args.fingerprint.now c.args.core (g.K.Keeper.identity c.args.keeper.now) (g.K.Keeper.kept c.args.keeper.now) (g.K.Keeper.file c.args.keeper.now) (g.K.Keeper.state c.args.keeper.now) (g.K.Keeper.leaves c.args.keeper.now) c.requires.running c.requires.kept (g.met.K.Keeper.file_stands c.args.keeper.now))

pub returns-in-Err-Memory-clause-restart : goal.returns-in-Err-Memory-clause-restart
returns-in-Err-Memory-clause-restart g c = λ told is. inl refl
