use Rattle.std.proofs.Common.{inl, refl}
use Rattle.kd_device.specs.TimeLaws.{told_after}
use Rattle.abstract_monitor.specs.Commands.{acts_of, state_after}
use Rattle.abstract_monitor.specs.Trace.{history}
use Rattle.live_run.proofs.Acting.{commands_failed, restart_idle, restart_stopped, rows_rest, took_commands, took_handed, took_memory, took_spent}
use Rattle.live_run.proofs.performing.perform.Goals as goal

pub returns-then-not-may_do-clause-took : goal.returns-then-not-may_do-clause-took
returns-then-not-may_do-clause-took g c = took_spent g.K.Keeper.stands g.K.Reopens.commit_most g.K.Keeper.fine c.args.fingerprint.now c.args.core g.met.K.Keeper.fine_goes (acts_of (history c.args.core.application c.args.core.state c.args.commands.now)) (state_after c.args.core.state (history c.args.core.application c.args.core.state c.args.commands.now)) (g.K.Keeper.identity c.args.keeper.now) (g.K.Keeper.kept c.args.keeper.now) (g.K.Keeper.file c.args.keeper.now) (g.K.Keeper.state c.args.keeper.now) (g.K.Keeper.leaves c.args.keeper.now) (rows_rest g.K.Keeper.stands g.K.Reopens.commit_most g.K.Keeper.fine c.args.fingerprint.now c.args.core (g.K.Keeper.identity c.args.keeper.now) (g.K.Keeper.kept c.args.keeper.now) (g.K.Keeper.file c.args.keeper.now) (g.K.Keeper.state c.args.keeper.now) (g.K.Keeper.leaves c.args.keeper.now) c.requires.running c.requires.kept (g.met.K.Keeper.file_stands c.args.keeper.now))

pub returns-in_err-prepare-clause-took : goal.returns-in_err-prepare-clause-took
returns-in_err-prepare-clause-took g c = took_handed c.from_residual.result _ c.from_residual.ensures.1 (took_memory g.K.Keeper.stands g.K.Reopens.commit_most g.K.Keeper.fine c.args.fingerprint.now c.args.core g.met.K.Keeper.fine_goes (acts_of (history c.args.core.application c.args.core.state c.args.commands.now)) (state_after c.args.core.state (history c.args.core.application c.args.core.state c.args.commands.now)) (g.K.Keeper.identity c.args.keeper.now) (g.K.Keeper.kept c.args.keeper.now) (g.K.Keeper.file c.args.keeper.now) (g.K.Keeper.state c.args.keeper.now) (g.K.Keeper.leaves c.args.keeper.now) (rows_rest g.K.Keeper.stands g.K.Reopens.commit_most g.K.Keeper.fine c.args.fingerprint.now c.args.core (g.K.Keeper.identity c.args.keeper.now) (g.K.Keeper.kept c.args.keeper.now) (g.K.Keeper.file c.args.keeper.now) (g.K.Keeper.state c.args.keeper.now) (g.K.Keeper.leaves c.args.keeper.now) c.requires.running c.requires.kept (g.met.K.Keeper.file_stands c.args.keeper.now)))

pub returns-in_err-next-clause-took : goal.returns-in_err-next-clause-took
returns-in_err-next-clause-took g c =
    took_handed c.from_residual-in_err-next.result _ c.from_residual-in_err-next.ensures.1
    (commands_failed g.K.Keeper.stands g.K.Reopens.commit_most g.K.Keeper.fine c.args.fingerprint.now c.args.core (history c.args.core.application c.args.core.state c.args.commands.now) (g.K.Keeper.identity c.run_on.new.keeper) (g.K.Keeper.kept c.run_on.new.keeper) (g.K.Keeper.file c.run_on.new.keeper) (g.K.Keeper.state c.args.keeper.now) (g.K.Keeper.state c.run_on.new.keeper) (g.K.Keeper.leaves c.args.keeper.now) (g.K.Keeper.leaves c.run_on.new.keeper) c.run_on.ensures.any c.run_on.ensures.put
    c.in_err-next.field-0.0 c.in_err-next.ensures.fine c.in_err-next.ensures.failed c.in_err-next.ensures.halted c.in_err-next.ensures.refused c.in_err-next.ensures.other)

pub returns-clause-took : goal.returns-clause-took
returns-clause-took g c =
    took_commands g.K.Keeper.stands g.K.Reopens.commit_most g.K.Keeper.fine c.args.fingerprint.now c.args.core (history c.args.core.application c.args.core.state c.args.commands.now) (g.K.Keeper.identity c.run_on.new.keeper) (g.K.Keeper.kept c.run_on.new.keeper) (g.K.Keeper.file c.run_on.new.keeper) (g.K.Keeper.state c.args.keeper.now) (g.K.Keeper.state c.run_on.new.keeper) (g.K.Keeper.leaves c.args.keeper.now) (g.K.Keeper.leaves c.run_on.new.keeper) c.run_on.ensures.any c.run_on.ensures.put c.in_ok-next.next c.in_ok-next.ensures.did

-- ---- a RESTART

pub returns-then-not-may_do-clause-restart : goal.returns-then-not-may_do-clause-restart
returns-then-not-may_do-clause-restart g c = λ told is. inl refl

pub returns-in_err-prepare-clause-restart : goal.returns-in_err-prepare-clause-restart
returns-in_err-prepare-clause-restart g c = restart_idle c.args.commands.now (g.K.Keeper.state c.args.keeper.now) c.from_residual.result

pub returns-in_err-next-clause-restart : goal.returns-in_err-next-clause-restart
returns-in_err-next-clause-restart g c =
    restart_stopped g.K.Keeper.stands c.args.fingerprint.now c.args.core c.args.commands.now c.run_on.new.done (g.K.Keeper.state c.args.keeper.now) (g.K.Keeper.state c.run_on.new.keeper) (g.K.Keeper.leaves c.run_on.new.keeper) c.in_err-next.ensures.stopped
    (λ told. g.met.K.Keeper.left_now c.run_on.new.keeper (told_after (g.K.Keeper.state c.args.keeper.now) (g.K.Keeper.state c.run_on.new.keeper) c.run_on.ensures.any.frame told)) c.from_residual-in_err-next.result
