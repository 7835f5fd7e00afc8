use Rattle.std.proofs.Common.{ap, sym, ◌∙◌}
use Rattle.abstract_monitor.specs.State.{Application}
use Rattle.monitor_core.specs.CoreSteps.{durable_of}
use Rattle.device_run.proofs.Restarting.{own_suited, reopening_rows, starts_again}
use Rattle.kd_base.specs.ToolsLaws.{error_same}
use Rattle.device_acts.specs.ErrorsLaws.{no_error, other_error}
use Rattle.device_run.proofs.storing.start_again.Goals as goal

pub returns-in_err-tables-clause-still : goal.returns-in_err-tables-clause-still
returns-in_err-tables-clause-still g c = λ told.
    reopening_rows c.args.fingerprint.now c.args.core (g.K.Keeper.identity c.args.keeper.now) (g.K.Keeper.kept c.args.keeper.now) c.requires.running g.K.Keeper.stands (g.K.Keeper.state c.args.keeper.now) (g.K.Keeper.state c.reopen.new.self) (g.K.Keeper.leaves c.args.keeper.now) (g.K.Keeper.leaves c.reopen.new.self)
    (c.reopen.ensures.still told (durable_of c.args.core) (own_suited c.args.fingerprint.now c.args.core (g.K.Keeper.identity c.args.keeper.now) (g.K.Keeper.kept c.args.keeper.now) c.requires.running c.into_application-generation.result.0 (ap (λ (x : Application). x.generation) c.into_application-generation.ensures.application)))

pub returns-clause-still : goal.returns-clause-still
returns-clause-still g c = λ told.
    reopening_rows c.args.fingerprint.now c.args.core (g.K.Keeper.identity c.args.keeper.now) (g.K.Keeper.kept c.args.keeper.now) c.requires.running g.K.Keeper.stands (g.K.Keeper.state c.args.keeper.now) (g.K.Keeper.state c.reopen.new.self) (g.K.Keeper.leaves c.args.keeper.now) (g.K.Keeper.leaves c.reopen.new.self)
    (c.reopen.ensures.still told (durable_of c.args.core) (own_suited c.args.fingerprint.now c.args.core (g.K.Keeper.identity c.args.keeper.now) (g.K.Keeper.kept c.args.keeper.now) c.requires.running c.into_application-generation.result.0 (ap (λ (x : Application). x.generation) c.into_application-generation.ensures.application)))

pub returns-in_err-tables-clause-failed : goal.returns-in_err-tables-clause-failed
returns-in_err-tables-clause-failed g c = λ is. c.in_err-tables.ensures.failed (error_same _ _ c.from_residual.result c.in_err-tables.field-0.0 _ c.from_residual.ensures.1 is)

pub returns-in_err-tables-clause-refused : goal.returns-in_err-tables-clause-refused
returns-in_err-tables-clause-refused g c = λ is told.
    c.in_err-tables.ensures.refused (error_same _ _ c.from_residual.result c.in_err-tables.field-0.0 _ c.from_residual.ensures.1 is) told (durable_of c.args.core) (own_suited c.args.fingerprint.now c.args.core (g.K.Keeper.identity c.args.keeper.now) (g.K.Keeper.kept c.args.keeper.now) c.requires.running c.into_application-generation.result.0 (ap (λ (x : Application). x.generation) c.into_application-generation.ensures.application))

pub returns-in_err-tables-clause-other : goal.returns-in_err-tables-clause-other
returns-in_err-tables-clause-other g c = λ stored is told.
    c.in_err-tables.ensures.other stored (error_same _ _ c.from_residual.result c.in_err-tables.field-0.0 _ c.from_residual.ensures.1 is) told (durable_of c.args.core) (own_suited c.args.fingerprint.now c.args.core (g.K.Keeper.identity c.args.keeper.now) (g.K.Keeper.kept c.args.keeper.now) c.requires.running c.into_application-generation.result.0 (ap (λ (x : Application). x.generation) c.into_application-generation.ensures.application))

pub start-requires-clause-fit : goal.start-requires-clause-fit
start-requires-clause-fit g c = c.into_application-generation.ensures.fit

pub start-requires-clause-suits : goal.start-requires-clause-suits
start-requires-clause-suits g c = c.in_ok-tables.ensures.tables.suits

pub returns-clause-again : goal.returns-clause-again
returns-clause-again g c =
    starts_again c.args.fingerprint.now c.args.core (g.K.Keeper.identity c.args.keeper.now) (g.K.Keeper.kept c.args.keeper.now) c.requires.running g.K.Keeper.fine c.into_application-generation.result.0 (ap (λ (x : Application). x.generation) c.into_application-generation.ensures.application) c.in_ok-tables.tables c.in_ok-start.field-0 (g.K.Keeper.identity c.reopen.new.self) (g.K.Keeper.kept c.reopen.new.self) (g.K.Keeper.file c.reopen.new.self) (g.K.Keeper.state c.args.keeper.now) (g.K.Keeper.state c.reopen.new.self) (g.K.Keeper.leaves c.reopen.new.self)
    c.in_ok-tables.ensures.tables (λ told. c.in_ok-tables.ensures.same told (durable_of c.args.core) (own_suited c.args.fingerprint.now c.args.core (g.K.Keeper.identity c.args.keeper.now) (g.K.Keeper.kept c.args.keeper.now) c.requires.running c.into_application-generation.result.0 (ap (λ (x : Application). x.generation) c.into_application-generation.ensures.application))) c.in_ok-tables.ensures.kept (c.in_ok-tables.ensures.fine (no_error _ _))
    (c.in_ok-start.ensures.application ∙ sym c.into_application-generation.ensures.application) c.in_ok-start.ensures.state c.in_ok-start.ensures.facts c.in_ok-start.ensures.steps

pub returns-in_err-tables-clause-fine : goal.returns-in_err-tables-clause-fine
returns-in_err-tables-clause-fine g c = λ none. c.in_err-tables.ensures.fine (other_error _ _ c.from_residual.result c.in_err-tables.field-0.0 _ c.from_residual.ensures.1 none)
