use Rattle.call_parts.specs.Asking.{gen_errand}
use Rattle.live_cli.proofs.Begun.{core_runs, from_over, none_from}
use Rattle.live_cli.proofs.file.live_from.Goals as goal

pub live_over_store-requires-clause-running : goal.live_over_store-requires-clause-running
live_over_store-requires-clause-running g c =
    let core = c.in_ok-core.ensures in
    core_runs (gen_errand c.args.work) c.args.tables c.in_ok-core.core core.application core.state core.steps c.requires.suits core.application_is core.facts core.limits c.args.store c.requires.tables

pub returns-clause-lived : goal.returns-clause-lived
returns-clause-lived g c = λ told.
    let core = c.in_ok-core.ensures in
    from_over (gen_errand c.args.work) c.args.tables c.in_ok-core.core core.application core.state core.steps c.requires.suits (g.I.Typing.typing c.args.typing.now) (g.D.Device.state c.args.device.now) (g.D.Device.state c.live_over_store.new.device) (g.D.Device.leaves c.args.device.now) (g.D.Device.leaves c.live_over_store.new.device) c.live_over_store.result (c.live_over_store.ensures.lived told)

pub returns-in_err-core-clause-lived : goal.returns-in_err-core-clause-lived
returns-in_err-core-clause-lived g c = λ told.
    none_from (gen_errand c.args.work) c.args.tables c.requires.suits c.args.store c.requires.tables (g.I.Typing.typing c.args.typing.now) (g.D.Device.state c.args.device.now) (g.D.Device.leaves c.args.device.now) (c.requires.kept told) c.from_residual.result c.from_residual.ensures.1
