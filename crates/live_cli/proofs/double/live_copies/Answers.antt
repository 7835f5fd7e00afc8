use Rattle.kdcfile_double.specs.CommitTwoLaws.{fine_still}
use Rattle.call_parts.specs.Asking.{gen_errand}
use Rattle.call_parts.specs.Opening.{identity_of_two}
use Rattle.call_ends.specs.OpenedLaws.{copies_made_for}
use Rattle.live_cli.specs.Living.{begun}
use Rattle.live_cli.proofs.OpenedTwo.{copies_run, lived_begun, none_lived}
use Rattle.live_cli.proofs.double.live_copies.Goals as goal

pub live_twice-requires-clause-running : goal.live_twice-requires-clause-running
live_twice-requires-clause-running g c =
    let core = c.in_ok-core.ensures in copies_run (gen_errand c.args.work) c.args.tables c.in_ok-core.core core.application core.state core.steps c.requires.suits core.application_is core.facts core.limits c.args.store c.requires.tables

pub live_twice-requires-clause-identity : goal.live_twice-requires-clause-identity
live_twice-requires-clause-identity g c =
    copies_made_for (gen_errand c.args.work) c.args.store c.args.tables c.requires.tables c.limits_of-limits.result c.limits_of-limits.ensures.limits

pub returns-clause-lived : goal.returns-clause-lived
returns-clause-lived g c =
    λ told. let core = c.in_ok-core.ensures in lived_begun (gen_errand c.args.work) c.args.tables c.in_ok-core.core core.application core.state core.steps c.requires.suits c.args.store c.requires.tables (g.I.Typing.typing c.args.typing.now) (g.T.Twin.both c.args.twin.now) (g.T.Twin.both c.live_twice.new.twin) (g.T.Twin.leaves c.args.twin.now) (g.T.Twin.leaves c.live_twice.new.twin) c.live_twice.result (c.live_twice.ensures.lived told)

pub returns-in_err-core-clause-lived : goal.returns-in_err-core-clause-lived
returns-in_err-core-clause-lived g c =
    λ told. none_lived (identity_of_two (gen_errand c.args.work)) c.args.store (begun (gen_errand c.args.work) c.args.tables) (g.I.Typing.typing c.args.typing.now) (g.T.Twin.both c.args.twin.now) (g.T.Twin.leaves c.args.twin.now) c.from_residual.result _ c.from_residual.ensures.1

pub returns-in_err-core-clause-fine : goal.returns-in_err-core-clause-fine
returns-in_err-core-clause-fine g c =
    λ none. fine_still c.args.store (g.T.Twin.both c.args.twin.now) c.requires.is_open
