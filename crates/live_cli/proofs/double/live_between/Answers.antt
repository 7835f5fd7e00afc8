use Rattle.std.proofs.Common.{rules}
use Rattle.kdcfile_double.specs.Twice.{identity_of}
use Rattle.twin_run.proofs.Lent.{fails_lent, fine_lent, frame_lent}
use Rattle.live_cli.proofs.OverTwo.{lived_lent}
use Rattle.live_cli.proofs.double.live_between.Goals as goal

pub returns-clause-frame : goal.returns-clause-frame
returns-clause-frame g c =
    frame_lent g.T.Twin.both g.T.Twin.leaves c.args.twin.now c.live_on-twin.ensures.frame _ (search rules)

pub returns-clause-lived : goal.returns-clause-lived
returns-clause-lived g c =
    λ told. lived_lent g.T.Twin.both g.T.Twin.leaves c.args.twin.now (identity_of c.args.store) c.args.store c.args.core (g.I.Typing.typing c.args.typing.now) c.live_on-twin.result.1 (c.live_on-twin.ensures.lived told) _ (search rules)

pub returns-clause-failed : goal.returns-clause-failed
returns-clause-failed g c =
    λ is. fails_lent g.T.Twin.both g.T.Twin.leaves c.args.twin.now c.args.store (c.live_on-twin.ensures.failed is) _ (search rules)

pub returns-clause-fine : goal.returns-clause-fine
returns-clause-fine g c =
    λ none. fine_lent g.T.Twin.both g.T.Twin.leaves c.args.twin.now c.args.store (c.live_on-twin.ensures.fine none) _ (search rules)
