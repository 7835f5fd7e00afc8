use Rattle.std.proofs.Common.{rules}
use Rattle.kdcfile_double.specs.Twice.{identity_of}
use Rattle.abstract_monitor.specs.Commands.{acts_of}
use Rattle.abstract_monitor.specs.Trace.{history}
use Rattle.monitor_core.specs.CoreSteps.{durable_of}
use Rattle.twin_run.proofs.Lent.{did_lent, fails_lent, fine_lent, part_lent}
use Rattle.twin_run.proofs.running.run_between.Goals as goal

pub returns-clause-any : goal.returns-clause-any
returns-clause-any g c = part_lent g.T.Twin.both g.T.Twin.leaves c.args.twin.now c.run_on-twin.ensures.any _ (search rules)

pub returns-clause-done : goal.returns-clause-done
returns-clause-done g c = did_lent g.T.Twin.both g.T.Twin.leaves c.args.twin.now c.args.store (identity_of c.args.store) (acts_of (history c.args.core.application c.args.core.state c.args.commands.now)) c.run_on-twin.result.1 (durable_of c.args.core) c.run_on-twin.ensures.done _ (search rules)

pub returns-clause-failed : goal.returns-clause-failed
returns-clause-failed g c = λ is. fails_lent g.T.Twin.both g.T.Twin.leaves c.args.twin.now c.args.store (c.run_on-twin.ensures.failed is) _ (search rules)

pub returns-clause-fine : goal.returns-clause-fine
returns-clause-fine g c = λ none. fine_lent g.T.Twin.both g.T.Twin.leaves c.args.twin.now c.args.store (c.run_on-twin.ensures.fine none) _ (search rules)
