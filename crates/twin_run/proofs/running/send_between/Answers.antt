use Rattle.std.proofs.Common.{rules}
use Rattle.kdcfile_double.specs.Twice.{identity_of}
use Rattle.twin_run.proofs.Lent.{fails_lent, fine_lent, frame_lent, lines_lent, part_lent}
use Rattle.twin_run.proofs.running.send_between.Goals as goal

pub returns-clause-frame : goal.returns-clause-frame
returns-clause-frame g c = frame_lent g.T.Twin.both g.T.Twin.leaves c.args.twin.now c.send_on-twin.ensures.frame _ (search rules)

pub returns-clause-any : goal.returns-clause-any
returns-clause-any g c = λ t keeps. part_lent g.T.Twin.both g.T.Twin.leaves c.args.twin.now (c.send_on-twin.ensures.any t keeps) _ (search rules)

pub returns-clause-done : goal.returns-clause-done
returns-clause-done g c = lines_lent g.T.Twin.both g.T.Twin.leaves c.args.twin.now c.args.store (identity_of c.args.store) c.args.acts.now c.send_on-twin.result.1 c.send_on-twin.ensures.done _ (search rules)

pub returns-clause-failed : goal.returns-clause-failed
returns-clause-failed g c = λ is. fails_lent g.T.Twin.both g.T.Twin.leaves c.args.twin.now c.args.store (c.send_on-twin.ensures.failed is) _ (search rules)

pub returns-clause-fine : goal.returns-clause-fine
returns-clause-fine g c = λ none. fine_lent g.T.Twin.both g.T.Twin.leaves c.args.twin.now c.args.store (c.send_on-twin.ensures.fine none) _ (search rules)
