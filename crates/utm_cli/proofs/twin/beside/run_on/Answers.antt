use Rattle.std.proofs.Common.{rules}
use Rattle.utm_cli.proofs.twin.beside.OneHalf.{ends_at}
use Rattle.utm_cli.proofs.twin.beside.run_on.Goals as goal

pub returns-clause-ends : goal.returns-clause-ends
returns-clause-ends g c = ends_at g.T.Twin.both g.T.Twin.leaves g.O.HalfOrigin.half c.new-device.result c.run-status.new.device c.args.twin c.into_twin.result (search rules) (search rules) _ _ _ c.run-status.ensures
