use Rattle.std.proofs.Common.{rules}
use Rattle.live_cli.proofs.Halved.{ends_at}
use Rattle.live_cli.proofs.half.live_on.Goals as goal

pub returns-clause-ends : goal.returns-clause-ends
returns-clause-ends g c = ends_at g.T.Twin.both g.T.Twin.leaves g.O.HalfOrigin.half c.new-device.result c.live_over-status.new.device c.args.twin c.into_twin.result (search rules) (search rules) _ _ _ _ _ c.live_over-status.ensures
