use Rattle.service_ends.proofs.Ended.{opened_open}
use Rattle.service_ends.proofs.row.go_on.Goals as goal

pub make_ready-requires-clause-is_open : goal.make_ready-requires-clause-is_open
make_ready-requires-clause-is_open c = opened_open c.args.parts.now c.open.new.self c.args.id.now _ c.in_ok-open.ensures.state
