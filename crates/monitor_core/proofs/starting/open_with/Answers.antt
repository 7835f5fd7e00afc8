use Rattle.service_ends.specs.Standing.{state_of}
use Rattle.monitor_core.proofs.Starts.{opened_there}
use Rattle.monitor_core.proofs.starting.open_with.Goals as goal

pub make_ready-requires-clause-is_open : goal.make_ready-requires-clause-is_open
make_ready-requires-clause-is_open c = opened_there (state_of c.args.parts.now) (state_of c.open.new.self) c.args.id.now _ c.in_ok-open.ensures.state
