use Rattle.std.proofs.Common.{ap}
use Rattle.abstract_monitor.specs.Commands.{asynchronous_rows}
use Rattle.abstract_monitor.specs.State.{State}
use Rattle.monitor_core.proofs.Opening.{fresh_there, started_there}
use Rattle.monitor_core.proofs.start.parts_of.Goals as goal

pub open_services-requires-clause-fresh : goal.open_services-requires-clause-fresh
open_services-requires-clause-fresh c =
    rw (c.deref_mut.ensures.value, c.in_ok-parts.ensures.ok) (fresh_there c.idle-resting.result c.args.generation c.args.tables (asynchronous_rows c.idle-resting.result.tables) c.idle-resting.ensures.state (ap (λ (s : State). asynchronous_rows s.tables) c.idle-resting.ensures.state) c.clock-clock.ensures.sorted)

pub returns-clause-state : goal.returns-clause-state
returns-clause-state c =
    started_there c.idle-resting.result c.open_services.new.parts c.args.generation c.args.tables (asynchronous_rows c.idle-resting.result.tables) (rw (c.deref_mut.ensures.value, c.in_ok-parts.ensures.ok) at c.in_ok-open_services.ensures.same) c.idle-resting.ensures.generation c.idle-resting.ensures.state
    (ap (λ (s : State). asynchronous_rows s.tables) c.idle-resting.ensures.state) c.clock-clock.ensures.sorted (rw (c.deref_mut.ensures.value, c.in_ok-parts.ensures.ok) at c.in_ok-open_services.ensures.state)
