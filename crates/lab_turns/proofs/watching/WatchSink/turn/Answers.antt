use Rattle.std.proofs.Common.{ap}
use Rattle.abstract_monitor.specs.Commands.{turned_step}
use Rattle.abstract_monitor.specs.Turns.{Turned, turn_of}
use Rattle.monitor_core.specs.KeepingLaws.{did_turn}
use Rattle.lab_turns.specs.Heard.{Turned as HeardTurn}
use Rattle.lab_turns.specs.RunningLaws.{watched_step}
use Rattle.lab_turns.proofs.watching.WatchSink.turn.Goals as goal

pub returns-clause-took : goal.returns-clause-took
returns-clause-took g c =
    let exact = c.in_ok-next.ensures.exact in
    let state = ap (λ (t : Turned). t.after) exact in
    let acts = ap (λ (t : Turned). t.acts) exact in
    watched_step g.L.Listener.hears c.args.core (turned_step (turn_of c.args.core.application c.args.core.state c.args.task)) _ _ c.in_ok-next.next _ _ _ _ c.requires.ready.application c.in_ok-next.ensures.facts c.in_ok-next.ensures.durable
    c.in_ok-next.ensures.one.application state (HeardTurn c.in_ok-tell.ensures.0 c.in_ok-next.next.state c.in_ok-next.did.acts) (state, acts) c.in_ok-tell.ensures.1 c.in_ok-steps.ensures

pub returns-clause-turned : goal.returns-clause-turned
returns-clause-turned g c = did_turn c.args.core c.args.task c.in_ok-next.next c.in_ok-next.did c.in_ok-next.ensures.exact c.in_ok-next.ensures.one
