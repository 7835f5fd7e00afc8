use Rattle.std.proofs.Common.{◌∙◌}
use Rattle.abstract_monitor.specs.Commands.{command_of}
use Rattle.lab_turns.specs.Heard.{Done}
use Rattle.lab_turns.specs.RunningLaws.{watched_step}
use Rattle.lab_turns.proofs.watching.WatchSink.apply.Goals as goal

pub returns-clause-took : goal.returns-clause-took
returns-clause-took g c =
    let exact = c.in_ok-next.ensures.exact in
    watched_step g.L.Listener.hears c.args.core (command_of c.args.core.application c.args.core.state c.args.command.now) _ _ c.in_ok-next.next _ _ _ _ c.requires.ready.application c.in_ok-next.ensures.facts c.in_ok-next.ensures.durable
    c.in_ok-next.ensures.one.application exact.state (Done c.in_ok-next.next.state c.as_slice.result.now) (exact.state, c.as_slice.ensures ∙ exact.acts) c.in_ok-done.ensures c.in_ok-steps.ensures
