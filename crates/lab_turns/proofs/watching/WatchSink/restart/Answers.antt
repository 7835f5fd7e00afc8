use Rattle.std.proofs.Common.{◌∙◌}
use Rattle.abstract_monitor.specs.declared.command.Command.TheVariants.{Restart}
use Rattle.abstract_monitor.specs.Commands.{command_of}
use Rattle.lab_turns.specs.Heard.{Done}
use Rattle.lab_turns.specs.RunningLaws.{watched_step}
use Rattle.lab_turns.proofs.Restarting.{acts_again, state_again}
use Rattle.lab_turns.proofs.watching.WatchSink.restart.Goals as goal

pub returns-clause-took : goal.returns-clause-took
returns-clause-took g c =
    let state = c.in_ok-next.ensures.state ∙ state_again c.args.core in
    watched_step g.L.Listener.hears c.args.core (command_of c.args.core.application c.args.core.state Restart) _ _ c.in_ok-next.next _ _ _ _ c.requires.ready.application c.in_ok-next.ensures.facts c.in_ok-next.ensures.durable
    c.in_ok-next.ensures.application state (Done c.in_ok-next.next.state c.as_slice.result.now) (state, c.as_slice.ensures ∙ c.in_ok-acts.ensures ∙ acts_again c.args.core) c.in_ok-done.ensures c.in_ok-steps.ensures
