use Rattle.std.proofs.Common.{subst}
use Rattle.monitor_core.specs.CoreValue.{CoreValue}
use Rattle.lab_turns.specs.Heard.{HearsCommand}
use Rattle.lab_turns.specs.RunningLaws.{hears_command}
use Rattle.lab_turns.proofs.bench.Bench.perform.Goals as goal

pub returns-clause-heard : goal.returns-clause-heard
returns-clause-heard g c =
    subst (λ (v : CoreValue). HearsCommand g.L.Listener.hears v.application v.state c.args.command.now c.args.listener.now c.tell_end.new.listener) c.self.view_is
    (hears_command g.L.Listener.hears g.met.L.Listener.hears_none g.met.L.Listener.hears_both _ c.args.command.now c.args.listener.now c.command.new.self c.watch_command.new.listener c.tell_end.new.listener c.in_ok-core.core c.in_ok-core.ran.steps
    c.in_ok-command.ensures c.in_ok-core.ensures.told c.in_ok-core.ensures.counted c.in_ok-tell_end.ensures)
