use Rattle.std.proofs.Common.{List, subst}
use Rattle.abstract_monitor.specs.Commands.{ScriptStep}
use Rattle.monitor_core.specs.IdleLaws.{first_free, one_rested, one_step}
use Rattle.monitor_core.proofs.script_run.sink.Sink.idle.Goals as goal

pub returns-clause-took : goal.returns-clause-took
returns-clause-took g c =
    let free = first_free c.args.core.state c.args.task c.args.most c.requires.free c.requires.some in
    subst (λ (steps : List ScriptStep). g.Self.Sink.took c.args.self.now c.args.core steps c.turn.new.self c.in_ok-next.next) (one_step c.args.core c.args.task free c.requires.none) c.in_ok-next.ensures.took

pub returns-clause-rested : goal.returns-clause-rested
returns-clause-rested g c =
    let free = first_free c.args.core.state c.args.task c.args.most c.requires.free c.requires.some in
    one_rested c.args.core c.in_ok-next.next c.args.task c.in_ok-next._moved free c.requires.none c.in_ok-next.ensures.turned (g.met.Self.Sink.goes.application _ _ _ _ _ c.in_ok-next.ensures.took)
