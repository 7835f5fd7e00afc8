use Rattle.std.proofs.Common.{List, sym, subst, arith}
use Rattle.std.specs.Prelude.{IfErr, IfOk}
use Rattle.std.proofs.lemmas.Result.{IfOk-weaker}
use Rattle.abstract_monitor.specs.declared.command.Command.{Command}
use Rattle.abstract_monitor.specs.CommandsOf.{IsCommandOf}
use Rattle.abstract_monitor.specs.Commands.{ScriptStep}
use Rattle.laws_of_runs.specs.HistoryLaws.{steps_of_run, steps_of_turn, steps_of_restart}
use Rattle.monitor_core.specs.Commanding.{IsCoreCommand}
use Rattle.monitor_core.specs.CommandingLaws.{single_of, steps_of_single}
use Rattle.monitor_core.specs.ResultsLaws.{handed_on, if_err_all}
use Rattle.monitor_core.proofs.script_run.script.do_command.Goals as goal

pub turn-requires-clause-task : goal.turn-requires-clause-task
turn-requires-clause-task g c = subst (λ (x : Command). IsCommandOf c.args.core.application.generation x) c.in-Turn.is c.requires.names

pub returns-in-Run-clause-took : goal.returns-in-Run-clause-took
returns-in-Run-clause-took g c =
    subst (λ (l : List ScriptStep). IfOk c.run_turns.result (λ next. g.S.Sink.took c.args.sink.now c.args.core l c.run_turns.new.sink next)) (sym (steps_of_run c.args.core.application c.args.core.state c.args.command.now c.in-Run.turns c.in-Run.is)) c.run_turns.ensures.took

pub returns-in-Run-clause-failed : goal.returns-in-Run-clause-failed
returns-in-Run-clause-failed g c =
    subst (λ (l : List ScriptStep). IfErr c.run_turns.result (λ e. g.S.Sink.failed c.args.sink.now c.args.core l e c.run_turns.new.sink)) (sym (steps_of_run c.args.core.application c.args.core.state c.args.command.now c.in-Run.turns c.in-Run.is)) c.run_turns.ensures.failed

pub returns-in-Run-clause-unopened : goal.returns-in-Run-clause-unopened
returns-in-Run-clause-unopened g c = if_err_all _ c.run_turns.result (λ e restart. absurd (cc (c.in-Run.is, restart)))

pub returns-in_ok-next-in-Turn-clause-took : goal.returns-in_ok-next-in-Turn-clause-took
returns-in_ok-next-in-Turn-clause-took g c =
    subst (λ (l : List ScriptStep). g.S.Sink.took c.args.sink.now c.args.core l c.turn.new.self c.in_ok-next-in-Turn.next) (sym (steps_of_turn c.args.core.application c.args.core.state c.args.command.now c.in-Turn.task c.in-Turn.is)) c.in_ok-next-in-Turn.ensures.took

pub returns-in_err-next-in-Turn-clause-failed : goal.returns-in_err-next-in-Turn-clause-failed
returns-in_err-next-in-Turn-clause-failed g c =
    handed_on _ c.from_residual.result _ c.from_residual.ensures.1
    (subst (λ (l : List ScriptStep). g.S.Sink.failed c.args.sink.now c.args.core l c.in_err-next-in-Turn.field-0.0 c.turn.new.self) (sym (steps_of_turn c.args.core.application c.args.core.state c.args.command.now c.in-Turn.task c.in-Turn.is)) c.in_err-next-in-Turn.ensures.failed)

pub returns-in_err-next-in-Turn-clause-unopened : goal.returns-in_err-next-in-Turn-clause-unopened
returns-in_err-next-in-Turn-clause-unopened g c = if_err_all _ c.from_residual.result (λ e restart. absurd (cc (c.in-Turn.is, restart)))

pub returns-in-Restart-clause-took : goal.returns-in-Restart-clause-took
returns-in-Restart-clause-took g c =
    subst (λ (l : List ScriptStep). IfOk c.restart.result (λ next. g.S.Sink.took c.args.sink.now c.args.core l c.restart.new.self next)) (sym (steps_of_restart c.args.core.application c.args.core.state c.args.command.now c.in-Restart.is)) c.restart.ensures.took

pub returns-in-Restart-clause-failed : goal.returns-in-Restart-clause-failed
returns-in-Restart-clause-failed g c =
    subst (λ (l : List ScriptStep). IfErr c.restart.result (λ e. g.S.Sink.failed c.args.sink.now c.args.core l e c.restart.new.self)) (sym (steps_of_restart c.args.core.application c.args.core.state c.args.command.now c.in-Restart.is)) c.restart.ensures.failed

pub returns-in-Input-clause-took : goal.returns-in-Input-clause-took
returns-in-Input-clause-took g c =
    subst (λ (l : List ScriptStep). IfOk c.apply.result (λ next. g.S.Sink.took c.args.sink.now c.args.core l c.apply.new.self next)) (sym (steps_of_single c.args.core.application c.args.core.state c.args.command.now (single_of c.args.command.now c.in-Input.is).0)) c.apply.ensures.took

pub returns-in-Input-clause-failed : goal.returns-in-Input-clause-failed
returns-in-Input-clause-failed g c =
    subst (λ (l : List ScriptStep). IfErr c.apply.result (λ e. g.S.Sink.failed c.args.sink.now c.args.core l e c.apply.new.self)) (sym (steps_of_single c.args.core.application c.args.core.state c.args.command.now (single_of c.args.command.now c.in-Input.is).0)) c.apply.ensures.failed

pub returns-in-Input-clause-steps : goal.returns-in-Input-clause-steps
returns-in-Input-clause-steps g c = IfOk-weaker c.apply.result _ _ (λ next h. let e = (single_of c.args.command.now c.in-Input.is).1 in omega (arith, h.steps, e)) c.apply.ensures.one

pub returns-in-Input-clause-unopened : goal.returns-in-Input-clause-unopened
returns-in-Input-clause-unopened g c = if_err_all _ c.apply.result (λ e restart. absurd (subst IsCoreCommand restart (single_of c.args.command.now c.in-Input.is).0))
