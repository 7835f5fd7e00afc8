use Rattle.std.proofs.Common.{sym, subst}
use Rattle.std.specs.Prelude.{IfOk}
use Rattle.abstract_monitor.specs.declared.command.Command.{Command}
use Rattle.abstract_monitor.specs.CommandsOf.{IsCommandOf}
use Rattle.lab_orders.specs.Walking.{DidCommand, IsNoRun}
use Rattle.lab_orders.proofs.step.do_command.Goals as goal

pub do_turn-requires-clause-task : goal.do_turn-requires-clause-task
do_turn-requires-clause-task c = subst (λ (x : Command). IsCommandOf c.args.core.application.generation x) c.in-Turn.is c.requires.names

pub returns-in-Run-clause-done : goal.returns-in-Run-clause-done
returns-in-Run-clause-done c = absurd (subst IsNoRun c.in-Run.is c.requires.no_run)

pub returns-in-Turn-clause-done : goal.returns-in-Turn-clause-done
returns-in-Turn-clause-done c =
    subst (λ (x : Command). IfOk c.do_turn.result (λ next. DidCommand c.args.core c.args.path.now x next c.do_turn.new.path)) (sym c.in-Turn.is) c.do_turn.ensures.done

pub returns-in-Restart-clause-done : goal.returns-in-Restart-clause-done
returns-in-Restart-clause-done c =
    subst (λ (x : Command). IfOk c.restart.result (λ next. DidCommand c.args.core c.args.path.now x next c.restart.new.path)) (sym c.in-Restart.is) c.restart.ensures.done
