use Rattle.std.proofs.Common.{◌≡◌, arith, subst, sym}
use Rattle.std.proofs.lemmas.Result.{IfOk-weaker}
use Rattle.abstract_monitor.specs.declared.command.Command.{Command}
use Rattle.lab_orders.specs.Performing.{PerformedOne}
use Rattle.lab_orders.specs.Walking.{tries_of}
use Rattle.lab_orders.proofs.Commands.{no_run, one_try}
use Rattle.lab_orders.proofs.Performing.{command_performed}
use Rattle.lab_orders.proofs.performed.perform_one.Goals as goal

pub returns-in-Run-clause-performed : goal.returns-in-Run-clause-performed
returns-in-Run-clause-performed c =
    IfOk-weaker c.end_run.result _ _ (λ r h. subst (λ (x : Command). PerformedOne c.args.asks c.args.core c.args.path.now x c.args.walk.now r.0 c.end_run.new.path r.1.now r.2) (sym c.in-Run.is) h) c.end_run.ensures.performed

pub returns-clause-performed : goal.returns-clause-performed
returns-clause-performed c =
    command_performed c.args.asks c.args.core c.args.path.now c.args.command.now c.args.walk.now c.in_ok-core.core c.do_command.new.path (no_run c.args.command.now c.in_default.not-Run) c.requires.tasks c.in_ok-core.ensures.done

pub returns-clause-steps : goal.returns-clause-steps
returns-clause-steps c =
    let one : tries_of c.args.command.now ≡ 1 = one_try c.args.command.now (no_run c.args.command.now c.in_default.not-Run) in
    omega (arith, one, c.in_ok-core.ensures.steps)
