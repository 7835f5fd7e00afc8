use Rattle.std.proofs.Common.{◌≡◌, arith, subst, sym}
use Rattle.std.proofs.lemmas.Result.{IfOk-weaker}
use Rattle.abstract_monitor.specs.declared.command.Command.{Command}
use Rattle.lab_orders.specs.Searching.{WentCommand}
use Rattle.lab_orders.specs.Walking.{tries_of}
use Rattle.lab_orders.proofs.Commands.{no_run, one_try}
use Rattle.lab_orders.proofs.Reaching.{command_went}
use Rattle.lab_orders.proofs.reach.reach_command.Goals as goal

pub returns-in-Run-clause-went : goal.returns-in-Run-clause-went
returns-in-Run-clause-went c =
    IfOk-weaker c.end_run.result _ _ (λ next h. subst (λ (x : Command). WentCommand c.args.asks c.args.core c.args.path.now x c.args.later c.args.frames.now next.0 c.end_run.new.path next.1.0.now next.1.1) (sym c.in-Run.is) h) c.end_run.ensures.went

pub returns-clause-went : goal.returns-clause-went
returns-clause-went c =
    command_went c.args.asks c.args.core c.args.path.now c.args.command.now c.args.later c.args.frames.now c.in_ok-core.core c.do_command.new.path (no_run c.args.command.now c.in_default.not-Run) c.in_ok-core.ensures.done

pub returns-clause-steps : goal.returns-clause-steps
returns-clause-steps c =
    let one : tries_of c.args.command.now ≡ 1 = one_try c.args.command.now (no_run c.args.command.now c.in_default.not-Run) in
    omega (arith, one, c.in_ok-core.ensures.steps)
