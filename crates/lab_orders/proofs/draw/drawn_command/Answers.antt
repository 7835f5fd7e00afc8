use Rattle.std.proofs.Common.{◌≡◌, ◌+◌, ◌≤◌, arith}
use Rattle.std.proofs.lemmas.Result.{IfOk-weaker}
use Rattle.monitor_core.specs.CoreValue.{CoreValue}
use Rattle.lab_orders.specs.Walking.{tries_of}
use Rattle.lab_orders.proofs.Drawing.{command_drew, run_drew}
use Rattle.lab_orders.proofs.Commands.{no_run, one_try}
use Rattle.lab_orders.proofs.draw.drawn_command.Goals as goal

pub returns-in-Run-clause-drew : goal.returns-in-Run-clause-drew
returns-in-Run-clause-drew c = IfOk-weaker c.drawn_run.result _ _ (λ next h. run_drew c.args.core c.args.path.now c.args.command.now c.in-Run.turns next c.drawn_run.new.path c.in-Run.is h) c.drawn_run.ensures.drew

pub returns-clause-drew : goal.returns-clause-drew
returns-clause-drew c =
    IfOk-weaker c.do_command.result _ _ (λ next h. command_drew c.args.core c.args.path.now c.args.command.now next c.do_command.new.path (no_run c.args.command.now c.in_default.not-Run) h) c.do_command.ensures.done

pub returns-clause-steps : goal.returns-clause-steps
returns-clause-steps c =
    let one : tries_of c.args.command.now ≡ 1 = one_try c.args.command.now (no_run c.args.command.now c.in_default.not-Run) in
    IfOk-weaker c.do_command.result _ _ (λ (next : CoreValue) (h : next.steps ≤ c.args.core.steps + 1). omega (arith, one, h)) c.do_command.ensures.steps
