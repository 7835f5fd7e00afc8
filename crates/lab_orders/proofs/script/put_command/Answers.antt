use Rattle.std.proofs.Common.{List, [], ◌∷◌, ◌++◌, ap, ◌∙◌}
use Rattle.std.proofs.lemmas.Result.{IfOk-weaker}
use Rattle.abstract_monitor.specs.declared.command.Command.{Command}
use Rattle.lab_walks.specs.Orders.{turned_script}
use Rattle.lab_orders.proofs.Commands.{no_run}
use Rattle.lab_orders.proofs.Scripts.{command_put, run_put}
use Rattle.lab_orders.proofs.script.put_command.Goals as goal

pub returns-in-Run : goal.returns-in-Run
returns-in-Run c = IfOk-weaker c.put_run.result _ _ (λ rest put. run_put c.args.script.now.items c.put_run.new.script.items c.args.command.now c.in-Run.turns c.args.order.now rest.now c.in-Run.is put) c.put_run.ensures

pub returns : goal.returns
returns c cs =
    ap (λ (l : List Command). l ++ turned_script cs c.args.order.now) (c.in_ok-push.ensures.items ∙ ap (λ (x : Command). c.args.script.now.items ++ x ∷ []) c.in_ok-copy_of.ensures)
    ∙ command_put c.args.script.now.items c.args.command.now c.args.order.now (no_run c.args.command.now c.in_default.not-Run) cs
