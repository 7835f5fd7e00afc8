use Rattle.std.proofs.Common.{arith, sym}
use Rattle.abstract_monitor.specs.declared.command.Command.{Command}
use Rattle.std.proofs.Common.{List, subst, ◌+◌}
use Rattle.lab_orders.proofs.Scripts.{Putting, none_here, putting_end, putting_more, putting_none, putting_over}
use Rattle.lab_orders.proofs.script.put_run.Goals as goal

pub returns-in_default : goal.returns-in_default
returns-in_default c = putting_none _ _ _ _ _ _ c.loop-turn.invariant c.loop-turn-test.true (none_here c.loop-turn.rest.now c.in_default.ensures.cases)

pub returns-then-task-eq0 : goal.returns-then-task-eq0
returns-then-task-eq0 c = putting_end _ _ _ _ _ _ c.loop-turn.invariant c.loop-turn-test.true c.in-Some.task.now c.in-Some.behind.now c.in-Some.ensures.cases.0 c.if-task-eq0.true

pub loop-turn-preserved : goal.loop-turn-preserved
loop-turn-preserved c =
    subst (λ (l : List Command). Putting c.args.script.now.items l c.args.turns (c.loop-turn._turn + 1) c.args.order.now c.in-Some.behind.now) (sym c.in_ok-push.ensures.items)
    (putting_more _ _ _ _ _ _ c.loop-turn.invariant c.loop-turn-test.true c.in-Some.task.now c.in-Some.behind.now c.in-Some.ensures.cases.0 c.if-task-eq0.false)

pub returns : goal.returns
returns c = putting_over _ _ _ _ _ _ c.loop-turn.invariant (omega arith)
