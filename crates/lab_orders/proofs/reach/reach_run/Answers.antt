use Rattle.std.proofs.Common.{arith, ap, ◌+◌}
use Rattle.lab_orders.proofs.Reaching.{one_to_tasks, running_more, running_over, running_rests, running_start, running_stops, taken_here}
use Rattle.lab_orders.proofs.Scripts.{none_here}
use Rattle.std.proofs.Common.{sym, ◌∙◌}
use Rattle.lab_orders.proofs.reach.reach_run.Goals as goal

pub loop-made-init : goal.loop-made-init
loop-made-init c = running_start c.args.core c.args.path.now c.args.turns c.args.frames.now c.requires.beside c.requires.taken

pub returns-in_default-clause-went : goal.returns-in_default-clause-went
returns-in_default-clause-went c = running_stops _ _ _ _ _ _ _ _ _ c.loop-made.invariant c.args.later c.loop-made-test.true (none_here c.loop-made.rest.now c.in_default.ensures.cases) _ (omega arith) (omega (arith, c.requires.steps))

pub returns-then-task-eq0-clause-went : goal.returns-then-task-eq0-clause-went
returns-then-task-eq0-clause-went c =
    running_rests _ _ _ _ _ _ _ _ _ c.loop-made.invariant c.args.later c.loop-made-test.true c.in-Some.frame.now c.in-Some.behind.now c.in-Some.ensures.cases.0 (sym c.turn-task.ensures ∙ c.if-task-eq0.true)

pub do_turn-requires-clause-task : goal.do_turn-requires-clause-task
do_turn-requires-clause-task c =
    one_to_tasks c.args.core.application c.loop-made.core.application c.loop-made.invariant.application c.in-Some.frame.now c.turn-task.result c.turn-task.ensures c.if-task-eq0.false
    (taken_here _ _ _ _ _ _ _ _ _ c.loop-made.invariant c.args.later c.loop-made-test.true c.in-Some.frame.now c.in-Some.behind.now c.in-Some.ensures.cases.0)

pub loop-made-preserved : goal.loop-made-preserved
loop-made-preserved c =
    running_more _ _ _ _ _ _ _ _ _ c.loop-made.invariant c.args.later c.loop-made-test.true c.in-Some.frame.now c.in-Some.behind.now c.in-Some.ensures.cases.0 c.turn-task.result c.turn-task.ensures c.if-task-eq0.false c.in_ok-core.core c.do_turn.new.path c.in_ok-core.ensures.done c.in_ok-core.ensures.steps
    _ (ap (λ n. c.loop-made.room + n) c.from-room.ensures) (omega arith)

pub returns-clause-went : goal.returns-clause-went
returns-clause-went c = running_over _ _ _ _ _ _ _ _ _ c.loop-made.invariant c.args.later (omega arith)
