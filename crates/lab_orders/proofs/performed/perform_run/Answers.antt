use Rattle.std.proofs.Common.{arith}
use Rattle.lab_orders.proofs.Performing.{run_more, run_over, run_rests, run_starts, run_stops, run_within}
use Rattle.lab_orders.proofs.Scripts.{none_here}
use Rattle.lab_orders.proofs.performed.perform_run.Goals as goal

pub loop-made-init : goal.loop-made-init
loop-made-init c = run_starts c.args.core c.args.path.now c.args.turns c.args.walk.now c.requires.beside c.requires.tasks

pub returns-in_default-clause-performed : goal.returns-in_default-clause-performed
returns-in_default-clause-performed c = run_stops _ _ _ _ _ _ _ _ c.loop-made.invariant c.loop-made-test.true (none_here c.loop-made.rest.now c.in_default.ensures.cases)

pub returns-then-task-eq0-clause-performed : goal.returns-then-task-eq0-clause-performed
returns-then-task-eq0-clause-performed c = run_rests _ _ _ _ _ _ _ _ c.loop-made.invariant c.loop-made-test.true c.in-Some.first.now c.in-Some.behind.now c.in-Some.ensures.cases.0 c.if-task-eq0.true

pub do_turn-requires-clause-task : goal.do_turn-requires-clause-task
do_turn-requires-clause-task c = run_within _ _ _ _ _ _ _ _ c.loop-made.invariant c.loop-made-test.true c.in-Some.first.now c.in-Some.behind.now c.in-Some.ensures.cases.0 c.if-task-eq0.false

pub loop-made-preserved : goal.loop-made-preserved
loop-made-preserved c =
    run_more _ _ _ _ _ _ _ _ c.loop-made.invariant c.loop-made-test.true c.in-Some.first.now c.in-Some.behind.now c.in-Some.ensures.cases.0 c.if-task-eq0.false c.in_ok-core.core c.do_turn.new.path c.in_ok-core.ensures.done c.in_ok-core.ensures.steps

pub returns-clause-performed : goal.returns-clause-performed
returns-clause-performed c = run_over _ _ _ _ _ _ _ _ c.loop-made.invariant (omega arith)
