use Rattle.std.proofs.Common.{arith}
use Rattle.lab_orders.proofs.Asking.{asking_more, asking_moved, asking_over, asking_start, asking_within}
use Rattle.lab_orders.proofs.turns.is_at_rest.Goals as goal

pub loop-at-init : goal.loop-at-init
loop-at-init c = asking_start c.args.core c.requires.facts

pub try_effect-requires-clause-facts : goal.try_effect-requires-clause-facts
try_effect-requires-clause-facts c = c.loop-at.invariant.facts

pub try_effect-requires-clause-task : goal.try_effect-requires-clause-task
try_effect-requires-clause-task c = asking_within _ _ _ c.loop-at.invariant (omega (arith, c.tasks-tasks.ensures))

pub try_effect-requires-clause-steps : goal.try_effect-requires-clause-steps
try_effect-requires-clause-steps c = omega (arith, c.loop-at.invariant.steps, c.requires.steps)

pub returns-then-moved-clause-rested : goal.returns-then-moved-clause-rested
returns-then-moved-clause-rested c = asking_moved _ _ _ c.loop-at.invariant (omega (arith, c.tasks-tasks.ensures)) c.in_ok-next.next c.in_ok-next.moved c.if-moved.true c.in_ok-next.ensures.tried

pub returns-then-moved-clause-steps : goal.returns-then-moved-clause-steps
returns-then-moved-clause-steps c = omega (arith, c.in_ok-next.ensures.steps, c.loop-at.invariant.steps)

pub loop-at-preserved : goal.loop-at-preserved
loop-at-preserved c = asking_more _ _ _ c.loop-at.invariant (omega (arith, c.tasks-tasks.ensures)) c.in_ok-next.next c.in_ok-next.moved c.if-moved.false c.in_ok-next.ensures.tried c.in_ok-next.ensures.steps

pub returns-clause-rested : goal.returns-clause-rested
returns-clause-rested c = asking_over _ _ _ c.loop-at.invariant (omega (arith, c.tasks-tasks.ensures))

pub returns-clause-steps : goal.returns-clause-steps
returns-clause-steps c = omega (arith, c.loop-at.invariant.steps)
