use Rattle.std.proofs.Common.{arith, sym, subst, ◌≤◌, ◌+◌, ◌<◌, ◌≡◌}
use Rattle.application_types.specs.Statements.{IsWithin}
use Rattle.monitor_core.specs.ResultsLaws.{handed_on}
use Rattle.monitor_core.proofs.script_run.Rotating.{ended_unheard, rotation_ended, rotation_failed, rotation_more, rotation_over, rotation_start, rotation_unheard, same_limit}
use Rattle.monitor_core.proofs.script_run.turns.run_turns.Goals as goal

pub turns_at_most-most-requires : goal.turns_at_most-most-requires
turns_at_most-most-requires g c =
    let limit = same_limit _ _ _ _ g.met.S.Sink.goes _ _ c.requires.ready _ _ _ _ _ _ c.loop-done.invariant.0 c.tasks-tasks.result c.tasks-tasks.ensures in
    record {
      left = omega (arith, c.loop-done-test.true);
      task = (c.loop-done.invariant.0.within.0, omega (arith, limit, c.loop-done.invariant.0.within.1));
      unmoved = omega (arith, limit, c.loop-done.invariant.0.fewer);
    }

pub next_turns-requires-clause-within : goal.next_turns-requires-clause-within
next_turns-requires-clause-within g c =
    let limit = same_limit _ _ _ _ g.met.S.Sink.goes _ _ c.requires.ready _ _ _ _ _ _ c.loop-done.invariant.0 c.tasks-tasks.result c.tasks-tasks.ensures in
    omega (arith, limit, c.turns_at_most-most.ensures.task)

pub returns-in_err-next-clause-failed : goal.returns-in_err-next-clause-failed
returns-in_err-next-clause-failed g c =
    handed_on _ c.from_residual.result _ c.from_residual.ensures.1 (rotation_failed _ _ _ _ g.met.S.Sink.goes _ _ c.requires.ready _ _ _ _ _ _ c.loop-done.invariant.0 c.loop-done-test.true c.in_err-next.field-0.0 _ c.in_err-next.ensures.failed)

pub returns-in_err-over-clause-failed : goal.returns-in_err-over-clause-failed
returns-in_err-over-clause-failed g c =
    handed_on _ c.from_residual-in_err-over.result _ c.from_residual-in_err-over.ensures.1
    (ended_unheard _ _ _ _ g.met.S.Sink.goes _ _ c.requires.ready _ _ _ _ _ _ c.loop-done.invariant.0 _ c.in_ok-next.next c.in_ok-next.count c.in_ok-next.moved c.in_ok-next.ensures.took.0 c.row_with-unmoved.result c.tasks-tasks.result c.in_ok-next.ensures.took.1 c.in_ok-next.ensures.took.2
    (omega (arith, c.loop-done-test.true, c.turns_at_most-most.ensures.left, c.in_ok-next.ensures.within.1)) (omega (arith, c.turns_at_most-most.ensures.unmoved, c.in_ok-next.ensures.within.1)) c.row_with-unmoved.ensures c.tasks-tasks.ensures c.if-unmoved-tasks.true c.in_err-over.field-0.0 _ c.in_err-over.ensures.failed)

pub returns-then-unmoved-tasks-clause-took : goal.returns-then-unmoved-tasks-clause-took
returns-then-unmoved-tasks-clause-took g c =
    rotation_ended _ _ _ _ g.met.S.Sink.goes _ _ c.requires.ready _ _ _ _ _ _ c.loop-done.invariant.0 _ c.in_ok-next.next c.in_ok-next.count c.in_ok-next.moved c.in_ok-next.ensures.took.0 c.row_with-unmoved.result c.tasks-tasks.result c.in_ok-next.ensures.took.1 c.in_ok-next.ensures.took.2
    (omega (arith, c.loop-done-test.true, c.turns_at_most-most.ensures.left, c.in_ok-next.ensures.within.1)) (omega (arith, c.turns_at_most-most.ensures.unmoved, c.in_ok-next.ensures.within.1)) c.row_with-unmoved.ensures c.tasks-tasks.ensures c.if-unmoved-tasks.true _ c.in_ok-over.ensures.took

pub loop-done-preserved : goal.loop-done-preserved
loop-done-preserved g c = (
  rotation_more _ _ _ _ g.met.S.Sink.goes _ _ c.requires.ready _ _ _ _ _ _ c.loop-done.invariant.0 _ c.in_ok-next.next c.in_ok-next.count c.in_ok-next.moved c.in_ok-next.ensures.took.0 c.row_with-unmoved.result c.tasks-tasks.result c.in_ok-next.ensures.took.1 c.in_ok-next.ensures.took.2
      (omega (arith, c.loop-done-test.true, c.turns_at_most-most.ensures.left, c.in_ok-next.ensures.within.1)) (omega (arith, c.turns_at_most-most.ensures.unmoved, c.in_ok-next.ensures.within.1)) c.row_with-unmoved.ensures c.tasks-tasks.ensures c.if-unmoved-tasks.false (omega (arith, c.turns_at_most-most.ensures.task, c.in_ok-next.ensures.within.1)) c.task_after-task.result c.task_after-task.ensures,
  c.in_ok-next.ensures.idle,
  omega (arith, c.loop-done-test.true, c.turns_at_most-most.ensures.left, c.in_ok-next.ensures.within.1),
)

pub returns-in_err-over-2-clause-failed : goal.returns-in_err-over-2-clause-failed
returns-in_err-over-2-clause-failed g c =
    handed_on _ c.from_residual-in_err-over-2.result _ c.from_residual-in_err-over-2.ensures.1 (rotation_unheard _ _ _ _ g.met.S.Sink.goes _ _ c.requires.ready _ _ _ _ _ _ c.loop-done.invariant.0 (omega (arith, c.loop-done-test.false, c.loop-done.invariant.2)) c.in_err-over-2.field-0.0 _ c.in_err-over-2.ensures.failed)

pub returns-clause-took : goal.returns-clause-took
returns-clause-took g c = rotation_over _ _ _ _ g.met.S.Sink.goes _ _ c.requires.ready _ _ _ _ _ _ c.loop-done.invariant.0 (omega (arith, c.loop-done-test.false, c.loop-done.invariant.2)) _ c.in_ok-over-2.ensures.took
