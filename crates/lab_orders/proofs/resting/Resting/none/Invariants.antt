use Rattle.std.proofs.Common.{◌≡◌, replicate}
use Rattle.std.specs.Prelude.{false}
use Rattle.lab_orders.proofs.resting.Resting.none.Given as goal

abbrev pub invariant-loop-task : goal.invariant-loop-task
invariant-loop-task l = l.resting.items ≡ replicate l._task false
