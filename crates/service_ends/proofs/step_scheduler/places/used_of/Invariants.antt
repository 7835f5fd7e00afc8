use Rattle.service_ends.specs.Counted.{AreFreeFrom}
use Rattle.service_ends.proofs.step_scheduler.places.used_of.Given as goal

abbrev pub invariant-loop-used : goal.invariant-loop-used
invariant-loop-used l = AreFreeFrom l.places l.used

abbrev pub decreases-loop-used : goal.decreases-loop-used
decreases-loop-used l = l.used
