use Rattle.std.proofs.Common.{◌≡◌, take}
use Rattle.std.specs.Prelude.{map}
use Rattle.service_ends.specs.Schedule.{service_in}
use Rattle.lab_states.proofs.scheduled.held_in.Given as goal

abbrev pub invariant-loop-before : goal.invariant-loop-before
invariant-loop-before l = l.held ≡ map service_in (take l.before l.scheduler.places)
