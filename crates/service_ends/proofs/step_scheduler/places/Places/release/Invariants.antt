use Rattle.std.proofs.Common.{◌≡◌, ◌++◌, map, take, drop}
use Rattle.service_ends.specs.Schedule.{left_by}
use Rattle.service_ends.proofs.step_scheduler.places.Places.release.Given as goal

abbrev pub invariant-loop-place : goal.invariant-loop-place
invariant-loop-place l = l.self ≡ map (left_by l.id) (take l.place l.initial.self) ++ drop l.place l.initial.self
