use Rattle.std.proofs.Common.{◌≡◌, ◌++◌}
use Rattle.std.specs.Prelude.{map}
use Rattle.std.specs.Map.{values_of}
use Rattle.service_ends.specs.Standing.{id_of}
use Rattle.lab_states.proofs.scheduled.ready_in.Given as goal

abbrev pub invariant-loop-entry : goal.invariant-loop-entry
invariant-loop-entry l = l.ready ++ map id_of (values_of l.entry-iterator) ≡ map id_of l.scheduler.ready
