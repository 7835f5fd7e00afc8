use Rattle.std.proofs.Common.{◌≡◌, ◌++◌, length}
use Rattle.std.specs.Map.{values_of}
use Rattle.service_ends.specs.Arrivals.{IsAfter}
use Rattle.service_ends.proofs.step_scheduler.ready.ReadyQueue.renumbered.Given as goal

abbrev pub invariant-loop-entry : goal.invariant-loop-entry
invariant-loop-entry l = record { same : values_of l.fresh ++ values_of l.entry-iterator ≡ values_of l.self; next : IsAfter (length l.fresh) l.fresh }
