use Rattle.std.proofs.Common.{◌≡◌, filter, length, not}
use Rattle.std.specs.Map.{values_of}
use Rattle.kdcs_types.specs.Keys.{id_eq}
use Rattle.service_ends.proofs.step_scheduler.ready.ReadyQueue.withdraw.Given as goal

abbrev pub invariant-loop : goal.invariant-loop
invariant-loop l = filter (λ e. not (id_eq l.id e.0)) (values_of l.self) ≡ filter (λ e. not (id_eq l.id e.0)) (values_of l.initial.self)

abbrev pub decreases-loop : goal.decreases-loop
decreases-loop l = length l.self
