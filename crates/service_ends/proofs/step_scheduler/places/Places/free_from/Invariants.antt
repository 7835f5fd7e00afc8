use Rattle.std.specs.Prelude.{◌≡◌, ◌<◌, ◌+◌, ℕ, None, Some, slice_get}
use Rattle.service_ends.proofs.step_scheduler.places.Places.free_from.Given as goal

abbrev pub invariant-loop-count : goal.invariant-loop-count
invariant-loop-count l = (i : ℕ) → i < l.count → slice_get l.self (l.place + i) ≡ Some None
