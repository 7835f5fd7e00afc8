use Rattle.std.proofs.Common.{◌≡◌, ◌<◌, ℕ, get_or}
use Rattle.std.specs.Prelude.{Bool, true}
use Rattle.lab_orders.proofs.resting.Resting.first_from.Given as goal

abbrev pub invariant-loop-at : goal.invariant-loop-at
invariant-loop-at l = l.from ≡ 0 → (k : ℕ) (d : Bool) → k < l.at → get_or l.self.tasks.items k d ≡ true
