use Rattle.std.proofs.Common.{ℕ, ◌<◌, get_or}
use Rattle.lab_orders.specs.declared.explored.Outcome.{Outcome}
use Rattle.lab_orders.specs.Exploring.{IsThatOf}
use Rattle.lab_orders.proofs.explored.place_of.Given as goal

abbrev pub invariant-loop-at : goal.invariant-loop-at
invariant-loop-at l = (k : ℕ) (d : Outcome) → k < l.at → IsThatOf (get_or l.outcomes k d) l.found → ⊥
