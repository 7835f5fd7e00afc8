use Rattle.std.specs.Prelude.{◌≡◌, ◌≤◌, ◌++◌, length}
use Rattle.kd_base.proofs.sorted_pairs.ordered.plant.Given as goal

-- the pairs are the same
abbrev pub invariant-loop-few : goal.invariant-loop-few
invariant-loop-few g l = (l.few ++ l.many.entries ≡ l.fn.few ++ l.fn.many.entries) × (length l.few ≤ length l.fn.few)

abbrev pub decreases-loop-few : goal.decreases-loop-few
decreases-loop-few g l = length l.few
