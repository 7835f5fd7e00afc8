use Rattle.std.proofs.Common.{◌-◌, ◌≤◌, length}
use Rattle.lab_check.proofs.lab_findings.near.behind_same.Given as goal

abbrev pub invariant-loop-n : goal.invariant-loop-n
invariant-loop-n l = (l.n ≤ length l.a) × (l.n ≤ length l.b)

abbrev pub decreases-loop-n : goal.decreases-loop-n
decreases-loop-n l = length l.a - l.n
