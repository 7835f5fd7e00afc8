use Rattle.std.proofs.Common.{◌≤◌, ◌-◌, length}
use Rattle.kd_host.proofs.disk.read_from.Given as goal

abbrev pub invariant-loop-count : goal.invariant-loop-count
invariant-loop-count g l = l.count ≤ length l.into

abbrev pub decreases-loop-count : goal.decreases-loop-count
decreases-loop-count g l = length l.initial.into - l.count
