use Rattle.std.proofs.Common.{◌≡◌, ◌+◌, ◌-◌, ◌≤◌, length, drop}
use Rattle.kd_records.proofs.Placed.{lesser}
use Rattle.kd_records.proofs.content.lesser_in_front.Given as goal

abbrev pub invariant-loop-n : goal.invariant-loop-n
invariant-loop-n l = (l.n ≤ length l.records) × (l.n + lesser l.key (drop l.n l.records) ≡ lesser l.key l.records)

abbrev pub decreases-loop-n : goal.decreases-loop-n
decreases-loop-n l = length l.records - l.n
