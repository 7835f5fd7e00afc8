use Rattle.std.proofs.Common.{◌≡◌, ◌-◌, ◌/◌, ◌^◌, ◌≤◌, ◌++◌, length, drop}
use Rattle.abstract_monitor.specs.Contents.{in_digits}
use Rattle.service_parts.proofs.unit_step.number.last_digits.Given as goal

abbrev pub invariant-loop-place : goal.invariant-loop-place
invariant-loop-place l = record {
  within : l.place ≤ length l.into;
  left : l.left ≡ l.number / 10 ^ (length l.into - l.place);
  written : in_digits l.place l.left ++ drop l.place l.into ≡ in_digits (length l.into) l.number;
}

abbrev pub decreases-loop-place : goal.decreases-loop-place
decreases-loop-place l = l.place
