use Rattle.std.proofs.Common.{◌≤◌, length}
use Rattle.lab_check.proofs.lab_findings.line_kind.up_to_last.Given as goal

abbrev pub invariant-loop-n : goal.invariant-loop-n
invariant-loop-n l = l.n ≤ length l.line

abbrev pub decreases-loop-n : goal.decreases-loop-n
decreases-loop-n l = l.n
