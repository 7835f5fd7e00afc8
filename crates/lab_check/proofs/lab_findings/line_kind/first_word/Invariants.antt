use Rattle.std.proofs.Common.{◌-◌, ◌≤◌, length}
use Rattle.lab_check.proofs.lab_findings.line_kind.first_word.Given as goal

abbrev pub invariant-loop-n : goal.invariant-loop-n
invariant-loop-n l = l.n ≤ length l.text

abbrev pub decreases-loop-n : goal.decreases-loop-n
decreases-loop-n l = length l.text - l.n
