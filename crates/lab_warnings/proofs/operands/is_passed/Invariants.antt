use Rattle.std.proofs.Common.{length}
use Rattle.lab_warnings.proofs.operands.is_passed.Given as goal

abbrev pub decreases-loop-operand : goal.decreases-loop-operand
decreases-loop-operand l = length l.left
