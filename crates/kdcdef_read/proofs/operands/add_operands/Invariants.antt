use Rattle.std.proofs.Common.{◌≡◌, ◌+◌, ◌≤◌, true, length}
use Rattle.kdcdef_read.specs.Filling.{with_operands}
use Rattle.kdcdef_read.proofs.operands.add_operands.Given as goal

abbrev pub invariant-loop-operand : goal.invariant-loop-operand
invariant-loop-operand l = record {
  so_far : with_operands l.keyword l.first l.given l.left ≡ with_operands l.keyword true l.fn.given l.operands;
  bound : l.given.passed + length l.left ≤ l.fn.given.passed + length l.operands;
}

abbrev pub decreases-loop-operand : goal.decreases-loop-operand
decreases-loop-operand l = length l.left
