use Rattle.std.proofs.Common.{◌≡◌, length}
use Rattle.kdcdef_read.specs.KeySets.{key_set_of}
use Rattle.kdcdef_read.proofs.key_set.key_set_of.Given as goal

abbrev pub invariant-loop-operand : goal.invariant-loop-operand
invariant-loop-operand l = key_set_of l.left ≡ key_set_of l.operands

abbrev pub decreases-loop-operand : goal.decreases-loop-operand
decreases-loop-operand l = length l.left
