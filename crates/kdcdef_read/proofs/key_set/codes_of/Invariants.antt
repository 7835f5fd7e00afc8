use Rattle.std.proofs.Common.{◌≡◌, length}
use Rattle.kd_base.specs.Tools.{onto}
use Rattle.kdcdef_read.specs.KeySets.{codes_of}
use Rattle.kdcdef_read.proofs.key_set.codes_of.Given as goal

abbrev pub invariant-loop-item : goal.invariant-loop-item
invariant-loop-item l = onto l.codes (codes_of l.left) ≡ codes_of l.items

abbrev pub decreases-loop-item : goal.decreases-loop-item
decreases-loop-item l = length l.left
