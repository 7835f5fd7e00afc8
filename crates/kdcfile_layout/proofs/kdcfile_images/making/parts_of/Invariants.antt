use Rattle.std.proofs.Common.{◌≡◌, ◌≤◌, ◌-◌, ◌++◌}
use Rattle.kdcfile_layout.specs.Layout.{zeros}
use Rattle.kdcfile_layout.specs.Series.{together}
use Rattle.kdcfile_layout.proofs.kdcfile_images.making.parts_of.Given as goal

abbrev pub invariant-loop-left : goal.invariant-loop-left
invariant-loop-left l = (together l.parts.items ≡ l.front ++ zeros (l.count - l.left)) × (l.left ≤ l.count)

abbrev pub decreases-loop-left : goal.decreases-loop-left
decreases-loop-left l = l.left
