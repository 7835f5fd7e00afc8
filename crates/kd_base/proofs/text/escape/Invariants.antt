use Rattle.std.proofs.Common.{◌≡◌, take}
use Rattle.kd_base.specs.Text.{escaped}
use Rattle.kd_base.proofs.text.escape.Given as goal

abbrev pub invariant-loop-b : goal.invariant-loop-b
invariant-loop-b l = l.out ≡ escaped (take l.b-index l.bytes)
