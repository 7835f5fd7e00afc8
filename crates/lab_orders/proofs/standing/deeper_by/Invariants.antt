use Rattle.std.proofs.Common.{◌≡◌, take}
use Rattle.lab_orders.proofs.standing.deeper_by.Given as goal

abbrev pub invariant-loop-frame : goal.invariant-loop-frame
invariant-loop-frame l = l.deeper ≡ take l.frame-index l.frames
