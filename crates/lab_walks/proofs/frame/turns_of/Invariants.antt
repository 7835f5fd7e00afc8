use Rattle.std.proofs.Common.{◌≡◌, take}
use Rattle.lab_walks.specs.Frames.{turns_in}
use Rattle.lab_walks.proofs.frame.turns_of.Given as goal

abbrev pub invariant-loop-frame : goal.invariant-loop-frame
invariant-loop-frame l = l.turns ≡ turns_in (take l.frame-index l.frames)
