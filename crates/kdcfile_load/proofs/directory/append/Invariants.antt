use Rattle.std.proofs.Common.{◌≡◌, ◌++◌, take}
use Rattle.kdcfile_load.proofs.directory.append.Given as goal

abbrev pub invariant-loop-slot : goal.invariant-loop-slot
invariant-loop-slot l = l.to ≡ l.fn.to ++ take l.slot-index l.more
