use Rattle.std.specs.Prelude.{length}
use Rattle.monitor_parts.proofs.area_locks.Freeing.{Frees}
use Rattle.monitor_parts.proofs.area_locks.LockTable.free_all.Given as goal

abbrev pub invariant-loop-area : goal.invariant-loop-area
invariant-loop-area l = Frees l.fn.self l.self l.who

abbrev pub decreases-loop-area : goal.decreases-loop-area
decreases-loop-area l = length l.self.holders
