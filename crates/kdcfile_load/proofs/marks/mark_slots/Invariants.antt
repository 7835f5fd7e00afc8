use Rattle.std.proofs.Common.{◌≡◌, true, take, length}
use Rattle.kdcfile_layout.specs.Pools.{flagged}
use Rattle.kdcfile_load.specs.Marks.{AreClear, pages_in}
use Rattle.kdcfile_load.proofs.marks.mark_slots.Given as goal

abbrev pub invariant-loop-slot : goal.invariant-loop-slot
invariant-loop-slot l = record {
  long : length l.pool ≡ l.fn.count;
  clear : AreClear l.fn.pool (pages_in (take l.slot-index l.slots));
  used : l.pool ≡ flagged true l.fn.pool (pages_in (take l.slot-index l.slots));
}
