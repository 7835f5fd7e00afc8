use Rattle.std.proofs.Common.{◌≡◌, true, take, length}
use Rattle.kdcfile_layout.specs.Pools.{flagged}
use Rattle.kdcfile_load.specs.Marks.{AreClear}
use Rattle.kdcfile_load.proofs.marks.mark_all.Given as goal

abbrev pub invariant-loop-page : goal.invariant-loop-page
invariant-loop-page l = record {
  long : length l.pool ≡ l.fn.count;
  clear : AreClear l.fn.pool (take l.page-index l.pages);
  used : l.pool ≡ flagged true l.fn.pool (take l.page-index l.pages);
}
