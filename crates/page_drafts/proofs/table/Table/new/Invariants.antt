use Rattle.std.proofs.Common.{◌≡◌, replicate}
use Rattle.page_drafts.specs.Tables.{IsDescending}
use Rattle.kdcfile_layout.specs.Layout.{free_slot}
use Rattle.page_drafts.proofs.table.Table.new.Given as goal

abbrev pub invariant-loop-n : goal.invariant-loop-n
invariant-loop-n l = record {
  slots : l.slots.items ≡ replicate l.n free_slot;
  free : IsDescending l.free.items l.n l.count;
}
