use Rattle.std.proofs.Common.{◌-◌, length}
use Rattle.page_drafts.specs.Tables.{IsFreeFrom}
use Rattle.page_drafts.proofs.table.free_of.Given as goal

abbrev pub invariant-loop-n : goal.invariant-loop-n
invariant-loop-n l = IsFreeFrom l.slots l.free.items (length l.slots - l.n)
