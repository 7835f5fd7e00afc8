use Rattle.page_drafts.specs.Tables.{IsIndexedTo}
use Rattle.page_drafts.proofs.table.index_of.Given as goal

abbrev pub invariant-loop-n : goal.invariant-loop-n
invariant-loop-n l = IsIndexedTo l.slots l.index l.n
