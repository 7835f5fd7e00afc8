use Rattle.std.proofs.Common.{◌≡◌, IsTrue, length}
use Rattle.std.specs.List.{list_all}
use Rattle.kdcs_types.specs.Tables.{IsSortedTables, change_fits, with_changes}
use Rattle.kdcs_types.specs.RowsKept.{tables_in, HasCapacity}
use Rattle.kdcs_types.proofs.row_lists.RowLists.make_all.Given as goal

abbrev pub invariant-loop-change : goal.invariant-loop-change
invariant-loop-change l = record {
  sorted : IsSortedTables (tables_in 0 0 l.self);
  fit : IsTrue (list_all change_fits l.change-iterator.rest.items);
  capacity : HasCapacity (length l.change-iterator.rest.items) l.self;
  made : with_changes (tables_in 0 0 l.self) l.change-iterator.rest.items ≡ with_changes (tables_in 0 0 l.fn.self) l.fn.changes.items;
}
