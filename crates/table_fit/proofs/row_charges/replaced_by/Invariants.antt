use Rattle.std.proofs.Common.{◌≡◌, ◌*◌, ◌^◌, ◌≤◌, take}
use Rattle.table_fit.specs.Pages.{row_charge}
use Rattle.table_fit.specs.Weights.{replaced_weight}
use Rattle.table_fit.proofs.row_charges.replaced_by.Given as goal

abbrev pub invariant-loop-change : goal.invariant-loop-change
invariant-loop-change l = record {
  sum : l.pages ≡ replaced_weight (row_charge l.generation) l.tables (take l.change-index l.changes);
  few : l.pages ≤ l.change-index * 2 ^ 64;
}
