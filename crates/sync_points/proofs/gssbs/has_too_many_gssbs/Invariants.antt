use Rattle.std.proofs.Common.{◌≡◌, ◌+◌, ◌≤◌, length, take}
use Rattle.sync_points.specs.Refusals.{gssb_weight}
use Rattle.table_fit.specs.Weights.{made_weight, replaced_weight}
use Rattle.sync_points.proofs.gssbs.has_too_many_gssbs.Given as goal

abbrev pub invariant-loop-change : goal.invariant-loop-change
invariant-loop-change l = record {
  after : l.after ≡ length l.tables.gssbs + made_weight gssb_weight (take l.change-index l.change-items);
  allowed : l.allowed ≡ l.limit + replaced_weight gssb_weight l.tables (take l.change-index l.change-items);
  made : l.after ≤ length l.tables.gssbs + l.change-index;
  replaced : l.allowed ≤ l.limit + l.change-index;
}
