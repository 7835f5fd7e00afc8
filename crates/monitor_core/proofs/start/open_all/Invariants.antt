use Rattle.std.proofs.Common.{◌≡◌}
use Rattle.service_ends.specs.Standing.{IsIndexed, SameApplication, state_of}
use Rattle.service_ends.specs.Whole.{app_of}
use Rattle.monitor_core.specs.Starting.{AreFresh, all_opened}
use Rattle.monitor_core.proofs.start.open_all.Given as goal

abbrev pub invariant-loop-row : goal.invariant-loop-row
invariant-loop-row l = record {
  indexed : IsIndexed l.parts;
  same : SameApplication l.fn.parts l.parts;
  fresh : AreFresh (state_of l.parts) l.row-iterator.rest.items;
  made : all_opened (app_of l.fn.parts) (state_of l.parts) l.row-iterator.rest.items ≡ all_opened (app_of l.fn.parts) (state_of l.fn.parts) l.fn.rows.items;
}
