use Rattle.std.proofs.Common.{◌≡◌, take}
use Rattle.std.specs.Prelude.{sum_by}
use Rattle.abstract_monitor.specs.Charges.{list_length}
use Rattle.table_fit.proofs.lengths.parts_length.Given as goal

abbrev pub invariant-loop-part : goal.invariant-loop-part
invariant-loop-part l = l.total ≡ sum_by list_length (take l.part-index l.parts)
