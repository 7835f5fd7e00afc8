use Rattle.std.proofs.Common.{◌≡◌, ◌+◌, length, take}
use Rattle.std.specs.Prelude.{flat_map, sum_by}
use Rattle.abstract_monitor.specs.Bytes.{Bytes}
use Rattle.abstract_monitor.specs.Charges.{list_length}
use Rattle.record_codec.specs.Values.{lssb_bytes}
use Rattle.table_fit.proofs.lengths.lssbs_length.Given as goal

abbrev pub invariant-loop-lssb : goal.invariant-loop-lssb
invariant-loop-lssb l = record {
  sum : l.total ≡ sum_by (λ (e : Bytes × Bytes). 8 + list_length e.1) (take l.lssb-index l.lssbs);
  bytes : l.total ≡ length (flat_map lssb_bytes (take l.lssb-index l.lssbs));
}
