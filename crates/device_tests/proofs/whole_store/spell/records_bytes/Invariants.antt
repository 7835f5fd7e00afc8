use Rattle.std.proofs.Common.{◌≡◌, length, take}
use Rattle.std.specs.Prelude.{sum_by}
use Rattle.std.specs.List.{flat_map}
use Rattle.kd_records.specs.Charged.{record_length}
use Rattle.device_tests.specs.File.{spelled_record}
use Rattle.device_tests.proofs.whole_store.spell.records_bytes.Given as goal

abbrev pub invariant-loop-record : goal.invariant-loop-record
invariant-loop-record l = record {
  bytes : l.out ≡ flat_map spelled_record (take l.record-index l.records);
  length : length l.out ≡ sum_by record_length (take l.record-index l.records);
}
