use Rattle.std.proofs.Common.{◌≡◌, ◌++◌, take, All}
use Rattle.std.specs.Prelude.{flat_map}
use Rattle.record_codec.specs.TableReadings.{AreRecordBytes}
use Rattle.audit_trail.specs.Printed.{set_line}
use Rattle.audit_trail.proofs.writing.put_records.Given as goal

abbrev pub invariant-loop-record : goal.invariant-loop-record
invariant-loop-record l = record {
  put : l.out ≡ l.initial.out ++ flat_map set_line (take l.record-index l.records);
  bytes : All AreRecordBytes (take l.record-index l.records);
}
