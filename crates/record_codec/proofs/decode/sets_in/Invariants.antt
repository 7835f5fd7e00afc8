use Rattle.std.proofs.Common.{◌≡◌, take, drop, All}
use Rattle.record_codec.specs.TableReadings.{AreRecordBytes, sets_read}
use Rattle.record_codec.proofs.SetsSoFar.{sets_onto}
use Rattle.record_codec.proofs.decode.sets_in.Given as goal

abbrev pub invariant-loop-record : goal.invariant-loop-record
invariant-loop-record l = record {
  read : sets_onto l.sets (sets_read (drop l.record-index l.records)) ≡ sets_read l.records;
  bytes : All AreRecordBytes (take l.record-index l.records);
}
