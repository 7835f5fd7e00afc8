use Rattle.std.proofs.Common.{subst, arith, All}
use Rattle.std.proofs.lemmas.Grind.{common_steps}
use Rattle.std.proofs.lemmas.List.{take_all}
use Rattle.std.proofs.lemmas.List.Elements.{All-more}
use Rattle.record_codec.specs.Fields.{AreBytes}
use Rattle.record_codec.specs.TableReadings.{AreRecordBytes}
use Rattle.audit_trail.proofs.writing.put_records.Goals as goal

pub loop-record-preserved : goal.loop-record-preserved
loop-record-preserved c = record {
  put = grind (arith, common_steps);
  bytes =
      All-more AreRecordBytes c.args.records.now c.loop-record.record-index c.record-item.result c.loop-record-test.true c.loop-record.invariant.bytes
      (subst AreRecordBytes c.record-item.is (c.in_ok-put_set.ensures.bytes.0, subst AreBytes c.as_slice.ensures c.in_ok-put_set.ensures.bytes.1));
}

pub returns-clause-bytes : goal.returns-clause-bytes
returns-clause-bytes c = subst (All AreRecordBytes) (take_all c.loop-record.record-index c.args.records.now (omega (arith, c.loop-record-test.false))) c.loop-record.invariant.bytes
