use Rattle.std.proofs.Common.{◌≡◌, sym, subst, arith, All, ℕ, List, ◌+◌, drop}
use Rattle.std.specs.Prelude.{Some}
use Rattle.std.proofs.lemmas.List.{take_all}
use Rattle.std.proofs.lemmas.List.Elements.{All-more}
use Rattle.record_codec.specs.Fields.{AreBytes}
use Rattle.record_codec.specs.RowReadings.{row_read}
use Rattle.record_codec.specs.TableReadings.{AreRecordBytes, sets_read}
use Rattle.record_codec.proofs.SetsSoFar.{sets_onto, one_more}
use Rattle.record_codec.proofs.decode.sets_in.Goals as goal

pub loop-record-preserved : goal.loop-record-preserved
loop-record-preserved c = record {
  read =
      subst (λ done. sets_onto done (sets_read (drop (c.loop-record.record-index + 1) c.args.records.now)) ≡ sets_read c.args.records.now) (sym c.in_ok-push.ensures.ok)
      (one_more c.args.records.now c.loop-record.record-index c.loop-record.sets (sets_read c.args.records.now) c.record-item.result c.in_ok-row.row c.loop-record-test.true c.record-item.is c.loop-record.invariant.read
      (subst (λ (v : List ℕ). row_read (c.record-item.result.0, v) ≡ Some c.in_ok-row.row) c.as_slice.ensures c.in_ok-row.ensures.row));
  bytes =
      All-more AreRecordBytes c.args.records.now c.loop-record.record-index c.record-item.result c.loop-record-test.true c.loop-record.invariant.bytes
      (subst AreRecordBytes c.record-item.is (c.in_ok-row.ensures.key, subst AreBytes c.as_slice.ensures c.in_ok-row.ensures.value));
}

pub returns-clause-bytes : goal.returns-clause-bytes
returns-clause-bytes c = subst (All AreRecordBytes) (take_all c.loop-record.record-index c.args.records.now (omega (arith, c.loop-record-test.false))) c.loop-record.invariant.bytes
