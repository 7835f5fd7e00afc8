use Rattle.kdcs_types.specs.Tables.{job_row}
use Rattle.record_codec.specs.Values.{record_of}
use Rattle.record_codec.proofs.Grown.{grown}
use Rattle.record_codec.proofs.encode.put_jobs.Goals as goal

pub loop-row-preserved : goal.loop-row-preserved
loop-row-preserved c = grown job_row record_of c.args.records.now c.loop-row.records c.put_job.new.records c.args.rows.now c.loop-row.row-index c.row-item.result c.loop-row-test.true c.row-item.is c.loop-row.invariant c.in_ok-put_job.ensures
