use Rattle.std.proofs.Common.{subst, All, ◌∙◌, ap}
use Rattle.kd_records.specs.declared.content.Content.{Content}
use Rattle.record_codec.specs.TableReadings.{AreRecordBytes}
use Rattle.audit_trail.proofs.writing.head_lines.Goals as goal

pub returns-clause-bytes : goal.returns-clause-bytes
returns-clause-bytes c = subst (All AreRecordBytes) (c.as_slice.ensures ∙ ap (λ (x : Content). x.items) c.in_ok-content.ensures) c.in_ok-put_records.ensures.bytes
