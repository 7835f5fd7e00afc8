use Rattle.std.proofs.Common.{◌≡◌, ◌∙◌, ap, length, List, ℕ}
use Rattle.std.specs.Prelude.{Option, Some, sum_by}
use Rattle.kdcs_types.specs.declared.service.Job.{Job}
use Rattle.kdcs_types.specs.declared.service.JobValue.{JobValue}
use Rattle.kdcs_types.specs.declared.service.Service.{Service}
use Rattle.abstract_monitor.specs.Bytes.{Bytes}
use Rattle.abstract_monitor.specs.Charges.{charge_of, job_length, service_length, total_charge}
use Rattle.table_fit.specs.ChargingLaws.{all_left}
use Rattle.table_fit.specs.Charging.{left_after}
use Rattle.table_fit.proofs.charges.pages_left.Goals as goal

-- the rows that are gone over are those of the tables
same_rows : {E : Type 0} (charge : E → ℕ) (before after : Option ℕ) (rows list : List E) → after ≡ left_after before (sum_by charge rows) → rows ≡ list → after ≡ left_after before (sum_by charge list)
same_rows {E} charge before after rows list e is = e ∙ ap (λ (es : List E). left_after before (sum_by charge es)) is

pub returns : goal.returns
unfolding total_charge
returns c =
    let b = c.args.blksize in
    let t = c.args.tables.now in
    all_left c.args.pages _ _ _ _ _ _ c.left_after-gssbs.result c.left_after-tlss.result c.left_after-ulss.result c.left_after-services.result c.left_after-jobs.result c.left_after.result
    (same_rows (λ (r : Bytes × Bytes). charge_of b (length r.1)) (Some c.args.pages) c.left_after-gssbs.result _ t.gssbs c.left_after-gssbs.ensures c.gssbs.ensures)
    (same_rows (λ (r : Bytes × Bytes × Bytes). charge_of b (length r.2)) c.left_after-gssbs.result c.left_after-tlss.result _ t.tlss c.left_after-tlss.ensures c.tlss.ensures)
    (same_rows (λ (r : Bytes × Bytes × Bytes). charge_of b (length r.2)) c.left_after-tlss.result c.left_after-ulss.result _ t.ulss c.left_after-ulss.ensures c.ulss.ensures)
    (same_rows (λ (s : Service). charge_of b (service_length s)) c.left_after-ulss.result c.left_after-services.result _ t.services c.left_after-services.ensures c.services.ensures)
    (same_rows (λ (j : Job). charge_of b (job_length j.value)) c.left_after-services.result c.left_after-jobs.result _ t.jobs c.left_after-jobs.ensures c.jobs.ensures)
    (same_rows (λ (r : Bytes × JobValue). charge_of b (job_length r.1)) c.left_after-jobs.result c.left_after.result _ t.shown c.left_after.ensures c.shown.ensures)
