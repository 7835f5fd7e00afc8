-- Short values of tables, list by list.
use Rattle.std.specs.Prelude.{◌<◌, ◌^◌, ℕ, List, length, All}
use Rattle.std.proofs.lemmas.List.Elements.{All-from_recursion, All-weaker}
use Rattle.kdcs_types.specs.declared.service.Service.{Service}
use Rattle.kdcs_types.specs.declared.service.Job.{Job}
use Rattle.kdcs_types.specs.declared.service.JobValue.{JobValue}
use Rattle.kdcs_types.specs.Tables.{TableRows, service_row, job_row, shown_row}
use Rattle.record_codec.specs.Values.{service_bytes, job_bytes, HasShortValue}
use Rattle.record_codec.specs.Records.{HasShortValues}
use Rattle.record_codec.specs.PatchesLaws.{each_row}

pub short_services : (t : TableRows) → HasShortValues t → All (λ (s : Service). length (service_bytes s) < 2 ^ 32) t.services
short_services t h =
    All-weaker (λ (s : Service). HasShortValue (service_row s)) (λ (s : Service). length (service_bytes s) < 2 ^ 32) (λ s k. k.short) t.services
    (All-from_recursion (λ (s : Service). HasShortValue (service_row s)) t.services (each_row HasShortValue t h).services)

pub short_jobs : (t : TableRows) → HasShortValues t → All (λ (j : Job). length (job_bytes j.value) < 2 ^ 32) t.jobs
short_jobs t h =
    All-weaker (λ (j : Job). HasShortValue (job_row j)) (λ (j : Job). length (job_bytes j.value) < 2 ^ 32) (λ j k. k.short) t.jobs
    (All-from_recursion (λ (j : Job). HasShortValue (job_row j)) t.jobs (each_row HasShortValue t h).jobs)

pub short_shown : (t : TableRows) → HasShortValues t → All (λ (r : List ℕ × JobValue). length (job_bytes r.1) < 2 ^ 32) t.shown
short_shown t h =
    All-weaker (λ (r : List ℕ × JobValue). HasShortValue (shown_row r)) (λ (r : List ℕ × JobValue). length (job_bytes r.1) < 2 ^ 32) (λ r k. k.short) t.shown
    (All-from_recursion (λ (r : List ℕ × JobValue). HasShortValue (shown_row r)) t.shown (each_row HasShortValue t h).shown)
