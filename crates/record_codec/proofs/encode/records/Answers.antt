use Rattle.std.proofs.Common.{◌<◌, ◌^◌, List, ℕ, length, All, subst, sym}
use Rattle.kdcs_types.specs.declared.service.Service.{Service}
use Rattle.kdcs_types.specs.declared.service.Job.{Job}
use Rattle.kdcs_types.specs.declared.service.JobValue.{JobValue}
use Rattle.record_codec.specs.Values.{service_bytes, job_bytes}
use Rattle.record_codec.proofs.Short.{short_services, short_jobs, short_shown}
use Rattle.record_codec.proofs.encode.records.Goals as goal

pub put_services-requires : goal.put_services-requires
put_services-requires c = subst (All (λ (s : Service). length (service_bytes s) < 2 ^ 32)) (sym c.services.ensures) (short_services c.args.tables.now c.requires)

pub put_jobs-requires : goal.put_jobs-requires
put_jobs-requires c = subst (All (λ (j : Job). length (job_bytes j.value) < 2 ^ 32)) (sym c.jobs.ensures) (short_jobs c.args.tables.now c.requires)

pub put_shown-requires : goal.put_shown-requires
put_shown-requires c = subst (All (λ (r : List ℕ × JobValue). length (job_bytes r.1) < 2 ^ 32)) (sym c.shown.ensures) (short_shown c.args.tables.now c.requires)
