-- What a synchronisation point and an abnormal end write, and which of it changes a row.
use Rattle.std.specs.Prelude.{ℕ, ◌+◌, not, Bool, cond, List, [], ◌∷◌, ◌++◌, map, filter, length, Option, Some, None, option_and_then}
use Rattle.kdcs_types.specs.declared.act.Change.{Change}
use Rattle.kdcs_types.specs.declared.act.Change.TheVariants.{Set, Remove}
use Rattle.kdcs_types.specs.declared.act.Changes.{Changes}
use Rattle.kdcs_types.specs.declared.key.Key.TheVariants.{Job as JobKey}
use Rattle.kdcs_types.specs.declared.key.ServiceId.{ServiceId}
use Rattle.kdcs_types.specs.declared.key.ServiceId.TheVariants.{Dialogue, Asynchronous}
use Rattle.kdcs_types.specs.declared.service.Job.{Job}
use Rattle.kdcs_types.specs.declared.service.Service.{Service}
use Rattle.kdcs_types.specs.Same.{row_same}
use Rattle.kdcs_types.specs.Tables.{TableRows, change_key, job_of, job_row, row_at}
use Rattle.application_types.specs.Generation.{Generated}
use Rattle.abstract_monitor.specs.declared.outcome.Outcome.{Outcome}
use Rattle.abstract_monitor.specs.Endings.{is_durable, job_change, row_after, service_change}
use Rattle.abstract_monitor.specs.Redelivery.{fate}
use Rattle.abstract_monitor.specs.State.{OpenTransaction}
use Rattle.laws_of_states.specs.JobLaw.{new_jobs}
use Rattle.open_transaction.specs.Deliveries.{own_job}
use Rattle.table_fit.specs.Weights.{row_left}
use Rattle.service_parts.specs.Areas.{changes_of}

-- the change leaves another row than is there
abbrev pub is_real : TableRows → Change → Bool
is_real t c = not (row_same (row_left c) (row_at t (change_key c)))

-- the row of the service, where it outlives a stop
abbrev pub service_changes : Generated → ServiceId → Option Service → List Change
service_changes g id row = cond (is_durable g id) (service_change id row ∷ []) []

-- the own job goes at a point, where an asynchronous service has no row
abbrev pub own_job_changes : ServiceId → Option Service → List Change
own_job_changes (Dialogue user) began = []
own_job_changes (Asynchronous number) (Some row) = []
own_job_changes (Asynchronous number) None = Remove (JobKey number) ∷ []

-- a job meets its fate
abbrev pub fates : Generated → TableRows → Option ℕ → List Change
fates g t None = []
fates g t (Some number) = job_change number (option_and_then (fate g) (job_of t number)) ∷ []

-- at an abnormal end the own job does
abbrev pub fate_changes : Generated → TableRows → ServiceId → Option Service → List Change
fate_changes g t id began = fates g t (own_job id began)

-- new jobs
abbrev pub job_changes : List Job → List Change
job_changes jobs = map (λ (j : Job). Set (job_row j)) jobs

-- what a synchronisation point with this row of the service writes, in ascending order of the keys: areas, the service's row, jobs
abbrev pub writes_with : Generated → TableRows → ServiceId → OpenTransaction → Option Service → List Change
writes_with g t id x row = changes_of x.written ++ service_changes g id row ++ own_job_changes id x.began ++ job_changes (new_jobs t x)

abbrev pub point_writes : Generated → TableRows → ServiceId → OpenTransaction → Outcome → List Change
point_writes g t id x o = writes_with g t id x (row_after g id x o)

-- what an abnormal end writes
abbrev pub end_writes : Generated → TableRows → ServiceId → OpenTransaction → List Change
end_writes g t id x = service_changes g id None ++ fate_changes g t id x.began

-- what it changes
abbrev pub changes_with : Generated → TableRows → ServiceId → OpenTransaction → Option Service → Changes
changes_with g t id x row = record { clock = t.clock; next_job = t.next_job + length x.drafts; items = filter (is_real t) (writes_with g t id x row) }

-- what a synchronisation point changes
abbrev pub point_changes : Generated → TableRows → ServiceId → OpenTransaction → Outcome → Changes
point_changes g t id x o = changes_with g t id x (row_after g id x o)

-- what an abnormal end changes
abbrev pub end_changes : Generated → TableRows → ServiceId → OpenTransaction → Changes
end_changes g t id x = record { clock = t.clock; next_job = t.next_job; items = filter (is_real t) (end_writes g t id x) }
