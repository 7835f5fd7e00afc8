-- What a synchronisation point and an abnormal end make of the jobs.
use Rattle.std.specs.Prelude.{◌≡◌, ℕ, ◌+◌, List, ◌++◌, length, Option, Some, None, option_map, option_and_then}
use Rattle.kdcs_types.specs.declared.key.Key.TheVariants.{Job as JobKey}
use Rattle.kdcs_types.specs.declared.key.ServiceId.{ServiceId}
use Rattle.kdcs_types.specs.declared.key.ServiceId.TheVariants.{Dialogue, Asynchronous}
use Rattle.kdcs_types.specs.declared.service.Job.{Job}
use Rattle.kdcs_types.specs.declared.service.JobValue.{JobValue}
use Rattle.kdcs_types.specs.declared.service.Service.{Service}
use Rattle.kdcs_types.specs.Keyed.{item_at, with_item, without_item}
use Rattle.kdcs_types.specs.Tables.{TableRows, job_key}
use Rattle.application_types.specs.Generation.{Generated}
use Rattle.abstract_monitor.specs.declared.outcome.Outcome.{Outcome}
use Rattle.abstract_monitor.specs.Redelivery.{fate}
use Rattle.abstract_monitor.specs.State.{OpenTransaction}
use Rattle.abstract_monitor.specs.Endings.{numbered, synchronised, broken}
use Rattle.laws_of_states.specs.Commits.{AreNumberedFrom}

-- at a point an asynchronous service without a row takes its own job away, and nobody else does
abbrev pub jobs_left : ServiceId → Option Service → List Job → List Job
jobs_left (Dialogue user) began jobs = jobs
jobs_left (Asynchronous number) (Some row) jobs = jobs
jobs_left (Asynchronous number) None jobs = without_item job_key (JobKey number) jobs

-- the value of the job of this number
abbrev pub value_in : ℕ → List Job → Option JobValue
value_in number jobs = option_map (λ (j : Job). j.value) (item_at job_key (JobKey number) jobs)

-- the job of this number with this value
abbrev pub job_with : ℕ → JobValue → Job
job_with number v = record { number = number; value = v }

-- the jobs, where the one of this number has this value, or is gone
abbrev pub jobs_with : ℕ → Option JobValue → List Job → List Job
jobs_with number None jobs = without_item job_key (JobKey number) jobs
jobs_with number (Some v) jobs = with_item job_key (job_with number v) jobs

-- at an abnormal end the own job of an asynchronous service without a row meets its fate, and no other does
abbrev pub jobs_at_end : Generated → ServiceId → Option Service → List Job → List Job
jobs_at_end g (Dialogue user) began jobs = jobs
jobs_at_end g (Asynchronous number) (Some row) jobs = jobs
jobs_at_end g (Asynchronous number) None jobs = jobs_with number (option_and_then (fate g) (value_in number jobs)) jobs

-- the jobs of the transaction, as the tables number them
abbrev pub new_jobs : TableRows → OpenTransaction → List Job
new_jobs t x = numbered t.next_job t.clock x.user x.lterm x.drafts

-- a synchronisation point: the jobs that are left, and then the new ones, numbered one after another without a gap
pub record PointQueue (g : Generated) (t : TableRows) (id : ServiceId) (x : OpenTransaction) (o : Outcome) : Type 0 where
  pub jobs : (synchronised g t id x o).jobs ≡ jobs_left id x.began t.jobs ++ new_jobs t x
  pub numbers : AreNumberedFrom t.next_job (new_jobs t x)
  pub next : (synchronised g t id x o).next_job ≡ t.next_job + length (new_jobs t x)
  pub clock : (synchronised g t id x o).clock ≡ t.clock

abbrev pub PointsNumberJobs : Type 0
PointsNumberJobs = (g : Generated) (t : TableRows) (id : ServiceId) (x : OpenTransaction) (o : Outcome) → PointQueue g t id x o

-- an abnormal end draws no number
pub record EndQueue (g : Generated) (t : TableRows) (id : ServiceId) (x : OpenTransaction) : Type 0 where
  pub jobs : (broken g t id x).jobs ≡ jobs_at_end g id x.began t.jobs
  pub next : (broken g t id x).next_job ≡ t.next_job
  pub clock : (broken g t id x).clock ≡ t.clock

abbrev pub EndsDrawNoNumber : Type 0
EndsDrawNoNumber = (g : Generated) (t : TableRows) (id : ServiceId) (x : OpenTransaction) → EndQueue g t id x
