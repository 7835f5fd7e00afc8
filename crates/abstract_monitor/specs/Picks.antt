-- What a free task takes: the first allowed service of the ready list, else the due job of an allowed TAC.
use Rattle.std.specs.Prelude.{ℕ, Bool, true, false, ◌&&◌, ◌||◌, not, List, [], ◌∷◌, map, count_by, filter, find, Option, Some, None, nat_lt, nat_le, is_some, option_map, ◌==◌, if◌then◌else◌}
use Rattle.std.specs.FinMap.{find as value_at}
use Rattle.kdcs_types.specs.declared.key.ServiceId.{ServiceId}
use Rattle.kdcs_types.specs.declared.key.ServiceId.TheVariants.{Asynchronous}
use Rattle.kdcs_types.specs.declared.key.Target.{Target}
use Rattle.kdcs_types.specs.declared.key.Target.TheVariants.{Tac, Lterm}
use Rattle.kdcs_types.specs.declared.service.Job.{Job}
use Rattle.application_types.specs.declared.kdcdef_types.entry.TacEntry.{TacEntry}
use Rattle.application_types.specs.Generation.{Generated, tac_of, class_limit}
use Rattle.abstract_monitor.specs.declared.work.Work.{Work}
use Rattle.abstract_monitor.specs.declared.work.Work.TheVariants as work
use Rattle.abstract_monitor.specs.Bytes.{Bytes}
use Rattle.kdcs_types.specs.Keys.{id_cmp}
use Rattle.abstract_monitor.specs.State.{Application, OpenTransaction, State}
use Rattle.abstract_monitor.specs.Endings.{is_asynchronous}
use Rattle.abstract_monitor.specs.Locks.{Active}

-- ---- due jobs

-- no asynchronous service has the job's number
abbrev pub is_free : Active → Job → Bool
is_free active job = not (is_some (value_at id_cmp (Asynchronous job.number) active))

-- the jobs that no open service has taken
abbrev pub free_jobs : Active → List Job → List Job
free_jobs active jobs = filter (is_free active) jobs

-- by due, then by number
abbrev pub is_earlier : Job → Job → Bool
is_earlier a b = nat_lt a.value.due b.value.due || (a.value.due == b.value.due && nat_lt a.number b.number)

-- the earlier of two jobs
abbrev pub earlier_of : Job → Option Job → Option Job
earlier_of job None = Some job
earlier_of job (Some other) = Some (if is_earlier other job then other else job)

-- the job with the least due, and of those the least number
unfoldable pub least_job : List Job → Option Job
least_job [] = None
least_job (job ∷ jobs) = earlier_of job (least_job jobs)

-- of free jobs, the due one whose target passes the test, with the least due and number; due at the clock itself is due
abbrev pub due_job : (now : ℕ) → (Target → Bool) → (free : List Job) → Option Job
due_job now allowed free = least_job (filter (λ (job : Job). nat_le job.value.due now && allowed job.value.to) free)

-- ---- classes

-- 0 for no TAC
abbrev pub class_by : Option TacEntry → ℕ
class_by None = 0
class_by (Some t) = t.class

-- the class of a TAC, 0 for none
abbrev pub class_of : Generated → Bytes → ℕ
class_of g tac = class_by (tac_of g tac)

-- a service with the class of its current TAC
abbrev pub Classed : Type 0
Classed = ServiceId × ℕ

-- the task holds a service that passes the test
abbrev pub place_passes : (Classed → Bool) → Option Classed → Bool
place_passes test None = false
place_passes test (Some e) = test e

-- how many tasks hold a service that passes the test
abbrev pub tasks_with : List (Option Classed) → (Classed → Bool) → ℕ
tasks_with places test = count_by (place_passes test) places

-- a class without TACCLASS has no limit
abbrev pub below_limit : Option ℕ → ℕ → Bool
below_limit None n = true
below_limit (Some limit) n = nat_lt n limit

-- fewer tasks than the class allows hold services whose current TAC has this class
abbrev pub class_is_free : Generated → List (Option Classed) → ℕ → Bool
class_is_free g places class = below_limit (class_limit g class) (tasks_with places (λ e. e.1 == class))

-- fewer tasks than ASYNTASKS hold asynchronous services
abbrev pub asynchronous_is_free : Generated → List (Option Classed) → Bool
asynchronous_is_free g places = nat_lt (tasks_with places (λ e. is_asynchronous e.0)) g.limits.asyntasks

-- a task may work for a service of this kind and class
abbrev pub is_allowed : Generated → List (Option Classed) → (asynchronous : Bool) → (class : ℕ) → Bool
is_allowed g places asynchronous class = class_is_free g places class && (not asynchronous || asynchronous_is_free g places)

-- a task may work for this service
abbrev pub service_is_allowed : Generated → List (Option Classed) → Classed → Bool
service_is_allowed g places e = is_allowed g places (is_asynchronous e.0) e.1

-- a task may begin a service of this TAC; a job for an LTERM is no work of tasks
abbrev pub target_is_allowed : Generated → List (Option Classed) → Target → Bool
target_is_allowed g places (Tac tac) = is_allowed g places true (class_of g tac)
target_is_allowed g places (Lterm lterm) = false

-- ---- the choice

-- a job as work
abbrev pub job_work : Option Job → Option Work
job_work None = None
job_work (Some job) = Some (work.Job job.number)

-- a ready service comes before a job
abbrev pub pick_by : Option Classed → Option Job → Option Work
pick_by (Some e) job = Some (work.Service e.0)
pick_by None job = job_work job

-- what a free task takes, if anything: the first allowed entry of the ready list, else the due job of an allowed TAC
abbrev pub pick_work : Generated → (ready : List Classed) → (places : List (Option Classed)) → (now : ℕ) → (free : List Job) → Option Work
pick_work g ready places now free = pick_by (find (service_is_allowed g places) ready) (due_job now (target_is_allowed g places) free)

-- ---- the choice in a state

-- none without an open transaction
abbrev pub current_by : Option OpenTransaction → Bytes
current_by None = []
current_by (Some x) = x.current

-- the service with the class of its current TAC
abbrev pub classed : Application → State → ServiceId → Classed
classed app s id = (id, class_of app.generation (current_by (value_at id_cmp id s.active)))

-- the ready list with classes
abbrev pub ready_classes : Application → State → List Classed
ready_classes app s = map (classed app s) s.ready

-- the tasks with the classes of their services
abbrev pub place_classes : Application → State → List (Option Classed)
place_classes app s = map (option_map (classed app s)) s.tasks

-- what a free task takes, if anything
unfoldable pub pick : Application → State → Option Work
pick app s = pick_work app.generation (ready_classes app s) (place_classes app s) s.tables.clock (free_jobs s.active s.tables.jobs)
