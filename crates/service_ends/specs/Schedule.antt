-- The ready list and the tasks, and what becomes of them.
use Rattle.std.specs.Prelude.{ℕ, ◌-◌, ◌≤◌, Bool, ◌||◌, not, List, [], ◌∷◌, ◌++◌, length, find, filter, replicate, Option, Some, None, slice_get, slice_set, map, option_map, if◌then◌else◌}
use Rattle.std.specs.List.{list_any}
use Rattle.kdcs_types.specs.declared.key.ServiceId.{ServiceId}
use Rattle.kdcs_types.specs.declared.key.ServiceId.TheVariants.{Asynchronous}
use Rattle.kdcs_types.specs.declared.key.Target.{Target}
use Rattle.kdcs_types.specs.declared.key.Target.TheVariants.{Tac, Lterm}
use Rattle.kdcs_types.specs.Keys.{id_eq}
use Rattle.application_types.specs.Generation.{Generated}
use Rattle.abstract_monitor.specs.declared.work.Work.{Work}
use Rattle.abstract_monitor.specs.declared.work.Work.TheVariants as work
use Rattle.abstract_monitor.specs.Picks.{Classed, class_of, place_passes, service_is_allowed, target_is_allowed}
use Rattle.open_transaction.specs.declared.async_queue.queue.QueuedJob.{QueuedJob}
use Rattle.open_transaction.specs.Queue.{first_due}

-- services with the classes of their current TACs
pub record Schedule : Type 0 where
  -- the services that are ready, front first
  pub ready : List Classed
  -- the service of each task, if it holds one
  pub places : List (Option Classed)

-- nothing is ready, and so many tasks are free
abbrev pub all_free : ℕ → Schedule
all_free tasks = record { ready = []; places = replicate tasks None }

-- ---- the ready list

abbrev pub is_ready : ServiceId → Schedule → Bool
is_ready id s = list_any (λ (e : Classed). id_eq id e.0) s.ready

-- the service at the back
abbrev pub with_ready : ServiceId → (class : ℕ) → Schedule → Schedule
with_ready id class s = record s { ready = s.ready ++ (id, class) ∷ [] }

-- the service is not ready
abbrev pub without_ready : ServiceId → Schedule → Schedule
without_ready id s = record s { ready = filter (λ (e : Classed). not (id_eq id e.0)) s.ready }

-- ---- the tasks, from 1

abbrev pub IsTask : ℕ → Schedule → Type 0
IsTask task s = (1 ≤ task) × (task ≤ length s.places)

-- what is in a place, if there is such a place
abbrev pub place_by : Option (Option Classed) → Option Classed
place_by None = None
place_by (Some place) = place

-- what a task holds
abbrev pub place_of : (task : ℕ) → Schedule → Option Classed
place_of task s = place_by (slice_get s.places (task - 1))

-- the service without its class
abbrev pub service_in : Option Classed → Option ServiceId
service_in place = option_map (λ (e : Classed). e.0) place

-- the service with another class
abbrev pub with_class : (class : ℕ) → Option Classed → Option Classed
with_class class place = option_map (λ (e : Classed). (e.0, class)) place

-- the task holds this, or nothing
abbrev pub with_place : (task : ℕ) → Option Classed → Schedule → Schedule
with_place task place s = record s { places = slice_set s.places (task - 1) place }

-- the place holds the service
abbrev pub holds : ServiceId → Option Classed → Bool
holds id place = place_passes (λ (e : Classed). id_eq id e.0) place

-- the service is ready or in a task
abbrev pub is_running : ServiceId → Schedule → Bool
is_running id s = is_ready id s || list_any (holds id) s.places

-- a place that held the service is free
abbrev pub left_by : ServiceId → Option Classed → Option Classed
left_by id place = if holds id place then None else place

-- no task holds the service
abbrev pub released : ServiceId → Schedule → Schedule
released id s = record s { places = map (left_by id) s.places }

-- ---- what a free task takes

-- the class of a job's TAC; a job for an LTERM has none
abbrev pub class_of_target : Generated → Target → ℕ
class_of_target g (Tac tac) = class_of g tac
class_of_target g (Lterm lterm) = 0

-- a service of the ready list goes to the task
abbrev pub took_service : (task : ℕ) → Classed → Schedule → Schedule
took_service task e s = with_place task (Some e) (without_ready e.0 s)

-- the service that a job begins goes to the task
abbrev pub took_job : Generated → (task : ℕ) → QueuedJob → Schedule → Schedule
took_job g task job s = with_place task (Some (Asynchronous job.number, class_of_target g job.to)) s

-- a ready service comes before a job
abbrev pub pick_by : Option Classed → Option QueuedJob → Option Work
pick_by (Some e) job = Some (work.Service e.0)
pick_by None (Some job) = Some (work.Job job.number)
pick_by None None = None

-- what a free task takes: the first allowed service of the ready list, else the first due job of an allowed TAC, if any
abbrev pub pick_queued : Generated → (ready : List Classed) → (places : List (Option Classed)) → (now : ℕ) → List QueuedJob → Option Work
pick_queued g ready places now jobs = pick_by (find (service_is_allowed g places) ready) (first_due now (target_is_allowed g places) jobs)

-- what becomes of the tasks and the ready list then
abbrev pub picked_by : Generated → (task : ℕ) → Option Classed → Option QueuedJob → Schedule → Schedule
picked_by g task (Some e) job s = took_service task e s
picked_by g task None (Some job) s = took_job g task job s
picked_by g task None None s = s

abbrev pub picked : Generated → (task now : ℕ) → List QueuedJob → Schedule → Schedule
picked g task now jobs s = picked_by g task (find (service_is_allowed g s.places) s.ready) (first_due now (target_is_allowed g s.places) jobs) s
