-- That each commit of a run meets the laws on jobs and on services' rows, and that no job number is drawn twice.
use Rattle.std.specs.Prelude.{true, ◌≡◌, ◌⊎◌, ◌<◌, ◌≤◌, ℕ, zero, suc, List, [], ◌∷◌, ◌++◌, Option, Some, None}
use Rattle.kdcs_types.specs.declared.act.Act.TheVariants.{Emit}
use Rattle.kdcs_types.specs.declared.key.ServiceId.TheVariants.{Dialogue, Asynchronous}
use Rattle.kdcs_types.specs.declared.service.Job.{Job}
use Rattle.kdcs_types.specs.declared.service.JobValue.{JobValue}
use Rattle.kdcs_types.specs.declared.service.Service.{Service}
use Rattle.kdcs_types.specs.Tables.{TableRows, job_of, service_of}
use Rattle.application_types.specs.Generation.{Generated}
use Rattle.abstract_monitor.specs.Bytes.{Bytes}
use Rattle.abstract_monitor.specs.Lines.{out_line}
use Rattle.abstract_monitor.specs.State.{Application, State}
use Rattle.abstract_monitor.specs.Redelivery.{fate}
use Rattle.abstract_monitor.specs.Endings.{durable}
use Rattle.abstract_monitor.specs.Turns.{commit_of, pterm_of_user, turn_of}
use Rattle.abstract_monitor.specs.declared.command.Command.{Command}
use Rattle.abstract_monitor.specs.Commands.{ScriptStep, Maker, ByTick, ByShow, ByTransaction, turned_step, command_of, state_after}
use Rattle.abstract_monitor.specs.Trace.{history}
use Rattle.laws_of_states.specs.Applications.{IsApplication}
use Rattle.laws_of_states.specs.Commits.{OneGoes, Treats, QueueLaw, ServiceLaw}
use Rattle.laws_of_states.specs.Keeping.{HasFacts, IsScriptOf}
use Rattle.laws_of_runs.specs.Along.{MeetsAlong}
use Rattle.laws_of_runs.specs.Doings.{StepMakes}

-- ---- one step

-- what a commit makes of the tables, from any state
abbrev pub TurnsDoSo : Type 0
TurnsDoSo = (app : Application) (s : State) (task : ℕ) → StepMakes app s (turned_step (turn_of app s task)) (turned_step (turn_of app s task)).by

abbrev pub CommandsDoSo : Type 0
CommandsDoSo = (app : Application) (s : State) (c : Command) → StepMakes app s (command_of app s c) (command_of app s c).by

-- a step with a commit meets both laws
abbrev pub MeetsBoth : Application → State → ScriptStep → Option Maker → Type 0
MeetsBoth app s d None = Unit {0}
MeetsBoth app s d (Some by) = QueueLaw app (durable app.generation s.tables) (durable app.generation d.after.tables) by d.acts × ServiceLaw app s d.after.tables by

abbrev pub KeepsQueues : Application → State → ScriptStep → Type 0
KeepsQueues app s d = MeetsBoth app s d d.by

abbrev pub TurnsKeepQueues : Type 0
TurnsKeepQueues = (app : Application) (s : State) (task : ℕ) → HasFacts app s → KeepsQueues app s (turned_step (turn_of app s task))

abbrev pub CommandsKeepQueues : Type 0
CommandsKeepQueues = (app : Application) (s : State) (c : Command) → HasFacts app s → KeepsQueues app s (command_of app s c)

-- the row keeps the message that is sent after the commit, to the terminal of the user
pub record IsMessageSent (app : Application) (s : State) (user : Bytes) (row : Service) (d : ScriptStep) : Type 0 where
  pub pterm : Bytes
  pub message : Bytes
  pub at : pterm_of_user s.signed user ≡ Some pterm
  pub last : row.last ≡ Some message
  pub acts : d.acts ≡ commit_of app s.tables d.after.tables ∷ Emit (out_line pterm message) ∷ []

-- a point that awaits the user's input sends its message and keeps it
abbrev pub AwaitingSends : Application → State → ScriptStep → Option Maker → Type 0
AwaitingSends app s d None = Unit {0}
AwaitingSends app s d (Some (ByTick ticks)) = Unit {0}
AwaitingSends app s d (Some (ByShow lterm)) = Unit {0}
AwaitingSends app s d (Some (ByTransaction kept)) =
    (user : Bytes) (row : Service) → kept.service ≡ Dialogue user → service_of d.after.tables (Dialogue user) ≡ Some row → row.awaits ≡ true → IsMessageSent app s user row d

abbrev pub SendsAtPoints : Application → State → ScriptStep → Type 0
SendsAtPoints app s d = AwaitingSends app s d d.by

-- ---- whole runs

-- each such point of a run does
abbrev pub HistoriesSendAtPoints : Type 0
HistoriesSendAtPoints = MeetsAlong SendsAtPoints

-- each step of a script that commits meets both laws
abbrev pub HistoriesKeepQueues : Type 0
HistoriesKeepQueues = MeetsAlong KeepsQueues

-- a job of the first value has the second one after so many abnormal ends of its service
abbrev pub HasAfterEnds : Generated → ℕ → JobValue → JobValue → Type 0
HasAfterEnds g zero v w = v ≡ w
HasAfterEnds g (suc ends) v w = (u : JobValue) × ((fate g v ≡ Some u) × HasAfterEnds g ends u w)

-- it is the same job, which may have been delivered again, or may be a dead letter
pub record IsSameJob (g : Generated) (v w : JobValue) : Type 0 where
  pub ends : ℕ
  pub is : HasAfterEnds g ends v w

-- a number stands for the same job as before, or for none
abbrev pub IsNoOther : Generated → (before after : Option JobValue) → Type 0
IsNoOther g before None = Unit {0}
IsNoOther g None (Some w) = ⊥
IsNoOther g (Some v) (Some w) = IsSameJob g v w

-- the next job number does not fall, and a number that was drawn stands for no other job
pub record KeepsNumbers (g : Generated) (before after : TableRows) : Type 0 where
  pub next : before.next_job ≤ after.next_job
  pub drawn : (number : ℕ) → number < before.next_job → IsNoOther g (job_of before number) (job_of after number)

-- the job of this number and the service that it began are over
pub record IsOver (t : TableRows) (number : ℕ) : Type 0 where
  pub drawn : number < t.next_job
  pub job : job_of t number ≡ None
  pub row : service_of t (Asynchronous number) ≡ None

-- the job is there, with the value that abnormal ends of its service gave it, or was taken with that value
pub record IsNotLost (g : Generated) (after : TableRows) (IsTaken : Job → Type 0) (number : ℕ) (value : JobValue) : Type 0 where
  pub now : JobValue
  pub same : IsSameJob g value now
  pub stands : (job_of after number ≡ Some now) ⊎ IsTaken (record { number = number; value = now })

-- no number is drawn twice; a job is there, or was taken in between; and one that is over stays over
pub record KeepsJobs (g : Generated) (before after : TableRows) (IsTaken : Job → Type 0) : Type 0 where
  pub numbers : KeepsNumbers g before after
  pub lost : (number : ℕ) (value : JobValue) → job_of before number ≡ Some value → IsNotLost g after IsTaken number value
  pub doubled : (number : ℕ) → IsOver before number → IsOver after number

-- the commit of this step takes the job, which is gone after it
pub record IsTakenAt (app : Application) (d : ScriptStep) (job : Job) : Type 0 where
  pub by : Maker
  pub is : d.by ≡ Some by
  pub taken : Treats app by (OneGoes job) (durable app.generation d.after.tables) d.acts
  pub gone : job_of d.after.tables job.number ≡ None

-- one of these steps does
abbrev pub IsTakenIn : Application → List ScriptStep → Job → Type 0
IsTakenIn app [] job = ⊥
IsTakenIn app (d ∷ ds) job = IsTakenAt app d job ⊎ IsTakenIn app ds job

-- it is so from any state of these steps to any later one
abbrev pub JobsAreKept : Application → State → List ScriptStep → Type 0
JobsAreKept app s steps =
    (first more rest : List ScriptStep) → steps ≡ first ++ more ++ rest → KeepsJobs app.generation (state_after s first).tables (state_after s (first ++ more)).tables (IsTakenIn app more)

-- and so along a run
abbrev pub JobsAreDoneOnce : Type 0
JobsAreDoneOnce = (app : Application) (s : State) (script : List Command) → IsApplication app → IsScriptOf app script → HasFacts app s → JobsAreKept app s (history app s script)
