-- What the changes of a commit, which are those of the durable tables, make of tables that also have rows which no stop leaves.
use Rattle.std.specs.Prelude.{◌≡◌, ◌<◌, ℕ, Bool, true, false, IsSome, List, [], ◌∷◌, Option, Some, None}
use Rattle.std.specs.FinMap.{find}
use Rattle.std.specs.Option.{option_eq}
use Rattle.kdcs_types.specs.declared.act.Change.{Change}
use Rattle.kdcs_types.specs.declared.act.Change.TheVariants.{Set, Remove}
use Rattle.kdcs_types.specs.declared.act.Changes.{Changes}
use Rattle.kdcs_types.specs.declared.act.Row.TheVariants.{Shown as ShownRow}
use Rattle.kdcs_types.specs.declared.key.Key.TheVariants.{Job as JobKey}
use Rattle.kdcs_types.specs.declared.key.ServiceId.{ServiceId}
use Rattle.kdcs_types.specs.declared.key.ServiceId.TheVariants.{Asynchronous}
use Rattle.kdcs_types.specs.declared.service.Job.{Job}
use Rattle.kdcs_types.specs.declared.service.JobValue.{JobValue}
use Rattle.kdcs_types.specs.declared.service.Service.{Service}
use Rattle.kdcs_types.specs.Difference.{difference}
use Rattle.kdcs_types.specs.Keys.{id_cmp, id_eq}
use Rattle.kdcs_types.specs.Same.{job_value_eq}
use Rattle.kdcs_types.specs.Tables.{TableRows, AreChanges, IsSortedTables, changed, job_of, service_of, shown_of}
use Rattle.application_types.specs.Generation.{Generated}
use Rattle.abstract_monitor.specs.declared.outcome.Outcome.{Outcome}
use Rattle.abstract_monitor.specs.Bytes.{Bytes}
use Rattle.abstract_monitor.specs.Commands.{due_for, shown_tables}
use Rattle.abstract_monitor.specs.Endings.{broken, durable, is_durable, row_after, service_change, synchronised, with_service}
use Rattle.abstract_monitor.specs.Picks.{is_free}
use Rattle.abstract_monitor.specs.Sessions.{is_running}
use Rattle.abstract_monitor.specs.State.{Application, OpenTransaction, State}
use Rattle.laws_of_states.specs.Facts.{IsConsistent, IsSoundState}
use Rattle.laws_of_states.specs.PointLaws.{IsSoundlyOpen}

-- ---- any tables

-- the changes of a commit
abbrev pub durable_difference : Generated → (old new : TableRows) → Changes
durable_difference g old new = difference (durable g old) (durable g new)

-- the services that no stop leaves have the same rows
abbrev pub KeepsVolatile : Generated → (old new : TableRows) → Type 0
KeepsVolatile g old new = (id : ServiceId) → is_durable g id ≡ false → service_of new id ≡ service_of old id

-- those other than one service
abbrev pub KeepsOtherVolatile : Generated → ServiceId → (old new : TableRows) → Type 0
KeepsOtherVolatile g id old new = (other : ServiceId) → is_durable g other ≡ false → id_eq other id ≡ false → service_of new other ≡ service_of old other

abbrev pub DifferencesAreChanges : Type 0
DifferencesAreChanges = (g : Generated) (old new : TableRows) → IsSortedTables new → AreChanges (durable_difference g old new).items

-- where the services that no stop leaves stay, the changes of the durable tables make the new tables of the old ones
abbrev pub DifferencesMakeTables : Type 0
DifferencesMakeTables = (g : Generated) (old new : TableRows) → IsSortedTables old → IsSortedTables new → KeepsVolatile g old new → changed old (durable_difference g old new) ≡ new

-- where all but one of them stay, they do with the row of that one
abbrev pub DifferencesAndRowMake : Type 0
DifferencesAndRowMake =
    (g : Generated) (old new : TableRows) (id : ServiceId) → IsSortedTables old → IsSortedTables new → KeepsOtherVolatile g id old new
    → with_service (changed old (durable_difference g old new)) id (service_of new id) ≡ new

-- a row of a service is one change
abbrev pub RowsAreOneChange : Type 0
RowsAreOneChange =
    (t : TableRows) (id : ServiceId) (row : Option Service)
    → changed t (record { clock = t.clock; next_job = t.next_job; items = service_change id row ∷ [] }) ≡ with_service t id row

-- ---- synchronisation points and abnormal ends

-- the changes of the durable tables, and then the service's row, which may be of a user with RESTART=NO, make the tables after a point
pub record PointMade (g : Generated) (t : TableRows) (id : ServiceId) (x : OpenTransaction) (o : Outcome) : Type 0 where
  pub changes : AreChanges (durable_difference g t (synchronised g t id x o)).items
  pub own : AreChanges (service_change id (row_after g id x o) ∷ [])
  pub order : IsSortedTables (synchronised g t id x o)
  pub tables : with_service (changed t (durable_difference g t (synchronised g t id x o))) id (row_after g id x o) ≡ synchronised g t id x o
  -- a row that outlives a stop is among the changes
  pub alone : is_durable g id ≡ true → changed t (durable_difference g t (synchronised g t id x o)) ≡ synchronised g t id x o

abbrev pub PointsMakeTables : Type 0
PointsMakeTables = (g : Generated) (t : TableRows) (id : ServiceId) (x : OpenTransaction) (o : Outcome) → IsSoundlyOpen g t id x → PointMade g t id x o

-- the same after an abnormal end, without the service's row
pub record EndMade (g : Generated) (t : TableRows) (id : ServiceId) (x : OpenTransaction) : Type 0 where
  pub changes : AreChanges (durable_difference g t (broken g t id x)).items
  pub own : AreChanges (service_change id None ∷ [])
  pub order : IsSortedTables (broken g t id x)
  pub tables : with_service (changed t (durable_difference g t (broken g t id x))) id None ≡ broken g t id x
  pub alone : is_durable g id ≡ true → changed t (durable_difference g t (broken g t id x)) ≡ broken g t id x

abbrev pub EndsMakeTables : Type 0
EndsMakeTables = (g : Generated) (t : TableRows) (id : ServiceId) (x : OpenTransaction) → IsSortedTables t → EndMade g t id x

-- ---- KDCOUT, PRINT and TICK

-- the message, unless the LTERM shows it already
abbrev pub shown_set : Bool → Bytes → JobValue → List Change
shown_set true lterm value = []
shown_set false lterm value = Set (ShownRow lterm value) ∷ []

-- the job goes, and its message is shown
abbrev pub shown_changes : TableRows → (lterm : Bytes) → Job → Changes
shown_changes t lterm job = record {
  clock = t.clock;
  next_job = t.next_job;
  items = Remove (JobKey job.number) ∷ shown_set (option_eq job_value_eq (Some job.value) (shown_of t lterm)) lterm job.value;
}

pub record ShownMade (g : Generated) (t : TableRows) (lterm : Bytes) (job : Job) : Type 0 where
  pub exact : durable_difference g t (shown_tables t lterm job) ≡ shown_changes t lterm job
  pub changes : AreChanges (shown_changes t lterm job).items
  pub order : IsSortedTables (shown_tables t lterm job)
  pub tables : changed t (shown_changes t lterm job) ≡ shown_tables t lterm job

-- a job of the tables
abbrev pub ShowsMakeTables : Type 0
ShowsMakeTables = (g : Generated) (t : TableRows) (lterm : Bytes) (job : Job) → IsSortedTables t → IsSome (job_of t job.number) → ShownMade g t lterm job

-- the due job of an LTERM is one
abbrev pub DueJobsStand : Type 0
DueJobsStand = (s : State) (lterm : Bytes) (job : Job) → IsSortedTables s.tables → due_for s lterm ≡ Some job → job_of s.tables job.number ≡ Some job.value

-- another clock alone
abbrev pub tick_changes : TableRows → (clock : ℕ) → Changes
tick_changes t clock = record { clock = clock; next_job = t.next_job; items = [] }

pub record TickMade (g : Generated) (t : TableRows) (clock : ℕ) : Type 0 where
  pub exact : durable_difference g t (record t { clock = clock }) ≡ tick_changes t clock
  pub changes : AreChanges (tick_changes t clock).items
  pub tables : changed t (tick_changes t clock) ≡ record t { clock = clock }

abbrev pub TicksMakeTables : Type 0
TicksMakeTables = (g : Generated) (t : TableRows) (clock : ℕ) → TickMade g t clock

-- ---- services and jobs of a state

-- the number of an open asynchronous service was drawn
abbrev pub OpenNumbersAreDrawn : Type 0
OpenNumbersAreDrawn =
    (app : Application) (s : State) → IsConsistent app s → IsSoundState app s → (number : ℕ) (x : OpenTransaction) → find id_cmp (Asynchronous number) s.active ≡ Some x → number < s.tables.next_job

-- a service without an open transaction is neither ready nor in a task
abbrev pub ClosedAreNotPlaced : Type 0
ClosedAreNotPlaced = (app : Application) (s : State) → IsConsistent app s → (id : ServiceId) → find id_cmp id s.active ≡ None → is_running s id ≡ false

-- nor is that of a job which no open service has taken
abbrev pub FreeJobsAreNotPlaced : Type 0
FreeJobsAreNotPlaced = (app : Application) (s : State) → IsConsistent app s → (job : Job) → is_free s.active job ≡ true → is_running s (Asynchronous job.number) ≡ false

-- a job's service has no row yet
abbrev pub JobsHaveNoRow : Type 0
JobsHaveNoRow =
    (app : Application) (s : State) → IsSoundState app s → (number : ℕ) (value : JobValue) → job_of s.tables number ≡ Some value → service_of s.tables (Asynchronous number) ≡ None
