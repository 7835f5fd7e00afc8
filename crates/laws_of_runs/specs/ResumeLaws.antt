-- What resuming means: from what a stop leaves, each service goes on at its last synchronisation point.
use Rattle.std.specs.Prelude.{◌≡◌, IsTrue, ℕ, true, false, List, ◌∷◌, ◌++◌, Some, None, codes}
use Rattle.std.specs.List.{list_any}
use Rattle.std.specs.FinMap.{find}
use Rattle.kdcs_types.specs.declared.act.Act.{Act}
use Rattle.kdcs_types.specs.declared.act.Act.TheVariants.{Emit}
use Rattle.kdcs_types.specs.declared.key.ServiceId.{ServiceId}
use Rattle.kdcs_types.specs.declared.key.ServiceId.TheVariants.{Dialogue, Asynchronous}
use Rattle.kdcs_types.specs.declared.service.Service.{Service}
use Rattle.kdcs_types.specs.Keys.{id_cmp, id_eq}
use Rattle.kdcs_types.specs.Tables.{TableRows, IsSortedTables, service_of}
use Rattle.abstract_monitor.specs.declared.input_use.ServiceState.TheVariants.{Awaits}
use Rattle.abstract_monitor.specs.Bytes.{Bytes}
use Rattle.abstract_monitor.specs.Endings.{is_asynchronous, lterm_of_row, opened_by_row, opened_by_input, durable, restarts}
use Rattle.abstract_monitor.specs.Lines.{sys_line}
use Rattle.abstract_monitor.specs.Sessions.{service_state}
use Rattle.abstract_monitor.specs.State.{Application, State}
use Rattle.abstract_monitor.specs.Trace.{history, trace, tables_after}
use Rattle.abstract_monitor.specs.Turns.{queued}
use Rattle.abstract_monitor.specs.declared.command.Command.{Command}
use Rattle.abstract_monitor.specs.Commands.{ScriptStep, started, lterm_at, out_again, signed_on, next_input, state_after}
use Rattle.laws_of_states.specs.Applications.{IsApplication}
use Rattle.laws_of_states.specs.Facts.{IsSignedOn}
use Rattle.laws_of_states.specs.Keeping.{HasFacts, IsScriptOf}
use Rattle.laws_of_states.specs.Suits.{Suits}
use Rattle.laws_of_runs.specs.Stored.{StepsDone}

-- ---- at the last point

-- the service is ready, and its open transaction is the one that its row opens: before the first statement of the TAC that the point names, with KB, LSSBs and handed parts of the point and a new SPAB, and nothing done
pub record IsReadyAt (app : Application) (s : State) (id : ServiceId) (row : Service) (lterm : Bytes) : Type 0 where
  pub ready : IsTrue (list_any (id_eq id) s.ready)
  pub opens : find id_cmp id s.active ≡ Some (opened_by_row app.generation id row lterm)

-- ---- starts

-- the tables stay, each asynchronous service is ready at its last point, and nothing else is
pub record StartResumes (app : Application) (t : TableRows) : Type 0 where
  pub tables : (started app t).tables ≡ t
  pub asynchronous : (number : ℕ) (row : Service) → service_of t (Asynchronous number) ≡ Some row → IsReadyAt app (started app t) (Asynchronous number) row (lterm_of_row row.lterm)
  pub others : (id : ServiceId) → IsTrue (list_any (id_eq id) (started app t).ready) → IsTrue (is_asynchronous id) × ((row : Service) × (service_of t id ≡ Some row))

abbrev pub StartsResume : Type 0
StartsResume = (app : Application) (t : TableRows) → StartResumes app t

-- ---- signing on

-- the point has a message and awaits an input, and the user's next input goes to the service
pub record AwaitsAt (app : Application) (s : State) (user : Bytes) (row : Service) : Type 0 where
  pub message : Bytes
  pub last : row.last ≡ Some message
  pub state : service_state s user ≡ Awaits
  pub next : (lterm text : Bytes) → next_input app s user lterm text ≡ queued s (Dialogue user) (opened_by_input app.generation (Dialogue user) row lterm text)

-- the user sees the last message of the point again; a service that awaits nothing becomes ready there, another awaits the next input
pub record SignOnResumes (app : Application) (s : State) (pterm user : Bytes) (row : Service) (d : ScriptStep) : Type 0 where
  pub acts : d.acts ≡ Emit (sys_line pterm (codes "SIGNED ON " ++ user)) ∷ out_again pterm row.last
  pub by : d.by ≡ None
  pub tables : d.after.tables ≡ s.tables
  pub goes_on : row.awaits ≡ false → IsReadyAt app d.after (Dialogue user) row (lterm_at app pterm)
  pub awaits : row.awaits ≡ true → AwaitsAt app d.after user row

abbrev pub SignOnsResume : Type 0
SignOnsResume =
    (app : Application) (s : State) (pterm user : Bytes) (row : Service) → HasFacts app s → (IsSignedOn s user → ⊥) → service_of s.tables (Dialogue user) ≡ Some row
    → SignOnResumes app s pterm user row (signed_on app s pterm user)

-- ---- cuts

-- what is stored after some first acts of a run are the durable tables of the state after the steps whose commits are done; a start from them has its facts and all jobs of that state, and each service goes on at its last point there
pub record CutResumes (app : Application) (t : TableRows) (script : List Command) (done : List Act) : Type 0 where
  pub steps : StepsDone (history app (started app t) script) done
  pub stored : tables_after (durable app.generation t) done ≡ durable app.generation (state_after (started app t) steps.first).tables
  pub facts : HasFacts app (started app (tables_after (durable app.generation t) done))
  pub jobs : (started app (tables_after (durable app.generation t) done)).tables.jobs ≡ (state_after (started app t) steps.first).tables.jobs
  pub asynchronous : (number : ℕ) (row : Service) → service_of (state_after (started app t) steps.first).tables (Asynchronous number) ≡ Some row
      → IsReadyAt app (started app (tables_after (durable app.generation t) done)) (Asynchronous number) row (lterm_of_row row.lterm)
  pub dialogue : (pterm user : Bytes) (row : Service) → IsTrue (restarts app.generation user) → service_of (state_after (started app t) steps.first).tables (Dialogue user) ≡ Some row
      → SignOnResumes app (started app (tables_after (durable app.generation t) done)) pterm user row (signed_on app (started app (tables_after (durable app.generation t) done)) pterm user)
  -- a service of a user with RESTART=NO is over
  pub over : (user : Bytes) → restarts app.generation user ≡ false → service_of (started app (tables_after (durable app.generation t) done)).tables (Dialogue user) ≡ None

abbrev pub CutsResume : Type 0
CutsResume =
    (app : Application) (t : TableRows) (script : List Command) → IsApplication app → IsScriptOf app script → IsSortedTables t → Suits app.generation t
    → (done left : List Act) → trace app t script ≡ done ++ left → CutResumes app t script done
