-- What holds of each state that a run reaches: of places, sessions, rows and waits; and of tables and transactions.
use Rattle.std.specs.Prelude.{◌≡◌, ◌≤◌, IsTrue, false, List, ◌++◌, length, count_by, filter_map, Option, Some, IsSome, IfSome, bytes_eq}
use Rattle.std.specs.List.{list_all, list_any}
use Rattle.std.specs.FinMap.{find, is_sorted}
use Rattle.kdcs_types.specs.declared.key.ServiceId.{ServiceId}
use Rattle.kdcs_types.specs.declared.key.ServiceId.TheVariants.{Dialogue}
use Rattle.kdcs_types.specs.declared.service.Service.{Service}
use Rattle.kdcs_types.specs.Keys.{id_cmp, id_eq}
use Rattle.kdcs_types.specs.Tables.{IsSortedTables, service_of}
use Rattle.abstract_monitor.specs.declared.answer.Happened.TheVariants.{Held}
use Rattle.abstract_monitor.specs.Bytes.{Bytes, bytes_cmp}
use Rattle.abstract_monitor.specs.Calls.{Told}
use Rattle.abstract_monitor.specs.Endings.{is_asynchronous, durable}
use Rattle.abstract_monitor.specs.Locks.{IsExclusive, Waiting}
use Rattle.abstract_monitor.specs.Sessions.{in_place, is_running}
use Rattle.abstract_monitor.specs.State.{Application, OpenTransaction, Session, State}
use Rattle.abstract_monitor.specs.Statements.{statement}
use Rattle.abstract_monitor.specs.Turns.{pterm_of_user}
use Rattle.abstract_monitor.specs.CommandsOf.{is_pterm}
use Rattle.laws_of_states.specs.Suits.{Suits, is_user, service_suits}
use Rattle.laws_of_states.specs.Transactions.{IsRooted, CanGoOn}

-- ---- places, sessions, rows and waits

-- the services that are ready or in a task
abbrev pub placed : State → List ServiceId
placed s = s.ready ++ filter_map (λ (place : Option ServiceId). place) s.tasks

-- the user is signed on somewhere
abbrev pub IsSignedOn : State → Bytes → Type 0
IsSignedOn s user = IsSome (pterm_of_user s.signed user)

-- the service has an open transaction
abbrev pub IsOpen : State → ServiceId → Type 0
IsOpen s id = IsSome (find id_cmp id s.active)

-- the open transaction is at a PEND KP, whatever its statement is told, and waits for the input that this TAC reads
abbrev pub StandsAtKeep : Application → ServiceId → OpenTransaction → Type 0
StandsAtKeep app id x = (tac : Bytes) × ((told : Told) → statement app told (is_asynchronous id) x ≡ (x, Held tac))

-- a service whose request waits is in a task, and the request is not of a later clock
pub record IsWaiting (s : State) (id : ServiceId) (w : Waiting) : Type 0 where
  pub placed : IsTrue (list_any (in_place id) s.tasks)
  pub since : w.1 ≤ s.tables.clock

-- what holds of places, sessions, rows and waits
pub record IsConsistent (app : Application) (s : State) : Type 0 where
  -- there are TASKS tasks
  pub tasks : length s.tasks ≡ app.generation.limits.tasks
  -- a service is in at most one place of the ready list and the tasks together
  pub placed_once : (id : ServiceId) → count_by (id_eq id) (placed s) ≤ 1
  -- each service that is there has an open transaction
  pub placed_open : (id : ServiceId) → IsTrue (is_running s id) → IsOpen s id
  -- sessions are in the order of their PTERMs, and a user is signed on once
  pub sessions : IsTrue (is_sorted bytes_cmp s.signed)
  pub signed_once : (user : Bytes) → count_by (λ (e : Bytes × Session). bytes_eq e.1.user user) s.signed ≤ 1
  -- a dialogue service with an open transaction has its user signed on
  pub open_signed : (user : Bytes) → IsOpen s (Dialogue user) → IsSignedOn s user
  -- a signed-on user's service whose row awaits no input is ready or in a task, or its open transaction is kept for an input
  pub row_goes_on : (user : Bytes) (row : Service) → IsSignedOn s user → service_of s.tables (Dialogue user) ≡ Some row → row.awaits ≡ false → IsOpen s (Dialogue user)
  -- an open transaction that is neither ready nor in a task is at a PEND KP
  pub kept : (id : ServiceId) (x : OpenTransaction) → find id_cmp id s.active ≡ Some x → is_running s id ≡ false → StandsAtKeep app id x
  -- open transactions are in the order of their services, and no area is touched by two of them
  pub active : IsTrue (is_sorted id_cmp s.active)
  pub exclusive : IsExclusive s.active
  -- each began with its service's row
  pub rooted : (id : ServiceId) (x : OpenTransaction) → find id_cmp id s.active ≡ Some x → IsRooted s.tables id x
  -- requests that wait are in the order of their services
  pub waits : IsTrue (is_sorted id_cmp s.waits)
  pub waiting : (id : ServiceId) (w : Waiting) → find id_cmp id s.waits ≡ Some w → IsWaiting s id w

-- ---- tables and transactions

-- PTERM and user of a session are declared
abbrev pub IsSessionOf : Application → Bytes × Session → Type 0
IsSessionOf app e = IsTrue (is_pterm app.generation e.0) × IsTrue (is_user app.generation e.1.user)

-- what holds of tables, sessions and open transactions against the application
pub record IsSoundState (app : Application) (s : State) : Type 0 where
  -- the tables are in order, and what a stop leaves of them suits the generation
  pub order : IsSortedTables s.tables
  pub suits : Suits app.generation (durable app.generation s.tables)
  -- so does each service's row, also of a user with RESTART=NO
  pub rows : IsTrue (list_all (service_suits app.generation) s.tables.services)
  pub sessions : (pterm : Bytes) → IfSome (find bytes_cmp pterm s.signed) (λ (v : Session). IsSessionOf app (pterm, v))
  pub transactions : (id : ServiceId) (x : OpenTransaction) → find id_cmp id s.active ≡ Some x → CanGoOn app.generation id x
