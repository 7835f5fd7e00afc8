-- What a turn of the code did, as the definition says it; and when a service may end its transaction.
use Rattle.std.specs.Prelude.{◌≡◌, ℕ, true, false, List, [], ◌∷◌, ◌++◌, Option, Some, None}
use Rattle.std.specs.FinMap.{find}
use Rattle.kdcs_types.specs.declared.key.ServiceId.{ServiceId}
use Rattle.kdcs_types.specs.Keys.{id_cmp}
use Rattle.kdcs_types.specs.Tables.{AreChanges, changed}
use Rattle.kdcs_types.specs.declared.act.Changes.{Changes}
use Rattle.kdcs_types.specs.declared.act.Act.{Act}
use Rattle.kdcs_types.specs.declared.act.Act.TheVariants.{Commit, Emit}
use Rattle.kdcs_types.specs.declared.call.Cause.{Cause}
use Rattle.kdcs_types.specs.declared.service.Ending.{Ending}
use Rattle.kdcs_types.specs.declared.service.Ending.TheVariants.{Synced, Broken}
use Rattle.kdcs_types.specs.declared.key.ServiceId.TheVariants.{Dialogue, Asynchronous}
use Rattle.kdcs_types.specs.declared.service.Service.{Service}
use Rattle.kdcs_types.specs.declared.service.Settled.{Settled}
use Rattle.abstract_monitor.specs.declared.outcome.Outcome.{Outcome}
use Rattle.abstract_monitor.specs.declared.outcome.Outcome.TheVariants.{Hold, Stay, Queue, Wait, Point, Follow, Finish, Break, Back}
use Rattle.abstract_monitor.specs.Bytes.{Bytes}
use Rattle.abstract_monitor.specs.Endings.{broken, durable, is_durable, opened_by_row, refusal, row_after, service_change, synchronised, with_service}
use Rattle.abstract_monitor.specs.Statements.{kept_record}
use Rattle.abstract_monitor.specs.Sessions.{is_running}
use Rattle.abstract_monitor.specs.State.{Application, OpenTransaction, State}
use Rattle.abstract_monitor.specs.Turns.{Turned, after_point, commit_of, committed, dump_acts, ended_acts, message_acts, message_sent, moved_to, queued, told_user, user_acts, with_task}
use Rattle.laws_of_states.specs.PointLaws.{IsSoundlyOpen}
use Rattle.service_ends.specs.Schedule.{IsTask}
use Rattle.open_transaction.specs.Transactions.{Boxed, boxed_transaction, HasOrder}
use Rattle.table_fit.specs.Pages.{FitPool}
use Rattle.service_ends.specs.declared.turned.Turned.{Turned as Did}
use Rattle.service_ends.specs.declared.core_state.parts.MonitorParts.{MonitorParts}
use Rattle.service_ends.specs.Standing.{IsIndexed, state_of}
use Rattle.service_ends.specs.Whole.{app_of}

-- a message to the user of a dialogue service
abbrev pub told_by : State → ServiceId → (message : Bytes) → State
told_by s (Dialogue user) message = told_user s user message
told_by s (Asynchronous number) message = s

abbrev pub told_acts : State → ServiceId → (message : Bytes) → List Act
told_acts s (Dialogue user) message = user_acts s user message
told_acts s (Asynchronous number) message = []

-- a service that goes on from its row, at this LTERM
abbrev pub ready_by : Application → State → ServiceId → Option Service → (lterm : Bytes) → State
ready_by app s id None lterm = s
ready_by app s id (Some row) lterm = queued s id (opened_by_row app.generation id row lterm)

-- a line, if there is one
abbrev pub emitted : Option (List ℕ) → List Act
emitted None = []
emitted (Some line) = Emit line ∷ []

-- the abnormal end of a transaction that is open no more, or PEND FR
abbrev pub broken_to : Application → State → ServiceId → OpenTransaction → Ending → Turned
broken_to app s id x ending =
    committed (record s { tables = broken app.generation s.tables id x }) (commit_of app s.tables (broken app.generation s.tables id x)) (kept_record id x ending) (dump_acts id x ending ++ ended_acts s id)

-- the synchronisation point of one
abbrev pub settled_to : Application → State → ServiceId → OpenTransaction → Outcome → Option Cause → Turned
settled_to app s id x o (Some cause) = broken_to app s id x (Broken cause)
settled_to app s id x o None =
    let new = synchronised app.generation s.tables id x o in
    after_point app (record s { tables = new }) id x o (row_after app.generation id x o) (commit_of app s.tables new) (kept_record id x Synced)

abbrev pub pointed_to : Application → State → ServiceId → OpenTransaction → Outcome → Turned
pointed_to app s id x o = settled_to app s id x o (refusal app.generation (durable app.generation (synchronised app.generation s.tables id x o)))

-- after the commit of a point by SP or FC the service goes on from its row, and by RE or FI its message is the last one of its user
abbrev pub goes_on_from : Application → State → ServiceId → Option Service → Outcome → (message lterm : Bytes) → State
goes_on_from app s id row (Wait tac) message lterm = told_by s id message
goes_on_from app s id row Finish message lterm = told_by s id message
goes_on_from app s id row (Point tac) message lterm = ready_by app s id row lterm
goes_on_from app s id row (Follow tac) message lterm = ready_by app s id row lterm
goes_on_from app s id row (Hold tac) message lterm = s
goes_on_from app s id row (Stay tac) message lterm = s
goes_on_from app s id row (Queue tac) message lterm = s
goes_on_from app s id row Break message lterm = s
goes_on_from app s id row Back message lterm = s

-- the line of that message
abbrev pub sent_by : State → ServiceId → Outcome → (message : Bytes) → List Act
sent_by s id (Wait tac) message = told_acts s id message
sent_by s id Finish message = told_acts s id message
sent_by s id (Point tac) message = []
sent_by s id (Follow tac) message = []
sent_by s id (Hold tac) message = []
sent_by s id (Stay tac) message = []
sent_by s id (Queue tac) message = []
sent_by s id Break message = []
sent_by s id Back message = []

-- a point with its commit, and what follows it
abbrev pub behind_point : Application → State → ServiceId → Option Service → Outcome → (message lterm : Bytes) → (commit : Act) → Settled → Turned
behind_point app s id row o message lterm commit kept = committed (goes_on_from app s id row o message lterm) commit kept (sent_by s id o message)

-- an abnormal end with its commit, and its lines
abbrev pub behind_end : State → ServiceId → (dump : Option (List ℕ)) → (commit : Act) → Settled → Turned
behind_end s id dump commit kept = committed s commit kept (emitted dump ++ ended_acts s id)

-- the open transaction of the service, if it has one
abbrev pub ForOpen : State → ServiceId → (OpenTransaction → Type 0) → Type 0
ForOpen s id P = (x : OpenTransaction) → find id_cmp id s.active ≡ Some x → P x

-- the state with the changes of a commit, and this row of its service
abbrev pub committed_in : MonitorParts → Changes → ServiceId → Option Service → State
committed_in p changes id row = record (state_of p) { tables = with_service (changed p.tables changes) id row }

-- tables take these changes, and then this row of the service, and what outlives a stop fits into the page pool all the time
pub record CanCommit (p : MonitorParts) (c : Changes) (id : ServiceId) (row : Option Service) : Type 0 where
  pub changes : AreChanges c.items
  pub own : AreChanges (service_change id row ∷ [])
  -- a row that outlives a stop is among the changes
  pub alone : is_durable p.generation id ≡ true → changed p.tables c ≡ with_service (changed p.tables c) id row
  pub before : FitPool p.generation p.tables
  pub between : FitPool p.generation (changed p.tables c)
  pub after : FitPool p.generation (with_service (changed p.tables c) id row)

-- a point with this commit, and what follows it
abbrev pub point_with : MonitorParts → Changes → ServiceId → Option Service → Outcome → (message lterm : Bytes) → Settled → Turned
point_with p changes id row o message lterm kept =
    behind_point (app_of p) (committed_in p changes id row) id row o message lterm (Commit changes) kept

-- PEND KP: the task is free, and the message is sent
abbrev pub held_to : State → (task : ℕ) → ServiceId → OpenTransaction → Turned
held_to s task id x = moved_to (message_sent (with_task s task None) id x) (message_acts s id x)

-- a turn that came to this state
abbrev pub turned_to : State → Did → Turned
turned_to s did = record { after = s; moved = did.moved; acts = did.acts; settled = did.settled }

-- the task serves the service, which is nowhere else, and this is its transaction, which tables may take
pub record Serves (p : MonitorParts) (task : ℕ) (id : ServiceId) (x : OpenTransaction) : Type 0 where
  pub indexed : IsIndexed p
  pub is_task : IsTask task p.scheduler
  pub alone : is_running (with_task (state_of p) task None) id ≡ false
  pub is_open : find id_cmp id (state_of p).active ≡ Some x
  pub stands : IsSoundlyOpen p.generation p.tables id x

-- a service that is nowhere can go on from this row
pub record CanGoOn (p : MonitorParts) (id : ServiceId) (row : Option Service) : Type 0 where
  pub closed : find id_cmp id (state_of p).active ≡ None
  pub unplaced : is_running (state_of p) id ≡ false
  pub order : HasOrder row

-- a transaction that was closed: its service is nowhere, and tables may take it
pub record IsClosed (p : MonitorParts) (transaction : Boxed) : Type 0 where
  pub closed : find id_cmp transaction.value.id (state_of p).active ≡ None
  pub unplaced : is_running (state_of p) transaction.value.id ≡ false
  pub stands : IsSoundlyOpen p.generation p.tables transaction.value.id (boxed_transaction transaction)
