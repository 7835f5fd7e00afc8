-- One turn of a task: it takes work, or does the next statement of its service, or repeats a request for an area.
use Rattle.std.specs.Prelude.{ℕ, ◌-◌, Bool, true, false, not, List, [], ◌∷◌, ◌++◌, filter, slice_get, slice_set, Option, Some, None, bytes_eq}
use Rattle.std.specs.FinMap.{find, put}
use Rattle.std.specs.FinMap.Entries.{where_key}
use Rattle.kdcs_types.specs.declared.act.Act.{Act}
use Rattle.kdcs_types.specs.declared.act.Act.TheVariants.{Commit, Emit}
use Rattle.kdcs_types.specs.declared.call.Cause.{Cause}
use Rattle.kdcs_types.specs.declared.key.Area.{Area}
use Rattle.kdcs_types.specs.declared.key.ServiceId.{ServiceId}
use Rattle.kdcs_types.specs.declared.key.ServiceId.TheVariants.{Dialogue, Asynchronous}
use Rattle.kdcs_types.specs.declared.key.Target.{Target}
use Rattle.kdcs_types.specs.declared.key.Target.TheVariants.{Tac, Lterm}
use Rattle.kdcs_types.specs.declared.service.Ending.{Ending}
use Rattle.kdcs_types.specs.declared.service.Ending.TheVariants.{Synced, Broken, BrokenFr}
use Rattle.kdcs_types.specs.declared.service.JobValue.{JobValue}
use Rattle.kdcs_types.specs.declared.service.Service.{Service}
use Rattle.kdcs_types.specs.declared.service.Settled.{Settled}
use Rattle.abstract_monitor.specs.declared.answer.Happened.{Happened}
use Rattle.abstract_monitor.specs.declared.answer.Happened.TheVariants.{Went, Queued, Waited, Held, Settles, Breaks, Returns}
use Rattle.abstract_monitor.specs.declared.work.Work.{Work}
use Rattle.abstract_monitor.specs.declared.work.Work.TheVariants as work
use Rattle.abstract_monitor.specs.declared.outcome.Outcome.{Outcome}
use Rattle.abstract_monitor.specs.declared.outcome.Outcome.TheVariants.{Wait, Point, Follow, Finish}
use Rattle.abstract_monitor.specs.Bytes.{Bytes, bytes_cmp}
use Rattle.kdcs_types.specs.Tables.{TableRows, job_of}
use Rattle.kdcs_types.specs.Keys.{id_cmp, id_eq}
use Rattle.kdcs_types.specs.Difference.{difference}
use Rattle.abstract_monitor.specs.State.{Application, OpenTransaction, Session, State}
use Rattle.abstract_monitor.specs.Endings.{is_asynchronous, joined, opened_by_row, opened_by_job, row_after, synchronised, broken, durable, refusal}
use Rattle.abstract_monitor.specs.Statements.{Stated, statement, area_of, kept_record}
use Rattle.abstract_monitor.specs.Lines.{out_line, ended_line, dump_line}
use Rattle.abstract_monitor.specs.Calls.{Told}
use Rattle.abstract_monitor.specs.Locks.{since, locks_of, told_now}
use Rattle.abstract_monitor.specs.Picks.{pick}

-- the state after a turn, its acts, and the record of a transaction that made a commit
pub record Turned : Type 0 where
  pub after : State
  -- false where a free task found no work, or a request waits
  pub moved : Bool
  pub acts : List Act
  pub settled : Option Settled

-- a turn that moves nothing
abbrev pub unmoved : State → Turned
unmoved s = record { after = s; moved = false; acts = []; settled = None }

-- a turn without a commit
abbrev pub moved_to : State → List Act → Turned
moved_to s acts = record { after = s; moved = true; acts = acts; settled = None }

-- a commit of a transaction, and then these acts
abbrev pub committed : State → Act → Settled → List Act → Turned
committed s commit record_kept acts = record { after = s; moved = true; acts = commit ∷ acts; settled = Some record_kept }

-- a commit turns the durable part of the old tables into that of the new ones
abbrev pub commit_of : Application → (old new : TableRows) → Act
commit_of app old new = Commit (difference (durable app.generation old) (durable app.generation new))

-- ---- parts of a state

-- the service has this open transaction
abbrev pub with_open : State → ServiceId → OpenTransaction → State
with_open s id x = record s { active = put id_cmp id x s.active }

-- no request of the service waits
abbrev pub without_wait : State → ServiceId → State
without_wait s id = record s { waits = where_key id_cmp (λ i. not (id_eq id i)) s.waits }

-- the service has no open transaction, and no request of it waits
abbrev pub without_open : State → ServiceId → State
without_open s id = record (without_wait s id) { active = where_key id_cmp (λ i. not (id_eq id i)) s.active }

-- the task holds this service, or none
abbrev pub with_task : State → (task : ℕ) → Option ServiceId → State
with_task s task place = record s { tasks = slice_set s.tasks (task - 1) place }

-- the service is at the back of the ready list, with this transaction
abbrev pub queued : State → ServiceId → OpenTransaction → State
queued s id x = record (with_open s id x) { ready = s.ready ++ id ∷ [] }

-- the transaction is over, and its task is free
abbrev pub without_transaction : State → (task : ℕ) → ServiceId → State
without_transaction s task id = without_open (with_task s task None) id

-- ---- the terminal of a user

-- the first session of the user
abbrev pub pterm_by : Bytes → Bool → Option Bytes → Option Bytes
pterm_by pterm true rest = Some pterm
pterm_by pterm false rest = rest

-- where the user is signed on
unfoldable pub pterm_of_user : List (Bytes × Session) → Bytes → Option Bytes
pterm_of_user [] user = None
pterm_of_user (e ∷ es) user = pterm_by e.0 (bytes_eq e.1.user user) (pterm_of_user es user)

-- without a session there is nothing to note
abbrev pub noted_last : State → Bytes → Bytes → Option Session → State
noted_last s pterm message None = s
noted_last s pterm message (Some v) = record s { signed = put bytes_cmp pterm (record v { last = Some message }) s.signed }

-- a message to a terminal is the last OUT message of its session
abbrev pub with_last : State → (pterm message : Bytes) → State
with_last s pterm message = noted_last s pterm message (find bytes_cmp pterm s.signed)

-- without a terminal there is nothing to note
abbrev pub last_told : State → Option Bytes → Bytes → State
last_told s None message = s
last_told s (Some pterm) message = with_last s pterm message

-- an OUT line, where there is a terminal
abbrev pub out_acts : Option Bytes → Bytes → List Act
out_acts None message = []
out_acts (Some pterm) message = Emit (out_line pterm message) ∷ []

-- a dialogue message goes to the terminal of the user
abbrev pub told_user : State → (user message : Bytes) → State
told_user s user message = last_told s (pterm_of_user s.signed user) message

-- the line of a dialogue message
abbrev pub user_acts : State → (user message : Bytes) → List Act
user_acts s user message = out_acts (pterm_of_user s.signed user) message

-- SERVICE ENDED, where there is a terminal
abbrev pub ended_at : Option Bytes → List Act
ended_at None = []
ended_at (Some pterm) = Emit (ended_line pterm) ∷ []

-- a dialogue service is over by an abnormal end, FR or RS
abbrev pub ended_acts : State → ServiceId → List Act
ended_acts s (Dialogue user) = ended_at (pterm_of_user s.signed user)
ended_acts s (Asynchronous number) = []

-- ---- ends

-- the dump line of an abnormal end; PEND FR has none
abbrev pub dump_acts : ServiceId → OpenTransaction → Ending → List Act
dump_acts id x Synced = []
dump_acts id x (Broken cause) = Emit (dump_line id x.current cause x.run.place) ∷ []
dump_acts id x BrokenFr = []

-- an abnormal end, or PEND FR: one commit, then its lines
unfoldable pub abnormal : Application → State → (task : ℕ) → ServiceId → OpenTransaction → Ending → Turned
abnormal app s task id x ending =
    let new = broken app.generation s.tables id x in
    committed (record (without_transaction s task id) { tables = new }) (commit_of app s.tables new) (kept_record id x ending) (dump_acts id x ending ++ ended_acts s id)

-- the message of RE and FI is sent to the user of a dialogue service
abbrev pub message_sent : State → ServiceId → OpenTransaction → State
message_sent s (Dialogue user) x = told_user s user (joined x.parts)
message_sent s (Asynchronous number) x = s

-- the line of that message
abbrev pub message_acts : State → ServiceId → OpenTransaction → List Act
message_acts s (Dialogue user) x = user_acts s user (joined x.parts)
message_acts s (Asynchronous number) x = []

-- after SP and FC the service goes on from its row
abbrev pub goes_on : Application → State → ServiceId → OpenTransaction → Option Service → State
goes_on app s id x None = s
goes_on app s id x (Some row) = queued s id (opened_by_row app.generation id row x.lterm)

-- what follows the commit of a synchronisation point by PEND RE, FI, SP or FC; the other outcomes come to none
abbrev pub after_point : Application → State → ServiceId → OpenTransaction → Outcome → Option Service → Act → Settled → Turned
after_point app s id x (Wait tac) row commit kept = committed (message_sent s id x) commit kept (message_acts s id x)
after_point app s id x Finish row commit kept = committed (message_sent s id x) commit kept (message_acts s id x)
after_point app s id x (Point tac) row commit kept = committed (goes_on app s id x row) commit kept []
after_point app s id x (Follow tac) row commit kept = committed (goes_on app s id x row) commit kept []
after_point app s id x _ row commit kept = committed s commit kept []

-- a cause refuses the point
abbrev pub settled_by : Application → State → (task : ℕ) → ServiceId → OpenTransaction → Outcome → TableRows → Option Cause → Turned
settled_by app s task id x o new (Some cause) = abnormal app s task id x (Broken cause)
settled_by app s task id x o new None =
    after_point app (record (without_transaction s task id) { tables = new }) id x o (row_after app.generation id x o) (commit_of app s.tables new) (kept_record id x Synced)

-- a synchronisation point, or the abnormal end with the cause that refuses it
unfoldable pub settled : Application → State → (task : ℕ) → ServiceId → OpenTransaction → Outcome → Turned
settled app s task id x o =
    let new = synchronised app.generation s.tables id x o in
    settled_by app s task id x o new (refusal app.generation (durable app.generation new))

-- the last dialogue message is sent again
abbrev pub last_again : State → ServiceId → Option Bytes → Turned
last_again s id None = moved_to s []
last_again s (Dialogue user) (Some message) = moved_to (told_user s user message) (user_acts s user message)
last_again s (Asynchronous number) (Some message) = moved_to s []

-- a point that awaits an input has its last dialogue message sent again; from another the service goes on
abbrev pub back_by : Application → State → ServiceId → OpenTransaction → Service → (awaits : Bool) → Turned
back_by app s id x row true = last_again s id row.last
back_by app s id x row false = moved_to (queued s id (opened_by_row app.generation id row x.lterm)) []

-- PEND RS: back to the row; a service without one is over
abbrev pub back : Application → State → ServiceId → OpenTransaction → Option Service → Turned
back app s id x None = moved_to s (ended_acts s id)
back app s id x (Some row) = back_by app s id x row row.awaits

-- the service waits for the area, since the first request of this wait
abbrev pub waiting : State → ServiceId → Area → State
waiting s id area = record s { waits = put id_cmp id (area, since (locks_of s) id area s.tables.clock) s.waits }

-- only a statement that asks of an area waits
abbrev pub waiting_for : State → ServiceId → Option Area → State
waiting_for s id None = s
waiting_for s id (Some area) = waiting s id area

-- what the statement of the service in this task does to the system; x is its transaction before it, y after it
unfoldable pub happens : Application → State → (task : ℕ) → ServiceId → (x y : OpenTransaction) → Happened → Turned
happens app s task id x y Went = moved_to (with_open (without_wait s id) id y) []
happens app s task id x y Queued = moved_to (queued (with_task (without_wait s id) task None) id y) []
happens app s task id x y Waited = unmoved (waiting_for s id (area_of app x))
happens app s task id x y (Held tac) = moved_to (message_sent (with_task (without_wait s id) task None) id x) (message_acts s id x)
happens app s task id x y (Settles o) = settled app s task id x o
happens app s task id x y (Breaks ending) = abnormal app s task id x ending
happens app s task id x y Returns = back app (without_transaction s task id) id x x.began

-- ---- a turn

-- what a statement of this service is told, as the system stands
abbrev pub told_here : Application → State → ServiceId → OpenTransaction → Told
told_here app s id x = told_now (locks_of s) app.generation.limits.reswait s.tables id (area_of app x)

-- what the next statement of an open transaction does, as the system stands
abbrev pub statement_now : Application → State → ServiceId → OpenTransaction → Stated
statement_now app s id x = statement app (told_here app s id x) (is_asynchronous id) x

-- the statement of the service in this task
abbrev pub stated : Application → State → (task : ℕ) → ServiceId → OpenTransaction → Stated → Turned
stated app s task id x r = happens app s task id x r.0 r.1

-- a task serves a service with an open transaction
abbrev pub served : Application → State → (task : ℕ) → ServiceId → Option OpenTransaction → Turned
served app s task id None = unmoved s
served app s task id (Some x) = stated app s task id x (statement_now app s id x)

-- an asynchronous service begins with its message
abbrev pub took_job_for : Application → State → (task : ℕ) → (number : ℕ) → JobValue → Target → Turned
took_job_for app s task number job (Tac tac) =
    moved_to (with_open (with_task s task (Some (Asynchronous number))) (Asynchronous number) (opened_by_job app.generation job tac)) []
took_job_for app s task number job (Lterm lterm) = unmoved s

-- the job is marked as taken by its open service
abbrev pub took_job : Application → State → (task : ℕ) → (number : ℕ) → Option JobValue → Turned
took_job app s task number None = unmoved s
took_job app s task number (Some job) = took_job_for app s task number job job.to

-- the task takes a service of the ready list, or a job, which stays in the tables
abbrev pub took : Application → State → (task : ℕ) → Option Work → Turned
took app s task None = unmoved s
took app s task (Some (work.Service id)) = moved_to (record (with_task s task (Some id)) { ready = filter (λ (i : ServiceId). not (id_eq id i)) s.ready }) []
took app s task (Some (work.Job number)) = took_job app s task number (job_of s.tables number)

-- a free task takes work, another goes on
abbrev pub turn_by : Application → State → (task : ℕ) → Option (Option ServiceId) → Turned
turn_by app s task None = unmoved s
turn_by app s task (Some None) = took app s task (pick app s)
turn_by app s task (Some (Some id)) = served app s task id (find id_cmp id s.active)

-- one turn of a task, from 1
unfoldable pub turn_of : Application → State → (task : ℕ) → Turned
turn_of app s task = turn_by app s task (slice_get s.tasks (task - 1))
