-- How a transaction opens, goes on in a further unit run, and ends: synchronisation points and abnormal ends.
use Rattle.std.specs.Prelude.{ℕ, ◌+◌, Bool, true, false, List, [], ◌∷◌, ◌++◌, replicate, length, filter, max, Option, Some, None, option_and_then, nat_lt, if◌then◌else◌}
use Rattle.kdcs_types.specs.declared.call.Cause.{Cause}
use Rattle.kdcs_types.specs.declared.call.Cause.TheVariants.{E09, E10, E11}
use Rattle.kdcs_types.specs.declared.call.Code.TheVariants.{Done}
use Rattle.kdcs_types.specs.declared.key.Area.{Area}
use Rattle.kdcs_types.specs.declared.key.Area.TheVariants.{Gssb, Tls, Uls}
use Rattle.kdcs_types.specs.declared.key.ServiceId.{ServiceId}
use Rattle.kdcs_types.specs.declared.key.ServiceId.TheVariants.{Dialogue, Asynchronous}
use Rattle.kdcs_types.specs.declared.run_state.Header.{Header}
use Rattle.kdcs_types.specs.declared.run_state.RunState.{RunState}
use Rattle.kdcs_types.specs.declared.service.Job.{Job}
use Rattle.kdcs_types.specs.declared.service.JobValue.{JobValue}
use Rattle.kdcs_types.specs.declared.service.Service.{Service}
use Rattle.kdcs_types.specs.declared.act.Change.{Change}
use Rattle.kdcs_types.specs.declared.act.Change.TheVariants.{Set, Remove}
use Rattle.kdcs_types.specs.declared.act.Row.TheVariants.{Gssb as GssbRow, Tls as TlsRow, Uls as UlsRow, Service as ServiceRow, Job as JobRow}
use Rattle.kdcs_types.specs.declared.key.Key.TheVariants.{Gssb as GssbKey, Tls as TlsKey, Uls as UlsKey, Service as ServiceKey, Job as JobKey}
use Rattle.application_types.specs.declared.kdcdef_types.entry.TacEntry.{TacEntry}
use Rattle.application_types.specs.declared.kdcdef_types.entry.UserEntry.{UserEntry}
use Rattle.application_types.specs.Generation.{Generated, tac_of, user_of}
use Rattle.abstract_monitor.specs.declared.outcome.Outcome.{Outcome}
use Rattle.abstract_monitor.specs.declared.outcome.Outcome.TheVariants.{Wait, Point, Follow}
use Rattle.abstract_monitor.specs.declared.draft.Due.{Due}
use Rattle.abstract_monitor.specs.declared.draft.Due.TheVariants.{After, At}
use Rattle.abstract_monitor.specs.declared.draft.Draft.{Draft}
use Rattle.abstract_monitor.specs.Bytes.{Bytes}
use Rattle.kd_base.specs.Limits.{last_next_job}
use Rattle.kdcs_types.specs.Tables.{TableRows, job_of, with_change}
use Rattle.abstract_monitor.specs.Redelivery.{fate}
use Rattle.abstract_monitor.specs.State.{OpenTransaction}
use Rattle.abstract_monitor.specs.Charges.{total_charge}

-- the kind of a service
abbrev pub is_asynchronous : ServiceId → Bool
is_asynchronous (Dialogue user) = false
is_asynchronous (Asynchronous number) = true

-- a message is sent as its joined parts
abbrev pub joined : List Bytes → Bytes
joined [] = []
joined (part ∷ parts) = part ++ joined parts

-- ---- opening

-- TIME of the TAC
abbrev pub budget_by : Option TacEntry → ℕ
budget_by None = 0
budget_by (Some t) = t.time

-- so many spaces
abbrev pub spaces : ℕ → Bytes
spaces n = replicate n 32

-- a unit run before its first statement, with a new SPAB
abbrev pub fresh_run : Generated → Bytes → Header → RunState
fresh_run g kb header = record {
  place = 1;
  count = 0;
  budget = budget_by (tac_of g header.tacal);
  kb = kb;
  spab = spaces g.limits.spab;
  code = Done;
  length = 0;
  header = header;
}

-- the KB of the row, or a new one
abbrev pub kb_of : Generated → Option Service → Bytes
kb_of g None = spaces g.limits.kb
kb_of g (Some row) = row.kb

-- the LSSBs of the row, or none
abbrev pub lssbs_of : Option Service → List (Bytes × Bytes)
lssbs_of None = []
lssbs_of (Some row) = row.lssbs

-- a transaction that opens: its row, its header, the message to read, and the inputs accepted
unfoldable pub opened : Generated → Option Service → Header → (unread inputs : List Bytes) → OpenTransaction
opened g began header unread inputs = record {
  began = began;
  first = header.tacvg;
  user = header.benid;
  lterm = header.logter;
  inputs = inputs;
  current = header.tacal;
  run = fresh_run g (kb_of g began) header;
  inited = false;
  unread = unread;
  parts = [];
  written = [];
  lssbs = lssbs_of began;
  drafts = [];
  touched = [];
  notes = [];
  statements = 0;
}

-- user, LTERM, first and current TAC
abbrev pub header_of : (user lterm first next : Bytes) → Header
header_of user lterm first next = record { benid = user; logter = lterm; tacvg = first; tacal = next }

-- a dialogue service has the user of its id
abbrev pub user_in_row : ServiceId → Service → Bytes
user_in_row (Dialogue user) row = user
user_in_row (Asynchronous number) row = row.user

-- the header of a service that goes on from its row
abbrev pub header_of_row : ServiceId → Service → (lterm : Bytes) → Header
header_of_row id row lterm = header_of (user_in_row id row) lterm row.first row.next

-- an input starts a service: it is the message to read
abbrev pub opened_by_start : Generated → (user lterm tac input : Bytes) → OpenTransaction
opened_by_start g user lterm tac input = opened g None (header_of user lterm tac tac) (input ∷ []) (input ∷ [])

-- an input reaches a service whose row awaits one
abbrev pub opened_by_input : Generated → ServiceId → Service → (lterm input : Bytes) → OpenTransaction
opened_by_input g id row lterm input = opened g (Some row) (header_of_row id row lterm) (input ∷ []) (input ∷ [])

-- a service goes on from its row: the parts handed on are the message to read
abbrev pub opened_by_row : Generated → ServiceId → Service → (lterm : Bytes) → OpenTransaction
opened_by_row g id row lterm = opened g (Some row) (header_of_row id row lterm) row.handed []

-- the LTERM of an asynchronous service's row
abbrev pub lterm_of_row : Option Bytes → Bytes
lterm_of_row None = []
lterm_of_row (Some lterm) = lterm

-- a task takes a job: its message, which is no accepted input, is the message to read
abbrev pub opened_by_job : Generated → JobValue → (tac : Bytes) → OpenTransaction
opened_by_job g job tac = opened g None (header_of job.user job.lterm tac tac) (job.message ∷ []) []

-- the message of a job that is not read yet stays; else the parts put are handed on
abbrev pub handed_on : (asynchronous : Bool) → OpenTransaction → List Bytes
handed_on true x = x.unread
handed_on false x = x.parts

-- a new unit run of this TAC in the same transaction; the statement before it is counted
abbrev pub next_run : Generated → OpenTransaction → (tac : Bytes) → (unread inputs : List Bytes) → OpenTransaction
next_run g x tac unread inputs = record x {
  inputs = x.inputs ++ inputs;
  current = tac;
  run = fresh_run g x.run.kb (record x.run.header { tacal = tac });
  inited = false;
  unread = unread;
  parts = [];
  statements = x.statements + 1;
}

-- a further unit run in the same transaction, after PR and PA
unfoldable pub followed : Generated → (asynchronous : Bool) → OpenTransaction → (tac : Bytes) → OpenTransaction
followed g asynchronous x tac = next_run g x tac (handed_on asynchronous x) []

-- the same after KP, where its input came
unfoldable pub followed_by_input : Generated → OpenTransaction → (tac input : Bytes) → OpenTransaction
followed_by_input g x tac input = next_run g x tac (input ∷ []) (input ∷ [])

-- ---- changes of tables

-- an area with this content; a block with no bytes has no row
abbrev pub area_change : Area → Option Bytes → Change
area_change (Gssb name) None = Remove (GssbKey name)
area_change (Gssb name) (Some bytes) = Set (GssbRow name bytes)
area_change (Tls block lterm) None = Remove (TlsKey block lterm)
area_change (Tls block lterm) (Some []) = Remove (TlsKey block lterm)
area_change (Tls block lterm) (Some (c ∷ cs)) = Set (TlsRow block lterm (c ∷ cs))
area_change (Uls block user) None = Remove (UlsKey block user)
area_change (Uls block user) (Some []) = Remove (UlsKey block user)
area_change (Uls block user) (Some (c ∷ cs)) = Set (UlsRow block user (c ∷ cs))

-- each area written has its last content
unfoldable pub with_areas : TableRows → List (Area × Option Bytes) → TableRows
with_areas t [] = t
with_areas t (w ∷ ws) = with_areas (with_change t (area_change w.0 w.1)) ws

-- what becomes of the row of a service
abbrev pub service_change : ServiceId → Option Service → Change
service_change id None = Remove (ServiceKey id)
service_change id (Some row) = Set (ServiceRow id row)

-- the service has this row, or none
abbrev pub with_service : TableRows → ServiceId → Option Service → TableRows
with_service t id row = with_change t (service_change id row)

-- the job is gone
abbrev pub without_job : TableRows → ℕ → TableRows
without_job t number = with_change t (Remove (JobKey number))

-- the own job goes, where an asynchronous service has no row
abbrev pub without_own_job : TableRows → ServiceId → Option Service → TableRows
without_own_job t (Dialogue user) began = t
without_own_job t (Asynchronous number) (Some row) = t
without_own_job t (Asynchronous number) None = without_job t number

-- the clock at which a job is due
abbrev pub due_at : Due → ℕ → ℕ
due_at (After ticks) clock = clock + ticks
due_at (At ticks) clock = max ticks clock

-- the drafts as jobs, in order, numbered from the next job number
unfoldable pub numbered : (next clock : ℕ) → (user lterm : Bytes) → List Draft → List Job
numbered next clock user lterm [] = []
numbered next clock user lterm (d ∷ ds) =
    record { number = next; value = record { to = d.to; due = due_at d.due clock; redelivered = 0; user = user; lterm = lterm; message = d.message } }
    ∷ numbered (next + 1) clock user lterm ds

-- the drafts follow the jobs
abbrev pub with_drafts : TableRows → OpenTransaction → TableRows
with_drafts t x = record t { jobs = t.jobs ++ numbered t.next_job t.clock x.user x.lterm x.drafts; next_job = t.next_job + length x.drafts }

-- ---- synchronisation points and abnormal ends

-- the last dialogue message of the row, if there is one
abbrev pub last_of : Option Service → Option Bytes
last_of None = None
last_of (Some row) = row.last

-- a dialogue service has the LTERM of its input, an asynchronous one keeps that of its job
abbrev pub lterm_in_row : ServiceId → Bytes → Option Bytes
lterm_in_row (Dialogue user) lterm = None
lterm_in_row (Asynchronous number) lterm = Some lterm

-- the row of a service that goes on after the point
abbrev pub point_row : ServiceId → OpenTransaction → (next : Bytes) → (awaits : Bool) → (handed : List Bytes) → (last : Option Bytes) → Service
point_row id x next awaits handed last = record {
  id = id;
  first = x.first;
  next = next;
  awaits = awaits;
  user = x.user;
  lterm = lterm_in_row id x.lterm;
  kb = x.run.kb;
  handed = handed;
  last = last;
  lssbs = x.lssbs;
}

-- the row of the service that PEND FC begins
abbrev pub new_row : Generated → ServiceId → OpenTransaction → (first : Bytes) → Service
new_row g id x first = record {
  id = id;
  first = first;
  next = first;
  awaits = false;
  user = x.user;
  lterm = lterm_in_row id x.lterm;
  kb = spaces g.limits.kb;
  handed = x.parts;
  last = None;
  lssbs = [];
}

-- the service's row after a synchronisation point by PEND RE, SP, FC or FI; the other outcomes are none of a point
unfoldable pub row_after : Generated → ServiceId → OpenTransaction → Outcome → Option Service
row_after g id x (Wait tac) = Some (point_row id x tac true [] (Some (joined x.parts)))
row_after g id x (Point tac) = Some (point_row id x tac false x.parts (last_of x.began))
row_after g id x (Follow tac) = Some (new_row g id x tac)
row_after g id x _ = None

-- the tables after a synchronisation point: areas, jobs and the service's row at once
unfoldable pub synchronised : Generated → TableRows → ServiceId → OpenTransaction → Outcome → TableRows
synchronised g t id x o = with_service (with_drafts (without_own_job (with_areas t x.written) id x.began) x) id (row_after g id x o)

-- what becomes of a job: it has this value, or is gone
abbrev pub job_change : ℕ → Option JobValue → Change
job_change number None = Remove (JobKey number)
job_change number (Some v) = Set (JobRow number v)

-- the own job meets its fate, where an asynchronous service has no row; number, due, user, LTERM and message stay
abbrev pub with_own_fate : Generated → TableRows → ServiceId → Option Service → TableRows
with_own_fate g t (Dialogue user) began = t
with_own_fate g t (Asynchronous number) (Some row) = t
with_own_fate g t (Asynchronous number) None = with_change t (job_change number (option_and_then (fate g) (job_of t number)))

-- the tables after an abnormal end: without the service's row, and with the fate of the own job
unfoldable pub broken : Generated → TableRows → ServiceId → OpenTransaction → TableRows
broken g t id x = with_service (with_own_fate g t id x.began) id None

-- no user has no service to keep
abbrev pub restarts_by : Option UserEntry → Bool
restarts_by None = false
restarts_by (Some u) = u.restart

-- the user has RESTART=YES
abbrev pub restarts : Generated → Bytes → Bool
restarts g user = restarts_by (user_of g user)

-- whether the row of the service outlives a stop
abbrev pub is_durable : Generated → ServiceId → Bool
is_durable g (Dialogue user) = restarts g user
is_durable g (Asynchronous number) = true

-- without the dialogue services of users with RESTART=NO
unfoldable pub durable : Generated → TableRows → TableRows
durable g t = record t { services = filter (λ (s : Service). is_durable g s.id) t.services }

-- what refuses a synchronisation point, by the durable tables as they would be: too many GSSBs, numbers spent, page pool full
unfoldable pub refusal : Generated → TableRows → Option Cause
refusal g t =
    if nat_lt g.limits.gssbs (length t.gssbs) then Some E10
    else if nat_lt last_next_job t.next_job then Some E11
    else if nat_lt g.limits.pgpool (total_charge g.limits.blksize t) then Some E09
    else None
