-- The laws on one commit of a history: what becomes of jobs, of services' rows, and of all tables.
use Rattle.std.specs.Prelude.{◌≡◌, ◌⊎◌, ℕ, ◌+◌, Bool, true, false, cond, ◌&&◌, List, [], ◌∷◌, ◌++◌, length, Option, Some, None, Contains, bytes_eq, ◌==◌}
use Rattle.std.specs.FinMap.{find}
use Rattle.kdcs_types.specs.declared.act.Act.{Act}
use Rattle.kdcs_types.specs.declared.act.Act.TheVariants.{Commit, Emit}
use Rattle.kdcs_types.specs.declared.act.Change.{Change}
use Rattle.kdcs_types.specs.declared.call.Cause.{Cause}
use Rattle.kdcs_types.specs.declared.key.Key.TheVariants.{Job as JobKey}
use Rattle.kdcs_types.specs.declared.key.ServiceId.{ServiceId}
use Rattle.kdcs_types.specs.declared.key.ServiceId.TheVariants.{Dialogue, Asynchronous}
use Rattle.kdcs_types.specs.declared.key.Target.TheVariants.{Lterm}
use Rattle.kdcs_types.specs.declared.service.Ending.{Ending}
use Rattle.kdcs_types.specs.declared.service.Ending.TheVariants.{Synced, Broken, BrokenFr}
use Rattle.kdcs_types.specs.declared.service.Job.{Job}
use Rattle.kdcs_types.specs.declared.service.JobValue.{JobValue}
use Rattle.kdcs_types.specs.declared.service.Service.{Service}
use Rattle.kdcs_types.specs.declared.service.Settled.{Settled}
use Rattle.kdcs_types.specs.Difference.{difference}
use Rattle.kdcs_types.specs.Keyed.{with_item, without_item}
use Rattle.kdcs_types.specs.Keys.{id_cmp, id_eq}
use Rattle.kdcs_types.specs.Tables.{TableRows, job_key, service_of, shown_of}
use Rattle.abstract_monitor.specs.Bytes.{Bytes}
use Rattle.application_types.specs.Generation.{Generated}
use Rattle.abstract_monitor.specs.Redelivery.{fate}
use Rattle.abstract_monitor.specs.State.{Application, OpenTransaction, State}
use Rattle.abstract_monitor.specs.Endings.{row_after, with_service, synchronised, is_durable, durable, refusal}
use Rattle.abstract_monitor.specs.declared.answer.Happened.{Happened}
use Rattle.abstract_monitor.specs.declared.answer.Happened.TheVariants.{Went, Queued, Waited, Held, Settles, Breaks, Returns}
use Rattle.abstract_monitor.specs.Statements.{Kept, kept_record, kept_of}
use Rattle.abstract_monitor.specs.Lines.{asy_line, prt_line, cause_text}
use Rattle.abstract_monitor.specs.Turns.{statement_now}
use Rattle.abstract_monitor.specs.Commands.{ScriptStep, Maker, ByTick, ByShow, ByTransaction, lterm_at}
use Rattle.laws_of_states.specs.Replay.{Ended, IsAtomic, accepted, replay, atomic, with_began}

-- ---- jobs

-- numbered one after another
abbrev pub AreNumberedFrom : ℕ → List Job → Type 0
AreNumberedFrom n [] = Unit {0}
AreNumberedFrom n (job ∷ jobs) = (job.number ≡ n) × AreNumberedFrom (n + 1) jobs

-- what a commit makes of the jobs that were there: all stay as they are, or one goes, or one has another value
pub data OldJobs : Type 0 where
  AllStay : OldJobs
  OneGoes : (job : Job) → OldJobs
  OneChanges : (job : Job) → (value : JobValue) → OldJobs

-- these jobs behind the commit
abbrev pub old_jobs : OldJobs → List Job → List Job
old_jobs AllStay jobs = jobs
old_jobs (OneGoes job) jobs = without_item job_key (JobKey job.number) jobs
old_jobs (OneChanges job value) jobs = with_item job_key (record { number = job.number; value = value }) jobs

-- the one that goes or changes is among them
abbrev pub IsAmong : OldJobs → List Job → Type 0
IsAmong AllStay jobs = Unit {0}
IsAmong (OneGoes job) jobs = Contains jobs job
IsAmong (OneChanges job value) jobs = Contains jobs job

-- a commit, and then the message at the terminal or printer of this LTERM
abbrev pub SendsNext : Application → (lterm message : Bytes) → List Act → Type 0
SendsNext app lterm message [] = ⊥
SendsNext app lterm message (Emit bytes ∷ acts) = ⊥
SendsNext app lterm message (Commit changes ∷ []) = ⊥
SendsNext app lterm message (Commit changes ∷ Commit more ∷ acts) = ⊥
SendsNext app lterm message (Commit changes ∷ Emit bytes ∷ acts) =
    (pterm : Bytes) × ((lterm_at app pterm ≡ lterm) × ((bytes ≡ asy_line pterm message) ⊎ (bytes ≡ prt_line pterm message)))

-- the fate of a job: it is delivered again or is a dead letter, with this value, or goes
abbrev pub by_fate : Job → Option JobValue → OldJobs
by_fate job None = OneGoes job
by_fate job (Some value) = OneChanges job value

-- what the end of a service's first transaction makes of its job: at a synchronisation point it goes, at an abnormal end it meets its fate
abbrev pub by_end : Generated → Ending → Job → OldJobs
by_end g Synced job = OneGoes job
by_end g (Broken cause) job = by_fate job (fate g job.value)
by_end g BrokenFr job = by_fate job (fate g job.value)

-- an asynchronous service treats its own job so in its first transaction; no other transaction touches any
abbrev pub TreatsOwn : Generated → Settled → ServiceId → Option Service → OldJobs → Type 0
TreatsOwn g kept (Dialogue user) began old = old ≡ AllStay
TreatsOwn g kept (Asynchronous number) (Some row) old = old ≡ AllStay
TreatsOwn g kept (Asynchronous number) None old = (job : Job) × ((job.number ≡ number) × (old ≡ by_end g kept.ending job))

-- which job goes or changes, if one does: that of an asynchronous service's first transaction, or the one that KDCOUT and PRINT show and send next
abbrev pub Treats : Application → Maker → OldJobs → TableRows → List Act → Type 0
Treats app (ByTick ticks) old after acts = old ≡ AllStay
Treats app (ByShow lterm) old after acts =
    (job : Job) × ((old ≡ OneGoes job) × ((job.value.to ≡ Lterm lterm) × ((shown_of after lterm ≡ Some job.value) × SendsNext app lterm job.value.message acts)))
Treats app (ByTransaction kept) old after acts = TreatsOwn app.generation kept kept.service kept.began old

-- an abnormal end makes no jobs
abbrev pub MakesAtEnd : Ending → List Job → Type 0
MakesAtEnd Synced made = Unit {0}
MakesAtEnd (Broken cause) made = made ≡ []
MakesAtEnd BrokenFr made = made ≡ []

-- jobs are made at synchronisation points alone
abbrev pub Makes : Maker → List Job → Type 0
Makes (ByTick ticks) made = made ≡ []
Makes (ByShow lterm) made = made ≡ []
Makes (ByTransaction kept) made = MakesAtEnd kept.ending made

-- jobs keep their numbers and values, but for at most one that goes or is delivered again; new ones are numbered from the next job number
pub record QueueLaw (app : Application) (before after : TableRows) (by : Maker) (acts : List Act) : Type 0 where
  pub old : OldJobs
  pub made : List Job
  pub jobs : after.jobs ≡ old_jobs old before.jobs ++ made
  pub numbers : AreNumberedFrom before.next_job made
  pub next : after.next_job ≡ before.next_job + length made
  pub was_there : IsAmong old before.jobs
  pub treats : Treats app by old after acts
  pub makes : Makes by made

-- ---- services

-- the row after a synchronisation point, and none after an abnormal end
abbrev pub row_by_ending : Application → ServiceId → OpenTransaction → Happened → Ending → Option Service
row_by_ending app id x (Settles o) Synced = row_after app.generation id x o
row_by_ending app id x (Settles o) (Broken cause) = None
row_by_ending app id x (Settles o) BrokenFr = None
row_by_ending app id x (Breaks by) ending = None
row_by_ending app id x Went ending = None
row_by_ending app id x Queued ending = None
row_by_ending app id x (Held tac) ending = None
row_by_ending app id x Waited ending = None
row_by_ending app id x Returns ending = None

-- a point is refused with this cause, or not at all
abbrev pub ending_by : Option Cause → Ending
ending_by None = Synced
ending_by (Some cause) = Broken cause

-- the statement ends the transaction, and so: a point that nothing refuses, one that a cause refuses, or an abnormal end
abbrev pub EndsSo : Application → TableRows → ServiceId → OpenTransaction → Happened → Ending → Type 0
EndsSo app t id x (Settles o) ending = ending ≡ ending_by (refusal app.generation (durable app.generation (synchronised app.generation t id x o)))
EndsSo app t id x (Breaks by) ending = ending ≡ by
EndsSo app t id x _ ending = ⊥

-- the next statement of the service's own open transaction, of which this is the record, ended it, and the row is what its end gives
pub record IsOwnRow (app : Application) (before : State) (kept : Settled) (row : Option Service) : Type 0 where
  pub own : OpenTransaction
  pub was_open : find id_cmp kept.service before.active ≡ Some own
  pub kept_is : kept ≡ kept_record kept.service own kept.ending
  pub ends : EndsSo app before.tables kept.service own (statement_now app before kept.service own).1 kept.ending
  pub gives : row ≡ row_by_ending app kept.service own (statement_now app before kept.service own).1 kept.ending

-- TICK, KDCOUT and PRINT have no service
abbrev pub HasOwnRow : Application → State → TableRows → Maker → Type 0
HasOwnRow app before after (ByTick ticks) = Unit {0}
HasOwnRow app before after (ByShow lterm) = Unit {0}
HasOwnRow app before after (ByTransaction kept) = IsOwnRow app before kept (service_of after kept.service)

-- the commit is not by a transaction of this service
abbrev pub IsByAnother : Maker → ServiceId → Type 0
IsByAnother (ByTick ticks) id = Unit {0}
IsByAnother (ByShow lterm) id = Unit {0}
IsByAnother (ByTransaction kept) id = id_eq id kept.service ≡ false

-- a service's row is changed by its own transaction alone, and then as the end of it says; durable tables have the rows of services that outlive a stop
pub record ServiceLaw (app : Application) (before : State) (after : TableRows) (by : Maker) : Type 0 where
  pub own : HasOwnRow app before after by
  pub others : (id : ServiceId) → IsByAnother by id → service_of after id ≡ service_of before.tables id
  pub durable_rows : (id : ServiceId) → service_of (durable app.generation after) id ≡ cond (is_durable app.generation id) (service_of after id) None
  pub durable_others : (id : ServiceId) → IsByAnother by id → service_of (durable app.generation after) id ≡ service_of (durable app.generation before.tables) id

-- ---- all tables

-- the durable tables after a commit of a transaction are those of the tables that its record, run in one go, makes of those before it
pub record IsAtomicCommit (app : Application) (before after : TableRows) (kept : Settled) : Type 0 where
  pub whole : TableRows
  pub atomic : IsAtomic app (with_began app.generation before (kept_of kept)) whole kept
  pub kept_part : after ≡ durable app.generation whole

-- TICK, KDCOUT and PRINT are no transactions
abbrev pub AtomicLaw : Application → TableRows → TableRows → Maker → Type 0
AtomicLaw app before after (ByTick ticks) = Unit {0}
AtomicLaw app before after (ByShow lterm) = Unit {0}
AtomicLaw app before after (ByTransaction kept) = IsAtomicCommit app before after kept

-- ---- a test of the third law on a history

-- nothing differs
abbrev pub no_changes : List Change → Bool
no_changes [] = true
no_changes (c ∷ cs) = false

-- the same numbers, and the same rows at all keys
abbrev pub same_tables : TableRows → TableRows → Bool
same_tables a b = a.clock == b.clock && a.next_job == b.next_job && no_changes (difference a b).items

-- both ended in the same way
abbrev pub same_ending : Ending → Ending → Bool
same_ending Synced Synced = true
same_ending Synced (Broken b) = false
same_ending Synced BrokenFr = false
same_ending (Broken a) Synced = false
same_ending (Broken a) (Broken b) = bytes_eq (cause_text a) (cause_text b)
same_ending (Broken a) BrokenFr = false
same_ending BrokenFr Synced = false
same_ending BrokenFr (Broken b) = false
same_ending BrokenFr BrokenFr = true

-- the tables and the ending are this result
abbrev pub is_result : Application → TableRows → Settled → Option Ended → Bool
is_result app after kept None = false
is_result app after kept (Some result) = same_tables after (durable app.generation result.tables) && same_ending kept.ending result.ending

-- the record names the row that is in these tables, and its replay on them reads as many inputs and makes as many notes as it has
abbrev pub is_record_on : Application → TableRows → Kept → Bool
is_record_on app t r =
    let x = replay app t r r.statements in
    same_tables (with_service t r.service r.began) t && length x.inputs == length (accepted r) && length x.notes == length r.notes

-- a record and its result on these tables
abbrev pub is_atomic_on : Application → (before after : TableRows) → Settled → Bool
is_atomic_on app before after kept = is_record_on app before (kept_of kept) && is_result app after kept (atomic app before (kept_of kept))

-- the commit of a transaction is that of its record
abbrev pub is_atomic_by : Application → TableRows → TableRows → Option Maker → Bool
is_atomic_by app before after None = true
is_atomic_by app before after (Some (ByTick ticks)) = true
is_atomic_by app before after (Some (ByShow lterm)) = true
is_atomic_by app before after (Some (ByTransaction kept)) = is_atomic_on app (with_began app.generation before (kept_of kept)) after kept

-- all commits of transactions in a history pass
unfoldable pub is_serial : Application → TableRows → List ScriptStep → Bool
is_serial app before [] = true
is_serial app before (d ∷ ds) = let after = durable app.generation d.after.tables in is_atomic_by app before after d.by && is_serial app after ds
