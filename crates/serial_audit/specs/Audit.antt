-- Which entries of an audit trail hold: those that say what their maker, alone, makes of the tables before it.
use Rattle.std.specs.Prelude.{◌≡◌, ◌≤◌, ◌<◌, ℕ, ◌+◌, ◌&&◌, Bool, true, false, IsTrue, IsSome, IfSome, length, Option, Some, None}
use Rattle.std.specs.List.{list_all}
use Rattle.kd_base.specs.Limits.{last_clock}
use Rattle.kdcs_types.specs.declared.act.Row.TheVariants.{Service as ServiceRow}
use Rattle.kdcs_types.specs.declared.key.Area.{Area}
use Rattle.kdcs_types.specs.declared.key.ServiceId.{ServiceId}
use Rattle.kdcs_types.specs.declared.key.ServiceId.TheVariants.{Dialogue, Asynchronous}
use Rattle.kdcs_types.specs.declared.key.Target.TheVariants.{Tac}
use Rattle.kdcs_types.specs.declared.service.Job.{Job}
use Rattle.kdcs_types.specs.declared.service.JobValue.{JobValue}
use Rattle.kdcs_types.specs.declared.service.Note.{Note}
use Rattle.kdcs_types.specs.declared.service.Note.TheVariants.{Released, Refused}
use Rattle.kdcs_types.specs.declared.service.Service.{Service}
use Rattle.kdcs_types.specs.declared.service.Settled.{Settled}
use Rattle.kdcs_types.specs.Difference.{difference}
use Rattle.kdcs_types.specs.Tables.{TableRows, changed, job_of, row_fits, service_of}
use Rattle.application_types.specs.Generation.{Generated}
use Rattle.abstract_monitor.specs.Bytes.{Bytes}
use Rattle.abstract_monitor.specs.Commands.{is_for, shown_tables}
use Rattle.abstract_monitor.specs.Endings.{durable, is_asynchronous, is_durable}
use Rattle.abstract_monitor.specs.Picks.{due_job}
use Rattle.abstract_monitor.specs.State.{Application}
use Rattle.abstract_monitor.specs.Statements.{Kept, kept_of}
use Rattle.laws_of_states.specs.Replay.{GoesOn, accepted, atomic, is_made, lterm_in, notes_on, replay, replay_statement, tac_in, with_began}
use Rattle.laws_of_states.specs.Suits.{fits_message, has_kind, is_lterm, is_user, service_suits}
use Rattle.laws_of_states.specs.Transactions.{fits_if_there}
use Rattle.audit_trail.specs.declared.entry.By.{By}
use Rattle.audit_trail.specs.declared.entry.By.TheVariants.{Tick, Shown, Transaction}
use Rattle.audit_trail.specs.declared.entry.TrailEntry.{TrailEntry}

-- ---- which records determine a replay

-- the user of a dialogue service is the generation's
abbrev pub has_user : Generated → ServiceId → Bool
has_user g (Dialogue user) = is_user g user
has_user g (Asynchronous number) = true

-- the inputs begin with a TAC of the service's kind, the first TAC of the row with which it began, and an LTERM
pub record BeginsRightly (g : Generated) (r : Kept) : Type 0 where
  pub both : 2 ≤ length r.inputs
  pub tac : IsTrue (has_kind g (tac_in r) (is_asynchronous r.service))
  pub first : IfSome r.began (λ (row : Service). row.first ≡ tac_in r)
  pub lterm : IsTrue (is_lterm g (lterm_in r))

-- the content in a note, if it has one, is no longer than that of an area
abbrev pub note_fits : Note → Bool
note_fits (Released area content) = fits_if_there content
note_fits (Refused area code) = true

-- no accepted input is longer than NB, and no content in a note than 32,767 bytes
pub record HasShortItems (g : Generated) (r : Kept) : Type 0 where
  pub inputs : IsTrue (list_all (fits_message g) (accepted r))
  pub notes : IsTrue (list_all note_fits r.notes)

-- the record determines its replay on these tables
pub record Determines (app : Application) (t : TableRows) (r : Kept) : Type 0 where
  pub user : IsTrue (has_user app.generation r.service)
  pub begins : BeginsRightly app.generation r
  pub short : HasShortItems app.generation r
  -- its opening and each PEND KP find the input that they read
  pub inputs : (n : ℕ) → n ≤ r.statements → length (replay app t r n).inputs ≤ length (accepted r)
  -- no point, no abnormal end and no RS is among its statements
  pub goes_on : (n : ℕ) → n < r.statements → GoesOn (replay_statement app t r (replay app t r n)).1
  -- the next statement synchronises or ends abnormally
  pub ends : IsSome (atomic app t r)
  -- each UNLK that is done uses a note, and all are used: on each area the replay makes just these again
  pub notes : (area : Area) → notes_on area (replay app t r r.statements).notes ≡ notes_on area r.notes

-- ---- what a transaction starts from

-- a job that is due and goes to this TAC
abbrev pub IsDueFor : (clock : ℕ) → (tac : Bytes) → Option JobValue → Type 0
IsDueFor clock tac None = ⊥
IsDueFor clock tac (Some job) = (job.due ≤ clock) × (job.to ≡ Tac tac)

-- an asynchronous service without a row has a job that is due, and goes to the TAC with which its inputs begin
abbrev pub HasDueJob : TableRows → Kept → ServiceId → Option Service → Type 0
HasDueJob t r (Dialogue user) began = Unit {0}
HasDueJob t r (Asynchronous number) (Some row) = Unit {0}
HasDueJob t r (Asynchronous number) None = IsDueFor t.clock (tac_in r) (job_of t number)

-- the row with which a service of RESTART=NO began: it meets every condition on a service's row but RESTART=YES
abbrev pub volatile_row_suits : Generated → ServiceId → Service → Bool
volatile_row_suits g id row = row_fits (ServiceRow id row) && service_suits g row

-- the row at the beginning is that of the durable tables, or absent in both; they have none that no stop leaves
abbrev pub BeganIn : Generated → TableRows → ServiceId → (lasts : Bool) → Option Service → Type 0
BeganIn g t id true began = service_of t id ≡ began
BeganIn g t id false None = service_of t id ≡ None
BeganIn g t id false (Some row) = IsTrue (volatile_row_suits g id row)

-- ---- what each maker makes of durable tables

-- TICK within the greatest clock
pub record Ticks (before after : TableRows) (ticks : ℕ) : Type 0 where
  pub within : before.clock + ticks ≤ last_clock
  pub clock : after ≡ record before { clock = before.clock + ticks }

-- KDCOUT and PRINT: the due job of the LTERM becomes its shown message
pub record ShowsDue (before after : TableRows) (lterm : Bytes) : Type 0 where
  pub job : Job
  pub due : due_job before.clock (is_for lterm) before.jobs ≡ Some job
  pub shown : after ≡ shown_tables before lterm job

-- a transaction: its record, run in one go, determines the end, that of the record, and what is durable then
pub record Replays (app : Application) (before after : TableRows) (r : Settled) : Type 0 where
  pub began : BeganIn app.generation before r.service (is_durable app.generation r.service) r.began
  pub job : HasDueJob before (kept_of r) r.service r.began
  pub determined : Determines app (with_began app.generation before (kept_of r)) (kept_of r)
  pub whole : TableRows
  pub result : atomic app (with_began app.generation before (kept_of r)) (kept_of r) ≡ Some (record { tables = whole; ending = r.ending })
  pub durable_part : after ≡ durable app.generation whole

abbrev pub Makes : Application → (before after : TableRows) → By → Type 0
Makes app before after (Tick ticks) = Ticks before after ticks
Makes app before after (Shown lterm) = ShowsDue before after lterm
Makes app before after (Transaction r) = Replays app before after r

-- ---- which entries hold

-- the entry holds, and comes to these tables: its maker makes them, and its changes are just their difference
pub record HoldsFor (app : Application) (before : TableRows) (entry : TrailEntry) (after : TableRows) : Type 0 where
  pub makes : Makes app before after entry.by
  pub changes : entry.changes ≡ difference before after
  pub tables : after ≡ changed before entry.changes

-- ---- what an auditor may take of an entry

-- the greatest number of statements in a record; no run comes near it
abbrev pub most_statements : ℕ
most_statements = 1000000000000

-- a record of a trail: K04 and K05 are the only codes in its notes
pub record IsTrailRecord (r : Settled) : Type 0 where
  pub statements : r.statements ≤ most_statements
  pub notes : IsTrue (list_all is_made r.notes)

abbrev pub HasTrailRecord : By → Type 0
HasTrailRecord (Tick ticks) = Unit {0}
HasTrailRecord (Shown lterm) = Unit {0}
HasTrailRecord (Transaction r) = IsTrailRecord r
