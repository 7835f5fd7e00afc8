-- A kept record, run again in one go, with no other service and against tables alone.
use Rattle.std.specs.Prelude.{◌≡◌, ◌<◌, ℕ, zero, suc, Bool, true, false, cond, List, [], drop, length, filter, slice_get, Option, Some, None, IsSome}
use Rattle.std.specs.FinMap.{find}
use Rattle.kdcs_types.specs.declared.call.Cause.{Cause}
use Rattle.kdcs_types.specs.declared.call.Code.{Code}
use Rattle.kdcs_types.specs.declared.call.Code.TheVariants.{K04, K05}
use Rattle.kdcs_types.specs.declared.key.Area.{Area}
use Rattle.kdcs_types.specs.declared.key.ServiceId.{ServiceId}
use Rattle.kdcs_types.specs.declared.key.ServiceId.TheVariants.{Dialogue, Asynchronous}
use Rattle.kdcs_types.specs.declared.service.Ending.{Ending}
use Rattle.kdcs_types.specs.declared.service.Ending.TheVariants.{Synced, Broken}
use Rattle.kdcs_types.specs.declared.service.JobValue.{JobValue}
use Rattle.kdcs_types.specs.declared.service.Note.{Note}
use Rattle.kdcs_types.specs.declared.service.Note.TheVariants.{Released, Refused}
use Rattle.kdcs_types.specs.declared.service.Service.{Service}
use Rattle.kdcs_types.specs.declared.service.Settled.{Settled}
use Rattle.kdcs_types.specs.Keys.{area_eq, id_cmp}
use Rattle.kdcs_types.specs.Tables.{TableRows, content_of, job_of, service_of}
use Rattle.application_types.specs.Generation.{Generated}
use Rattle.abstract_monitor.specs.Bytes.{Bytes}
use Rattle.abstract_monitor.specs.State.{Application, OpenTransaction, State}
use Rattle.abstract_monitor.specs.declared.answer.LockAnswer.{LockAnswer}
use Rattle.abstract_monitor.specs.declared.answer.LockAnswer.TheVariants.{Granted, Wait, Busy, Deadlock}
use Rattle.abstract_monitor.specs.declared.answer.Happened.{Happened}
use Rattle.abstract_monitor.specs.declared.answer.Happened.TheVariants.{Went, Queued, Held, Settles, Breaks}
use Rattle.abstract_monitor.specs.Calls.{Told, nothing_told, or_empty}
use Rattle.abstract_monitor.specs.Endings.{is_asynchronous, opened, header_of, opened_by_start, opened_by_input, opened_by_row, opened_by_job, lterm_of_row, followed_by_input, with_service}
use Rattle.abstract_monitor.specs.Endings.{synchronised, broken, is_durable, durable, refusal}
use Rattle.abstract_monitor.specs.Statements.{Stated, statement, area_of, Kept, kept_so_far, kept_of}
use Rattle.laws_of_states.specs.Transactions.{HasOwnJob}

-- ---- notes

-- the area of a note
abbrev pub noted_area : Note → Area
noted_area (Released area content) = area
noted_area (Refused area code) = area

-- the notes on an area, in order
abbrev pub notes_on : Area → List Note → List Note
notes_on area notes = filter (λ (n : Note). area_eq area (noted_area n)) notes

-- the codes that refuse a request
abbrev pub refuses : Code → Bool
refuses K04 = true
refuses K05 = true
refuses _ = false

-- a note that a run makes: an area was released, or a request was refused
abbrev pub is_made : Note → Bool
is_made (Released area content) = true
is_made (Refused area code) = refuses code

-- the notes of a record on an area, without those that its replay has used: it makes these again
abbrev pub unused : Kept → OpenTransaction → Area → List Note
unused r x area = drop (length (notes_on area x.notes)) (notes_on area r.notes)

-- the note that the next request for the area looks at
abbrev pub first_unused : Kept → OpenTransaction → Area → Option Note
first_unused r x area = slice_get (unused r x area) 0

-- the answer that had this code; a note of another code than K04 and K05 is none that a run makes, and its request is never answered
abbrev pub answer_of_code : Code → LockAnswer
answer_of_code K04 = Busy
answer_of_code K05 = Deadlock
answer_of_code _ = Wait

-- K04 or K05 where the note says so; else the request is granted
abbrev pub answer_by_note : Option Note → LockAnswer
answer_by_note None = Granted
answer_by_note (Some (Released area content)) = Granted
answer_by_note (Some (Refused area code)) = answer_of_code code

-- what it saw in an area that it released, else what is in the tables
abbrev pub content_by_note : Option Note → Option Bytes → Option Bytes
content_by_note None outside = outside
content_by_note (Some (Released area content)) outside = content
content_by_note (Some (Refused area code)) outside = outside

-- what a replay is told of the area of which a statement asks
unfoldable pub replay_told : TableRows → Kept → OpenTransaction → Option Area → Told
replay_told t r x None = nothing_told
replay_told t r x (Some area) = record {
  answer = answer_by_note (first_unused r x area);
  content = content_by_note (first_unused r x area) (content_of t area);
}

-- ---- the opening state

-- the first TAC and the LTERM, and then the inputs that were accepted
abbrev pub tac_in : Kept → Bytes
tac_in r = or_empty (slice_get r.inputs 0)

-- the LTERM of a dialogue service
abbrev pub lterm_in : Kept → Bytes
lterm_in r = or_empty (slice_get r.inputs 1)

-- the accepted inputs
abbrev pub accepted : Kept → List Bytes
accepted r = drop 2 r.inputs

-- an input; none is empty
abbrev pub input_at : Kept → ℕ → Bytes
input_at r n = or_empty (slice_get (accepted r) n)

-- a row that awaits reads the first input, another its handed parts
abbrev pub dialogue_from : Application → Kept → Bytes → Service → (awaits : Bool) → OpenTransaction
dialogue_from app r user row true = opened_by_input app.generation (Dialogue user) row (lterm_in r) (input_at r 0)
dialogue_from app r user row false = opened_by_row app.generation (Dialogue user) row (lterm_in r)

-- message, user and LTERM of a taken job are those of the job in the tables
abbrev pub job_from : Application → Kept → Option JobValue → OpenTransaction
job_from app r None = opened app.generation None (header_of [] [] (tac_in r) (tac_in r)) [] []
job_from app r (Some job) = opened_by_job app.generation job (tac_in r)

-- the open transaction before its first statement
abbrev pub opened_from : Application → TableRows → Kept → ServiceId → Option Service → OpenTransaction
opened_from app t r (Dialogue user) None = opened_by_start app.generation user (lterm_in r) (tac_in r) (input_at r 0)
opened_from app t r (Dialogue user) (Some row) = dialogue_from app r user row row.awaits
opened_from app t r (Asynchronous number) None = job_from app r (job_of t number)
opened_from app t r (Asynchronous number) (Some row) = opened_by_row app.generation (Asynchronous number) row (lterm_of_row row.lterm)

-- ---- the run

-- PEND PR and PA go straight on, and PEND KP reads the next input; the others leave the transaction as it is
abbrev pub went_on : Application → Kept → (x y : OpenTransaction) → Happened → OpenTransaction
went_on app r x y Went = y
went_on app r x y Queued = y
went_on app r x y (Held tac) = followed_by_input app.generation x tac (input_at r (length x.inputs))
went_on app r x y _ = x

-- what the next statement of a replay does
abbrev pub replay_statement : Application → TableRows → Kept → OpenTransaction → Stated
replay_statement app t r x = statement app (replay_told t r x (area_of app x)) (is_asynchronous r.service) x

-- the open transaction after the next statement of a replay
abbrev pub replay_step : Application → TableRows → Kept → OpenTransaction → OpenTransaction
replay_step app t r x = let next = replay_statement app t r x in went_on app r x next.0 next.1

-- the open transaction after so many statements of a record
unfoldable pub replay : Application → TableRows → Kept → ℕ → OpenTransaction
replay app t r zero = opened_from app t r r.service r.began
replay app t r (suc n) = replay_step app t r (replay app t r n)

-- ---- the atomic result

-- the tables after the statement that ended it, and how it ended
pub record Ended : Type 0 where
  pub tables : TableRows
  pub ending : Ending

-- the synchronised tables, or the broken ones with the cause that refuses the point
abbrev pub settled_as : Application → TableRows → ServiceId → OpenTransaction → TableRows → Option Cause → Ended
settled_as app t id x new None = record { tables = new; ending = Synced }
settled_as app t id x new (Some cause) = record { tables = broken app.generation t id x; ending = Broken cause }

-- none where the statement leaves the transaction open, or goes back to the last point
abbrev pub ended_by : Application → TableRows → ServiceId → OpenTransaction → Happened → Option Ended
ended_by app t id x (Settles o) = let new = synchronised app.generation t id x o in Some (settled_as app t id x new (refusal app.generation (durable app.generation new)))
ended_by app t id x (Breaks ending) = Some (record { tables = broken app.generation t id x; ending = ending })
ended_by app t id x _ = None

-- the result of the statement after those of the record
unfoldable pub atomic : Application → TableRows → Kept → Option Ended
atomic app t r = let x = replay app t r r.statements in ended_by app t r.service x (replay_statement app t r x).1

-- ---- which records determine a replay

-- the statement leaves the transaction open
abbrev pub GoesOn : Happened → Type 0
GoesOn Went = Unit {0}
GoesOn Queued = Unit {0}
GoesOn (Held tac) = Unit {0}
GoesOn _ = ⊥

-- exactly so many statements leave it open, and the next one ends it; and the replay keeps just this record: it reads each of its inputs, makes each of its notes again, and no other
pub record IsDetermined (app : Application) (t : TableRows) (r : Kept) : Type 0 where
  pub goes_on : (n : ℕ) → n < r.statements → GoesOn (replay_statement app t r (replay app t r n)).1
  pub ends : IsSome (atomic app t r)
  pub keeps : kept_so_far r.service (replay app t r r.statements) ≡ r

-- ---- serial equivalence

-- the open transaction is the replay of what it has done so far on the present tables
abbrev pub IsReplayed : Application → TableRows → ServiceId → OpenTransaction → Type 0
IsReplayed app t id x = replay app t (kept_so_far id x) x.statements ≡ x

-- each open transaction is the replay of what it has done
abbrev pub IsReplayable : Application → State → Type 0
IsReplayable app s = (id : ServiceId) (x : OpenTransaction) → find id_cmp id s.active ≡ Some x → IsReplayed app s.tables id x

-- a record determines its replay on these tables, where its service has the row with which it began, or in its first transaction its job, and its ending and these tables are those of the replay
pub record IsAtomic (app : Application) (before after : TableRows) (r : Settled) : Type 0 where
  pub began : service_of before r.service ≡ r.began
  pub job : HasOwnJob before r.service r.began
  pub determined : IsDetermined app before (kept_of r)
  pub result : atomic app before (kept_of r) ≡ Some (record { tables = after; ending = r.ending })

-- a transaction that ended did so as its record, run in one go
abbrev pub SettlesAs : Application → TableRows → TableRows → Option Settled → Type 0
SettlesAs app before after None = Unit {0}
SettlesAs app before after (Some r) = IsAtomic app before after r

-- durable tables, which have the row of each service that outlives a stop; the service of a user with RESTART=NO gets the row with which it began
abbrev pub with_began : Generated → TableRows → Kept → TableRows
with_began g t r = cond (is_durable g r.service) t (with_service t r.service r.began)
