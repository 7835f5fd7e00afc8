-- What one statement of a service does to its transaction and to the requests that wait.
use Rattle.std.specs.Prelude.{◌≡◌, ℕ, ◌+◌, IsTrue, List, Option}
use Rattle.kdcs_types.specs.declared.key.Area.{Area}
use Rattle.kdcs_types.specs.declared.key.ServiceId.{ServiceId}
use Rattle.kdcs_types.specs.Tables.{TableRows, content_of}
use Rattle.open_transaction.specs.declared.open.OpenTransaction.{OpenTransaction}
use Rattle.service_parts.specs.declared.unit_step.stepped.Stepped.{Stepped}
use Rattle.service_parts.specs.declared.unit_step.stepped.Stepped.TheVariants as stepped
use Rattle.monitor_parts.specs.Asked.{without_wait}
use Rattle.open_transaction.specs.Transactions.{transaction_of}
use Rattle.application_types.specs.UnitText.{UnitText}
use Rattle.kdcs_types.specs.declared.call.Call.{Call}
use Rattle.kdcs_calls.specs.Calling.{performed_now, waits_for_area}
use Rattle.kd_base.specs.declared.words.Variant.{Variant}
use Rattle.abstract_monitor.specs.declared.answer.Called.{Called}
use Rattle.abstract_monitor.specs.declared.answer.Happened.{Happened}
use Rattle.abstract_monitor.specs.declared.answer.Happened.TheVariants.{Went, Queued, Waited, Held, Settles, Breaks, Returns}
use Rattle.abstract_monitor.specs.declared.outcome.Outcome.{Outcome}
use Rattle.abstract_monitor.specs.Endings.{is_asynchronous}
use Rattle.abstract_monitor.specs.Locks.{Locks, Waiting, told_now}
use Rattle.abstract_monitor.specs.Statements.{Stated, area_of, by_call, by_outcome, by_performed, statement}
use Rattle.abstract_monitor.specs.State.{Application, OpenTransaction as Transaction}
use Rattle.laws_of_states.specs.Transactions.{fits_if_there}

-- a plain statement gives another unit run and is counted; a call, and an end, change nothing yet
abbrev pub StepLeaves : (before after : OpenTransaction) → Stepped → Type 0
StepLeaves x y stepped.Plain = y ≡ record x { run = y.run; statements = x.statements + 1 }
StepLeaves x y (stepped.Asks call) = y ≡ x
StepLeaves x y (stepped.Ends cause) = y ≡ x

-- a statement that is done, and PEND KP, end the wait of their service; a request waits since it was made first; and an end of the
-- transaction leaves the wait to those who free all that the service holds
abbrev pub waits_by : Locks → ServiceId → (now : ℕ) → Option Area → Happened → List (ServiceId × Waiting)
waits_by l id now area Waited = waits_for_area l id now area
waits_by l id now area (Settles o) = l.waits
waits_by l id now area (Breaks ending) = l.waits
waits_by l id now area Returns = l.waits
waits_by l id now area _ = (without_wait l id).waits

-- the waits after the next statement of a service
abbrev pub waits_after : Application → TableRows → Locks → ServiceId → Transaction → Happened → List (ServiceId × Waiting)
waits_after app t l id x h = waits_by l id t.clock (area_of app x) h

-- a statement that is done, and PEND KP, leave no wait of their service
abbrev pub wait_ended : Locks → ServiceId → Happened → Locks
wait_ended l id Went = without_wait l id
wait_ended l id Queued = without_wait l id
wait_ended l id (Held tac) = without_wait l id
wait_ended l id _ = l

-- the waits, once that of their service is ended where its statement ends it
abbrev pub WaitsAfter : Application → TableRows → (before after : Locks) → OpenTransaction → Happened → Type 0
WaitsAfter app t l m w h = (wait_ended m w.id h).waits ≡ waits_after app t l w.id (transaction_of w) h

-- no content of an area is longer than a content may be
abbrev pub ContentsFit : TableRows → Type 0
ContentsFit t = (area : Area) → IsTrue (fits_if_there (content_of t area))

-- ---- the next statement of a transaction, told what the locks and the tables say now

abbrev pub stated_now : Application → TableRows → Locks → OpenTransaction → Stated
stated_now app t l w =
    statement app (told_now l app.generation.limits.reswait t w.id (area_of app (transaction_of w))) (is_asynchronous w.id) (transaction_of w)

-- it is this call
abbrev pub call_now : Application → TableRows → Locks → OpenTransaction → UnitText → Call → Stated
call_now app t l w unit call =
    by_performed app (is_asynchronous w.id) unit (performed_now app.generation t l w.id (transaction_of w) call)

-- the call was answered so
abbrev pub answered_now : Application → OpenTransaction → UnitText → Called → Stated
answered_now app w unit called = by_call app (is_asynchronous w.id) unit (transaction_of w) called

-- it is a PEND that comes to this
abbrev pub pended_now : Application → OpenTransaction → Variant → Outcome → Stated
pended_now app w variant outcome = by_outcome app (is_asynchronous w.id) (transaction_of w) variant outcome
