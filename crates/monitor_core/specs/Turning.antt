-- When a monitor can do a turn, how the service of a job begins, and what the statement of a service does to its state.
use Rattle.std.specs.Prelude.{◌≡◌, ◌-◌, ℕ, true, Option, None, Some, slice_get}
use Rattle.std.specs.FinMap.{put}
use Rattle.kdcs_types.specs.declared.key.ServiceId.{ServiceId}
use Rattle.kdcs_types.specs.declared.key.ServiceId.TheVariants.{Asynchronous}
use Rattle.kdcs_types.specs.declared.key.Target.{Target}
use Rattle.kdcs_types.specs.declared.key.Target.TheVariants.{Tac, Lterm}
use Rattle.kdcs_types.specs.declared.service.JobValue.{JobValue}
use Rattle.kdcs_types.specs.Keys.{id_cmp}
use Rattle.open_transaction.specs.Queue.{with_mark}
use Rattle.abstract_monitor.specs.declared.answer.Happened.{Happened}
use Rattle.abstract_monitor.specs.declared.answer.Happened.TheVariants.{Went, Queued, Waited, Held, Settles, Breaks, Returns}
use Rattle.abstract_monitor.specs.Bytes.{Bytes}
use Rattle.abstract_monitor.specs.Endings.{opened_by_job}
use Rattle.abstract_monitor.specs.State.{Application, OpenTransaction, State}
use Rattle.abstract_monitor.specs.Statements.{area_of}
use Rattle.abstract_monitor.specs.Turns.{statement_now, waiting_for, with_open, without_wait}
use Rattle.open_transaction.specs.Transactions.{Boxed, boxed_transaction}
use Rattle.service_ends.specs.declared.core_state.parts.MonitorParts.{MonitorParts}
use Rattle.service_ends.specs.Kept.{with_active}

-- the task holds the service
abbrev pub IsHeldBy : State → (task : ℕ) → ServiceId → Type 0
IsHeldBy s task id = slice_get s.tasks (task - 1) ≡ Some (Some id)

-- ---- the service of a job

-- the service of a job for this TAC is open, and the job is marked as taken
pub record Begun (p q : MonitorParts) (number : ℕ) (job : JobValue) (tac : Bytes) : Type 0 where
  pub transaction : Boxed
  pub exact : boxed_transaction transaction ≡ opened_by_job p.generation job tac
  pub id : transaction.value.id ≡ Asynchronous number
  pub nb : transaction.value.messages.nb ≡ p.generation.limits.nb
  pub parts : q ≡ with_active p (put id_cmp (Asynchronous number) transaction p.active) p.locks (with_mark number true p.jobs)

-- a job for an LTERM begins no service
abbrev pub BegunFor : (p q : MonitorParts) → (number : ℕ) → JobValue → Target → Type 0
BegunFor p q number job (Tac tac) = Begun p q number job tac
BegunFor p q number job (Lterm lterm) = q ≡ p

-- nor does a number that no job has
abbrev pub BegunBy : (p q : MonitorParts) → (number : ℕ) → Option JobValue → Type 0
BegunBy p q number None = q ≡ p
BegunBy p q number (Some job) = BegunFor p q number job job.to

-- ---- a statement

-- the state once the statement of a service is done, before what follows it: x is its transaction before it, y after it
abbrev pub state_then : Application → State → ServiceId → (x y : OpenTransaction) → Happened → State
state_then app s id x y Went = with_open (without_wait s id) id y
state_then app s id x y Queued = with_open (without_wait s id) id y
state_then app s id x y Waited = waiting_for s id (area_of app x)
state_then app s id x y (Held tac) = without_wait s id
state_then app s id x y (Settles o) = s
state_then app s id x y (Breaks ending) = s
state_then app s id x y Returns = s

-- the same for its next statement
abbrev pub state_by : Application → State → ServiceId → OpenTransaction → Happened → State
state_by app s id x happened = state_then app s id x (statement_now app s id x).0 happened
