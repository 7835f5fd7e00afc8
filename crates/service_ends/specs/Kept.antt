-- The indexes are still those of the state after a change of the parts.
use Rattle.std.specs.Prelude.{List}
use Rattle.kdcs_types.specs.declared.key.ServiceId.{ServiceId}
use Rattle.open_transaction.specs.declared.async_queue.queue.QueuedJob.{QueuedJob}
use Rattle.open_transaction.specs.Transactions.{Boxed}
use Rattle.abstract_monitor.specs.Locks.{Locks}
use Rattle.service_ends.specs.declared.core_state.parts.MonitorParts.{MonitorParts}

-- ---- open transactions

-- other open transactions, with what goes with them
abbrev pub with_active : MonitorParts → List (ServiceId × Boxed) → Locks → List QueuedJob → MonitorParts
with_active p active locks jobs = record p { active = active; locks = locks; jobs = jobs }
