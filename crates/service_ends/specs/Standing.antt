-- What the parts of a monitor stand for: a state of the abstract monitor; and when its indexes are those of the state.
use Rattle.std.specs.Prelude.{◌≡◌, ◌≤◌, ℕ, List, [], ◌∷◌, Option, IfSome, map}
use Rattle.std.specs.FinMap.{find}
use Rattle.kdcs_types.specs.declared.key.Area.{Area}
use Rattle.kdcs_types.specs.declared.key.ServiceId.{ServiceId}
use Rattle.kdcs_types.specs.Keys.{id_cmp}
use Rattle.application_types.specs.Generation.{Generated}
use Rattle.monitor_parts.specs.Asked.{holds_area}
use Rattle.open_transaction.specs.Transactions.{Boxed, boxed_transaction}
use Rattle.service_ends.specs.Schedule.{service_in}
use Rattle.abstract_monitor.specs.Charges.{total_charge}
use Rattle.abstract_monitor.specs.Endings.{durable}
use Rattle.abstract_monitor.specs.Locks.{Active, holds}
use Rattle.abstract_monitor.specs.Picks.{Classed, class_of, current_by}
use Rattle.abstract_monitor.specs.State.{OpenTransaction, State}
use Rattle.service_ends.specs.declared.core_state.parts.MonitorParts.{MonitorParts}
use Rattle.open_transaction.specs.Marks.{queue_of}

-- ---- the state

-- an open transaction of the code, as that of the definition
abbrev pub entry_of : ServiceId × Boxed → ServiceId × OpenTransaction
entry_of e = (e.0, boxed_transaction e.1)

abbrev pub active_of : List (ServiceId × Boxed) → Active
active_of transactions = map entry_of transactions

-- a service of the ready list without its class
abbrev pub id_of : Classed → ServiceId
id_of e = e.0

-- the state of the abstract monitor
abbrev pub state_of : MonitorParts → State
state_of p = record {
  tables = p.tables;
  signed = p.sessions;
  ready = map id_of p.scheduler.ready;
  tasks = map service_in p.scheduler.places;
  active = active_of p.active;
  waits = p.locks.waits;
}

-- ---- the indexes

-- it holds of each
abbrev pub Each : {X : Type 0} → (X → Type 0) → List X → Type 0
Each P [] = Unit {0}
Each P (x ∷ xs) = P x × Each P xs

-- the class of the service's current TAC
abbrev pub HasClass : Generated → Active → Classed → Type 0
HasClass g active e = e.1 ≡ class_of g (current_by (find id_cmp e.0 active))

abbrev pub PlaceHasClass : Generated → Active → Option Classed → Type 0
PlaceHasClass g active place = IfSome place (HasClass g active)

-- a transaction of the code knows its service and the greatest length of a message
pub record IsOwned (g : Generated) (steps : ℕ) (e : ServiceId × Boxed) : Type 0 where
  pub id : e.1.value.id ≡ e.0
  pub nb : e.1.value.messages.nb ≡ g.limits.nb
  pub counted : e.1.value.statements ≤ steps

-- classes, locks and marks are those of the state, and the charge is that of its durable tables
pub record IsIndexed (p : MonitorParts) : Type 0 where
  pub owned : Each (IsOwned p.generation p.steps) p.active
  pub ready : Each (HasClass p.generation (active_of p.active)) p.scheduler.ready
  pub places : Each (PlaceHasClass p.generation (active_of p.active)) p.scheduler.places
  pub locks : (id : ServiceId) (area : Area) → holds_area p.locks id area ≡ holds (active_of p.active) id area
  pub jobs : p.jobs ≡ queue_of (active_of p.active) p.tables.jobs
  pub charge : p.charge ≡ total_charge p.generation.limits.blksize (durable p.generation p.tables)

-- generation, units and the number of steps are the same
pub record SameApplication (p q : MonitorParts) : Type 0 where
  pub generation : q.generation ≡ p.generation
  pub units : q.units ≡ p.units
  pub steps : q.steps ≡ p.steps
