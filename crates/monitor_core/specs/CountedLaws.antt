-- Laws: turns and commands are counted before what they do.
use Rattle.std.specs.Prelude.{ℕ, ◌+◌, ◌≤◌, List, [], ◌∷◌}
use Rattle.std.proofs.Common.{arith}
use Rattle.kdcs_types.specs.declared.key.ServiceId.{ServiceId}
use Rattle.application_types.specs.Generation.{Generated}
use Rattle.open_transaction.specs.Transactions.{Boxed}
use Rattle.service_ends.specs.declared.core_state.parts.MonitorParts.{MonitorParts}
use Rattle.service_ends.specs.Standing.{Each, IsIndexed, IsOwned}
use Rattle.service_ends.specs.Whole.{IsWhole}
use Rattle.monitor_core.specs.Counted.{DidFewer, IsAhead}
use Rattle.monitor_core.specs.SteppingLaws.{all_more}

fewer_done : (g : Generated) (n : ℕ) (es : List (ServiceId × Boxed)) → Each (IsOwned g n) es → Each (DidFewer (n + 1)) es
fewer_done g n [] h = tt
fewer_done g n (e ∷ es) h = (let a : e.1.value.statements ≤ n = h.0.counted in omega arith, fewer_done g n es h.1)

-- so it is once one more is counted
pub one_ahead : (p : MonitorParts) → IsIndexed p → IsAhead (record p { steps = p.steps + 1 })
one_ahead p h = fewer_done p.generation p.steps p.active h.owned

-- and the parts stay whole
pub all_counted : (p : MonitorParts) (turns : ℕ) → IsWhole p → IsWhole (record p { steps = p.steps + turns })
all_counted p turns h = record {
  indexed = record { owned = all_more p.generation p.steps turns p.active h.indexed.owned; ready = h.indexed.ready; places = h.indexed.places; locks = h.indexed.locks; jobs = h.indexed.jobs; charge = h.indexed.charge };
  fit = h.fit;
  application = h.application;
  facts = h.facts;
}

pub one_counted : (p : MonitorParts) → IsWhole p → IsWhole (record p { steps = p.steps + 1 })
one_counted p h = all_counted p 1 h
