-- What a synchronisation point and an abnormal end make of the services' rows.
use Rattle.std.specs.Prelude.{◌≡◌, cond, None}
use Rattle.kdcs_types.specs.declared.key.ServiceId.{ServiceId}
use Rattle.kdcs_types.specs.Keys.{id_eq}
use Rattle.kdcs_types.specs.Tables.{TableRows, service_of}
use Rattle.application_types.specs.Generation.{Generated}
use Rattle.abstract_monitor.specs.declared.outcome.Outcome.{Outcome}
use Rattle.abstract_monitor.specs.State.{OpenTransaction}
use Rattle.abstract_monitor.specs.Endings.{row_after, synchronised, broken}

-- a synchronisation point gives its own service the row that its outcome says, and keeps all others
abbrev pub PointsSetOwnRow : Type 0
PointsSetOwnRow =
    (g : Generated) (t : TableRows) (id : ServiceId) (x : OpenTransaction) (o : Outcome) (other : ServiceId)
    → service_of (synchronised g t id x o) other ≡ cond (id_eq other id) (row_after g id x o) (service_of t other)

-- an abnormal end removes its own row, and keeps all others
abbrev pub EndsRemoveOwnRow : Type 0
EndsRemoveOwnRow =
    (g : Generated) (t : TableRows) (id : ServiceId) (x : OpenTransaction) (other : ServiceId)
    → service_of (broken g t id x) other ≡ cond (id_eq other id) None (service_of t other)
