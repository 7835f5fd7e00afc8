-- The differences that ends of transactions make are what the transactions wrote.
use Rattle.std.specs.Prelude.{◌≡◌}
use Rattle.kdcs_types.specs.declared.key.ServiceId.{ServiceId}
use Rattle.kdcs_types.specs.Difference.{difference}
use Rattle.kdcs_types.specs.Tables.{IsSortedTables, TableRows}
use Rattle.application_types.specs.Generation.{Generated}
use Rattle.abstract_monitor.specs.declared.outcome.Outcome.{Outcome}
use Rattle.abstract_monitor.specs.Endings.{broken, durable, synchronised}
use Rattle.abstract_monitor.specs.State.{OpenTransaction}
use Rattle.laws_of_states.specs.PointLaws.{IsSoundlyOpen}
use Rattle.sync_points.specs.PointChanges.{end_changes, point_changes}

-- a synchronisation point
abbrev pub PointsChangeWhatWasWritten : Type 0
PointsChangeWhatWasWritten =
    (g : Generated) (t : TableRows) (id : ServiceId) (x : OpenTransaction) (o : Outcome) → IsSoundlyOpen g t id x
    → difference (durable g t) (durable g (synchronised g t id x o)) ≡ point_changes g t id x o

-- an abnormal end
abbrev pub EndsChangeTheirOwnRows : Type 0
EndsChangeTheirOwnRows =
    (g : Generated) (t : TableRows) (id : ServiceId) (x : OpenTransaction) → IsSortedTables t
    → difference (durable g t) (durable g (broken g t id x)) ≡ end_changes g t id x
