-- The application of a generation and the units that were fitted to it.
use Rattle.application_types.specs.Generation.{Generated}
use Rattle.application_types.specs.Fitted.{FittedUnits}
use Rattle.abstract_monitor.specs.State.{Application}

abbrev pub applied : Generated → FittedUnits → Application
applied g fitted = record { generation = g; units = fitted.units }
