-- Tables that suit a generation have values that are short enough for records.
use Rattle.application_types.specs.Soundness.{AreLimits}
use Rattle.application_types.specs.Generation.{Generated}
use Rattle.kdcs_types.specs.Tables.{TableRows}
use Rattle.laws_of_states.specs.Suits.{Suits}
use Rattle.record_codec.specs.Records.{HasShortValues}
use Rattle.record_codec.specs.TableReadings.{AreProperTables}

abbrev pub SuitingTablesAreShort : Type 0
SuitingTablesAreShort = (g : Generated) (t : TableRows) → AreLimits g.limits → Suits g t → AreProperTables t → HasShortValues t
