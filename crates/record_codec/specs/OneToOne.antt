-- Tables with one content are one.
use Rattle.std.specs.Prelude.{◌≡◌}
use Rattle.kdcs_types.specs.Tables.{TableRows, IsSortedTables}
use Rattle.record_codec.specs.Records.{content_of_tables}
use Rattle.record_codec.specs.TableReadings.{AreProperTables}

abbrev pub TablesAreOneToOne : Type 0
TablesAreOneToOne = (t u : TableRows) → AreProperTables t → AreProperTables u → IsSortedTables t → IsSortedTables u → content_of_tables t ≡ content_of_tables u → t ≡ u
