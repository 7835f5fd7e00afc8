-- How many bytes the value of a row has, and what tables are charged for their bytes.
use Rattle.std.specs.Prelude.{◌≡◌, ℕ, length}
use Rattle.kd_records.specs.Charge.{total_charge as records_charge}
use Rattle.kdcs_types.specs.declared.act.Row.{Row}
use Rattle.kdcs_types.specs.declared.act.Row.TheVariants as row
use Rattle.kdcs_types.specs.Tables.{TableRows}
use Rattle.abstract_monitor.specs.Charges.{job_length, service_length, total_charge}
use Rattle.record_codec.specs.Values.{value_bytes}
use Rattle.record_codec.specs.Records.{content_of_tables}
use Rattle.record_codec.specs.RowReadings.{IsProperRow}
use Rattle.record_codec.specs.TableReadings.{AreProperTables}

-- the length of a row's value, by which the monitor charges it
abbrev pub value_length : Row → ℕ
value_length (row.Gssb name content) = length content
value_length (row.Tls block lterm content) = length content
value_length (row.Uls block user content) = length content
value_length (row.Service id service) = service_length service
value_length (row.Job number value) = job_length value
value_length (row.Shown lterm value) = job_length value

-- it is the number of the value's bytes
abbrev pub LengthsAreThoseOfTheBytes : Type 0
LengthsAreThoseOfTheBytes = (r : Row) → IsProperRow r → value_length r ≡ length (value_bytes r)

-- tables are charged what their records are charged
abbrev pub ChargesAreThoseOfTheBytes : Type 0
ChargesAreThoseOfTheBytes = (blksize : ℕ) (t : TableRows) → AreProperTables t → total_charge blksize t ≡ records_charge blksize (content_of_tables t).items
