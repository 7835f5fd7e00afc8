-- How a record is read as a row.
use Rattle.std.specs.Prelude.{◌≡◌, ℕ, IsTrue, List, ⊤, Option, Some, None, option_and_then, ◌==◌, if◌then◌else◌}
use Rattle.std.specs.Int.{w64}
use Rattle.std.specs.Option.{option_map}
use Rattle.std.specs.Ordering.{eq_by_cmp}
use Rattle.kd_records.specs.declared.key.RecordKey.{RecordKey}
use Rattle.kd_records.specs.Keys.{key_cmp as record_cmp}
use Rattle.kd_records.specs.Contents.{Record}
use Rattle.kdcs_types.specs.declared.act.Row.{Row}
use Rattle.kdcs_types.specs.declared.act.Row.TheVariants as row
use Rattle.kdcs_types.specs.declared.key.Key.{Key}
use Rattle.kdcs_types.specs.declared.key.Key.TheVariants as key
use Rattle.kdcs_types.specs.declared.key.ServiceId.{ServiceId}
use Rattle.kdcs_types.specs.declared.key.ServiceId.TheVariants.{Dialogue, Asynchronous}
use Rattle.kdcs_types.specs.declared.service.JobValue.{JobValue}
use Rattle.kdcs_types.specs.declared.service.Service.{Service}
use Rattle.kdcs_types.specs.Tables.{row_key, row_fits}
use Rattle.record_codec.specs.Values.{record_key, record_of}
use Rattle.record_codec.specs.Order.{IsProperKey}
use Rattle.record_codec.specs.Fields.{name_field, number_field, both, chosen_by, either}
use Rattle.record_codec.specs.Readings.{turned}
use Rattle.record_codec.specs.WholeValues.{JobFits, ServiceFits, job_reading, service_reading, whole}

-- ---- keys

abbrev pub to_dialogue : List ℕ → ServiceId
to_dialogue user = Dialogue user

abbrev pub to_asynchronous : ℕ → ServiceId
to_asynchronous number = Asynchronous number

abbrev pub id_reading : List ℕ → Option (ServiceId × List ℕ)
id_reading = chosen_by (either 68 (turned to_dialogue name_field) 65 (turned to_asynchronous (number_field w64)))

abbrev pub two_names : List ℕ → Option ((List ℕ × List ℕ) × List ℕ)
two_names = both name_field name_field

abbrev pub gssb_of : List ℕ → Key
gssb_of name = key.Gssb name

abbrev pub tls_of : List ℕ × List ℕ → Key
tls_of p = key.Tls p.0 p.1

abbrev pub uls_of : List ℕ × List ℕ → Key
uls_of p = key.Uls p.0 p.1

abbrev pub service_key_of : ServiceId → Key
service_key_of id = key.Service id

abbrev pub job_key_of : ℕ → Key
job_key_of number = key.Job number

abbrev pub shown_of : List ℕ → Key
shown_of name = key.Shown name

-- by the kind
abbrev pub key_reading : ℕ → List ℕ → Option (Key × List ℕ)
key_reading kind bytes =
    if kind == 1 then turned gssb_of name_field bytes
    else (if kind == 2 then turned tls_of two_names bytes
    else (if kind == 3 then turned uls_of two_names bytes
    else (if kind == 4 then turned service_key_of id_reading bytes
    else (if kind == 5 then turned job_key_of (number_field w64) bytes
    else (if kind == 6 then turned shown_of name_field bytes
    else None)))))

-- the key, where the record's key is its
abbrev pub checked_key : RecordKey → Key × List ℕ → Option Key
checked_key k p = if eq_by_cmp record_cmp (record_key p.0) k then Some p.0 else None

abbrev pub key_read : RecordKey → Option Key
key_read k = option_and_then (checked_key k) (key_reading k.kind k.bytes)

-- ---- rows

-- this of a service's row, and that of the value of a job
abbrev pub OfValue : (Service → Type 0) → (JobValue → Type 0) → Row → Type 0
OfValue S J (row.Gssb name content) = ⊤
OfValue S J (row.Tls block lterm content) = ⊤
OfValue S J (row.Uls block user content) = ⊤
OfValue S J (row.Service id service) = S service
OfValue S J (row.Job number value) = J value
OfValue S J (row.Shown lterm value) = J value

-- a row whose names are names, and whose numbers and lengths have their bytes
abbrev pub ValueFits : Row → Type 0
ValueFits = OfValue ServiceFits JobFits

pub record IsProperRow (r : Row) : Type 0 where
  pub key : IsProperKey (row_key r)
  pub value : ValueFits r

abbrev pub service_row_of : ServiceId → Service → Row
service_row_of id service = row.Service id service

abbrev pub job_row_of : ℕ → JobValue → Row
job_row_of number value = row.Job number value

abbrev pub shown_row_of : List ℕ → JobValue → Row
shown_row_of lterm value = row.Shown lterm value

abbrev pub value_read : Key → List ℕ → Option Row
value_read (key.Gssb name) bytes = Some (row.Gssb name bytes)
value_read (key.Tls block lterm) bytes = Some (row.Tls block lterm bytes)
value_read (key.Uls block user) bytes = Some (row.Uls block user bytes)
value_read (key.Service id) bytes = option_map (service_row_of id) (whole (service_reading id) bytes)
value_read (key.Job number) bytes = option_map (job_row_of number) (whole job_reading bytes)
value_read (key.Shown lterm) bytes = option_map (shown_row_of lterm) (whole job_reading bytes)

abbrev pub checked_row : Row → Option Row
checked_row r = if row_fits r then Some r else None

-- the row of a record, where there is one
abbrev pub row_read : Record → Option Row
row_read r = option_and_then (λ k. option_and_then checked_row (value_read k r.1)) (key_read r.0)

-- the record is the row's, and the row one that may be there
pub record RowThere (x : Record) (r : Row) : Type 0 where
  pub record_is : x ≡ record_of r
  pub proper : IsProperRow r
  pub fits : IsTrue (row_fits r)

-- rows with one record are one row
abbrev pub RecordsAreOneToOne : Type 0
RecordsAreOneToOne = (r q : Row) → IsProperRow r → IsProperRow q → IsTrue (row_fits r) → IsTrue (row_fits q) → record_of r ≡ record_of q → r ≡ q
