-- How what a transaction kept is read.
use Rattle.std.specs.Prelude.{ℕ, List, Option, Some, None, option_and_then, find, ◌==◌, nat_le, if◌then◌else◌}
use Rattle.std.specs.Int.{w8, w64}
use Rattle.std.specs.Option.{option_map}
use Rattle.kdcs_types.specs.declared.call.Code.{Code}
use Rattle.kdcs_types.specs.declared.call.Code.TheVariants.{K04, K05}
use Rattle.kdcs_types.specs.declared.act.Row.{Row}
use Rattle.kdcs_types.specs.declared.act.Row.TheVariants as row
use Rattle.kdcs_types.specs.declared.key.Area.{Area}
use Rattle.kdcs_types.specs.declared.key.Area.TheVariants as area
use Rattle.kdcs_types.specs.declared.key.Key.{Key}
use Rattle.kdcs_types.specs.declared.key.Key.TheVariants as key
use Rattle.kdcs_types.specs.declared.key.ServiceId.{ServiceId}
use Rattle.kdcs_types.specs.declared.service.Ending.{Ending}
use Rattle.kdcs_types.specs.declared.service.Note.{Note}
use Rattle.kdcs_types.specs.declared.service.Note.TheVariants.{Released, Refused}
use Rattle.kdcs_types.specs.declared.service.Service.{Service}
use Rattle.kdcs_types.specs.declared.service.Settled.{Settled}
use Rattle.record_codec.specs.Values.{record_key}
use Rattle.record_codec.specs.Fields.{number_field, list_field, both, items, chosen_by, either}
use Rattle.record_codec.specs.Readings.{always, turned, last_reading}
use Rattle.record_codec.specs.WholeValues.{whole}
use Rattle.record_codec.specs.RowReadings.{key_read, row_read}
use Rattle.audit_trail.specs.declared.kept.TheConstants.{ENDINGS}
use Rattle.audit_trail.specs.Kept.{ending_byte}

-- what is made of what was read, where it can be made of it
abbrev pub picked : {A B : Type 0} → (A → Option B) → (List ℕ → Option (A × List ℕ)) → List ℕ → Option (B × List ℕ)
picked make reads bytes = option_and_then (λ p. option_map (λ made. (made, p.1)) (make p.0)) (reads bytes)

-- a number of eight bytes, and so many items
abbrev pub many_items : {A : Type 0} → (List ℕ → Option (A × List ℕ)) → List ℕ → Option (List A × List ℕ)
many_items one bytes = option_and_then (λ p. items one p.0 p.1) (number_field w64 bytes)

-- ---- keys

-- the 24 bytes of a key
abbrev pub key_field : List ℕ → Option (List ℕ × List ℕ)
key_field = items (number_field w8) 24

-- the key of a row of this kind
abbrev pub key_of_kind : ℕ → List ℕ → Option (Key × List ℕ)
key_of_kind kind = picked (λ bytes. key_read (record { kind = kind; bytes = bytes })) key_field

abbrev pub service_at : Key → Option ServiceId
service_at (key.Gssb name) = None
service_at (key.Tls block lterm) = None
service_at (key.Uls block user) = None
service_at (key.Service id) = Some id
service_at (key.Job number) = None
service_at (key.Shown lterm) = None

abbrev pub area_at : Key → Option Area
area_at (key.Gssb name) = Some (area.Gssb name)
area_at (key.Tls block lterm) = Some (area.Tls block lterm)
area_at (key.Uls block user) = Some (area.Uls block user)
area_at (key.Service id) = None
area_at (key.Job number) = None
area_at (key.Shown lterm) = None

-- the service by the key of its row, whose kind is 4
abbrev pub service_field : List ℕ → Option (ServiceId × List ℕ)
service_field = picked service_at (key_of_kind 4)

-- the area by the kind and the key of its row
abbrev pub area_field : List ℕ → Option (Area × List ℕ)
area_field = chosen_by (λ kind. picked area_at (key_of_kind kind))

-- ---- the row at the beginning

abbrev pub service_of_row : Row → Option Service
service_of_row (row.Gssb name content) = None
service_of_row (row.Tls block lterm content) = None
service_of_row (row.Uls block user content) = None
service_of_row (row.Service id service) = Some service
service_of_row (row.Job number value) = None
service_of_row (row.Shown lterm value) = None

-- the row of this service with this value
abbrev pub service_with : ServiceId → List ℕ → Option Service
service_with id value = option_and_then service_of_row (row_read (record_key (key.Service id), value))

abbrev pub no_row : Option Service
no_row = None

abbrev pub some_row : Service → Option Service
some_row service = Some service

abbrev pub began_reading : ServiceId → List ℕ → Option (Option Service × List ℕ)
began_reading id = chosen_by (either 0 (always no_row) 1 (turned some_row (picked (service_with id) list_field)))

-- ---- notes

abbrev pub released : Area × Option (List ℕ) → Note
released p = Released p.0 p.1

abbrev pub refused : Area × Code → Note
refused p = Refused p.0 p.1

-- K04 or K05 by its number
abbrev pub code_reading : List ℕ → Option (Code × List ℕ)
code_reading = chosen_by (either 4 (always K04) 5 (always K05))

abbrev pub note_reading : List ℕ → Option (Note × List ℕ)
note_reading = chosen_by (either 1 (turned released (both area_field last_reading)) 2 (turned refused (both area_field code_reading)))

-- ---- the whole

-- no run passes so many statements
abbrev pub last_statement : ℕ
last_statement = 1000000000000

abbrev pub few_statements : ℕ → Option ℕ
few_statements n = if nat_le n last_statement then Some n else None

abbrev pub statements_reading : List ℕ → Option (ℕ × List ℕ)
statements_reading = picked few_statements (number_field w64)

-- the ending with this number
abbrev pub ending_at : ℕ → Option Ending
ending_at number = find (λ ending. ending_byte ending == number) ENDINGS

abbrev pub ending_reading : List ℕ → Option (Ending × List ℕ)
ending_reading = picked ending_at (number_field w8)

abbrev pub EndPart : Type 0
EndPart = ℕ × Ending

abbrev pub KeptPart : Type 0
KeptPart = Option Service × (List (List ℕ) × (List Note × EndPart))

abbrev pub kept_part : ServiceId → List ℕ → Option (KeptPart × List ℕ)
kept_part id = both (began_reading id) (both (many_items list_field) (both (many_items note_reading) (both statements_reading ending_reading)))

abbrev pub settled_of : ServiceId → KeptPart → Settled
settled_of id p = record { service = id; began = p.0; inputs = p.1.0; notes = p.1.1.0; statements = p.1.1.1.0; ending = p.1.1.1.1 }

abbrev pub kept_reading : List ℕ → Option (Settled × List ℕ)
kept_reading bytes = option_and_then (λ p. turned (settled_of p.0) (kept_part p.0) p.1) (service_field bytes)

-- what a transaction kept, where the bytes say it and nothing more
abbrev pub kept_read : List ℕ → Option Settled
kept_read bytes = whole kept_reading bytes
