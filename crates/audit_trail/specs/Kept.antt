-- What a transaction kept for its replay, as bytes.
use Rattle.std.specs.Prelude.{ℕ, List, [], ◌∷◌, ◌++◌, length, flat_map, Option, Some, None}
use Rattle.std.specs.Int.{w64, to_be_bytes}
use Rattle.kd_base.specs.Field.{list}
use Rattle.kd_records.specs.Keys.{key_text}
use Rattle.kdcs_types.specs.declared.call.Cause.{Cause}
use Rattle.kdcs_types.specs.declared.call.Cause.TheVariants.{E01, E02, E03, E04, E05, E06, E07, E08, E09, E10, E11, E12, Er}
use Rattle.kdcs_types.specs.declared.call.Code.{Code}
use Rattle.kdcs_types.specs.declared.call.Code.TheVariants.{K04, K05}
use Rattle.kdcs_types.specs.declared.key.Area.{Area}
use Rattle.kdcs_types.specs.declared.key.Key.TheVariants.{Service as ServiceKey}
use Rattle.kdcs_types.specs.declared.key.ServiceId.{ServiceId}
use Rattle.kdcs_types.specs.declared.service.Ending.{Ending}
use Rattle.kdcs_types.specs.declared.service.Ending.TheVariants.{Synced, Broken, BrokenFr}
use Rattle.kdcs_types.specs.declared.service.Note.{Note}
use Rattle.kdcs_types.specs.declared.service.Note.TheVariants.{Released, Refused}
use Rattle.kdcs_types.specs.declared.service.Service.{Service}
use Rattle.kdcs_types.specs.declared.service.Settled.{Settled}
use Rattle.kdcs_types.specs.Keys.{area_key}
use Rattle.record_codec.specs.Values.{record_key, service_bytes, last_bytes}

-- a number of eight bytes, and the items one after another
abbrev pub many : {A : Type 0} → (A → List ℕ) → List A → List ℕ
many bytes_of items = to_be_bytes w64 (length items) ++ flat_map bytes_of items

-- the 24 bytes of the key of its row
abbrev pub service_key_bytes : ServiceId → List ℕ
service_key_bytes id = (record_key (ServiceKey id)).bytes

-- 0, or 1 and the value of the row as a list
abbrev pub began_bytes : Option Service → List ℕ
began_bytes None = 0 ∷ []
began_bytes (Some row) = 1 ∷ list (service_bytes row)

-- the kind of its row, and the 24 bytes of that row's key
abbrev pub area_bytes : Area → List ℕ
area_bytes area = key_text (record_key (area_key area))

-- K04 and K05, the two with which a request is refused, by their numbers
abbrev pub code_byte : Code → ℕ
code_byte K04 = 4
code_byte K05 = 5
code_byte _ = 0

-- 1 for an area that was released, with 0, or 1 and its content; 2 for a request that was refused, with its code
abbrev pub note_bytes : Note → List ℕ
note_bytes (Released area content) = 1 ∷ area_bytes area ++ last_bytes content
note_bytes (Refused area code) = 2 ∷ area_bytes area ++ code_byte code ∷ []

-- E01 to E12 by their numbers, and PEND ER
abbrev pub cause_byte : Cause → ℕ
cause_byte E01 = 1
cause_byte E02 = 2
cause_byte E03 = 3
cause_byte E04 = 4
cause_byte E05 = 5
cause_byte E06 = 6
cause_byte E07 = 7
cause_byte E08 = 8
cause_byte E09 = 9
cause_byte E10 = 10
cause_byte E11 = 11
cause_byte E12 = 12
cause_byte Er = 13

abbrev pub ending_byte : Ending → ℕ
ending_byte Synced = 0
ending_byte (Broken cause) = cause_byte cause
ending_byte BrokenFr = 14

-- the service, its row as the transaction began, the inputs, the notes, the number of statements, and the ending
abbrev pub kept_bytes : Settled → List ℕ
kept_bytes kept =
    service_key_bytes kept.service
    ++ (began_bytes kept.began ++ (many list kept.inputs ++ (many note_bytes kept.notes ++ (to_be_bytes w64 kept.statements ++ ending_byte kept.ending ∷ []))))
