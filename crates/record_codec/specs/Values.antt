-- The bytes of keys and values: how a row of the tables is written as a record.
use Rattle.std.specs.Prelude.{◌<◌, ◌^◌, ⊤, ℕ, ◌-◌, Bool, true, false, List, [], ◌∷◌, ◌++◌, length, flat_map, replicate, Option, Some, None}
use Rattle.std.specs.Int.{w32, w64, to_be_bytes, bytes_high_first}
use Rattle.kd_base.specs.Field.{list}
use Rattle.kd_base.specs.Text.{padded}
use Rattle.kd_records.specs.declared.key.RecordKey.{RecordKey}
use Rattle.kd_records.specs.Contents.{Record, Change as RecordChange}
use Rattle.kdcs_types.specs.declared.act.Change.{Change}
use Rattle.kdcs_types.specs.declared.act.Change.TheVariants.{Set, Remove}
use Rattle.kdcs_types.specs.declared.act.Row.{Row}
use Rattle.kdcs_types.specs.declared.act.Row.TheVariants as row
use Rattle.kdcs_types.specs.declared.key.Key.{Key}
use Rattle.kdcs_types.specs.declared.key.Key.TheVariants as key
use Rattle.kdcs_types.specs.declared.key.ServiceId.{ServiceId}
use Rattle.kdcs_types.specs.declared.key.ServiceId.TheVariants.{Dialogue, Asynchronous}
use Rattle.kdcs_types.specs.declared.key.Target.{Target}
use Rattle.kdcs_types.specs.declared.key.Target.TheVariants.{Tac, Lterm}
use Rattle.kdcs_types.specs.declared.service.JobValue.{JobValue}
use Rattle.kdcs_types.specs.declared.service.Service.{Service}
use Rattle.kdcs_types.specs.Keys.{key_kind}
use Rattle.kdcs_types.specs.Tables.{row_key}

-- ---- keys

-- filled with zero bytes to 24
abbrev pub filled : List ℕ → List ℕ
filled bytes = bytes ++ replicate (24 - length bytes) 0

-- `D` and the user, or `A` and the job number
abbrev pub id_bytes : ServiceId → List ℕ
id_bytes (Dialogue user) = 68 ∷ padded user
id_bytes (Asynchronous number) = 65 ∷ to_be_bytes w64 number

-- the names and numbers of a key
abbrev pub key_bytes : Key → List ℕ
key_bytes (key.Gssb name) = padded name
key_bytes (key.Tls block lterm) = padded block ++ padded lterm
key_bytes (key.Uls block user) = padded block ++ padded user
key_bytes (key.Service id) = id_bytes id
key_bytes (key.Job number) = to_be_bytes w64 number
key_bytes (key.Shown lterm) = padded lterm

-- the key of a row's record: its kind and 24 bytes
abbrev pub record_key : Key → RecordKey
record_key k = record { kind = key_kind k; bytes = filled (key_bytes k) }

-- ---- values

-- a number of four bytes, and the items one after another
abbrev pub counted : {A : Type 0} → (A → List ℕ) → List A → List ℕ
counted bytes_of items = to_be_bytes w32 (length items) ++ flat_map bytes_of items

-- 0, or 1 and the message
abbrev pub last_bytes : Option (List ℕ) → List ℕ
last_bytes None = 0 ∷ []
last_bytes (Some message) = 1 ∷ list message

-- 0 or 1
abbrev pub flag : Bool → List ℕ
flag true = 1 ∷ []
flag false = 0 ∷ []

-- a dialogue service has no LTERM of its own: eight spaces
abbrev pub lterm_bytes : Option (List ℕ) → List ℕ
lterm_bytes None = replicate 8 32
lterm_bytes (Some lterm) = padded lterm

-- an LSSB: its name and its content
abbrev pub lssb_bytes : List ℕ × List ℕ → List ℕ
lssb_bytes l = padded l.0 ++ list l.1

-- first and next TAC, awaits, user, LTERM, KB, handed parts, last message, LSSBs
abbrev pub service_bytes : Service → List ℕ
service_bytes s =
    padded s.first ++ padded s.next ++ flag s.awaits ++ padded s.user ++ lterm_bytes s.lterm ++ list s.kb ++ counted list s.handed ++ last_bytes s.last ++ counted lssb_bytes s.lssbs

-- `T` or `L`, and the name
abbrev pub target_bytes : Target → List ℕ
target_bytes (Tac tac) = 84 ∷ padded tac
target_bytes (Lterm lterm) = 76 ∷ padded lterm

-- how often it was delivered again in one byte, and its due in seven
abbrev pub times_bytes : JobValue → List ℕ
times_bytes v = v.redelivered ∷ bytes_high_first 7 v.due

-- target, redelivered and due, user and LTERM, message
abbrev pub job_bytes : JobValue → List ℕ
job_bytes v = target_bytes v.to ++ times_bytes v ++ padded v.user ++ padded v.lterm ++ list v.message

-- the value of a row's record
abbrev pub value_bytes : Row → List ℕ
value_bytes (row.Gssb name content) = content
value_bytes (row.Tls block lterm content) = content
value_bytes (row.Uls block user content) = content
value_bytes (row.Service id service) = service_bytes service
value_bytes (row.Job number value) = job_bytes value
value_bytes (row.Shown lterm value) = job_bytes value

-- the record of a row
abbrev pub record_of : Row → Record
record_of r = (record_key (row_key r), value_bytes r)

-- a change of a row as a change of its record
abbrev pub record_change : Change → RecordChange
record_change (Set r) = (record_key (row_key r), Some (value_bytes r))
record_change (Remove k) = (record_key k, None)

-- the due of a job or of a shown message; other rows have none, that is 0
abbrev pub due_in : Row → ℕ
due_in (row.Gssb name content) = 0
due_in (row.Tls block lterm content) = 0
due_in (row.Uls block user content) = 0
due_in (row.Service id service) = 0
due_in (row.Job number value) = value.due
due_in (row.Shown lterm value) = value.due

-- the value's length has four bytes, and its due seven
pub record HasShortValue (r : Row) : Type 0 where
  pub short : length (value_bytes r) < 2 ^ 32
  pub due : due_in r < 2 ^ 56

-- the same of the row that a change sets
abbrev pub HasShortChange : Change → Type 0
HasShortChange (Set r) = HasShortValue r
HasShortChange (Remove k) = ⊤
