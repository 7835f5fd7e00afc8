-- The keys of records are ordered as the keys of rows are.
use Rattle.std.specs.Prelude.{◌≡◌, ◌^◌, ◌<◌}
use Rattle.kd_base.specs.Text.{IsName}
use Rattle.kd_records.specs.Keys.{key_cmp as record_cmp}
use Rattle.kdcs_types.specs.declared.key.Key.{Key}
use Rattle.kdcs_types.specs.declared.key.Key.TheVariants as key
use Rattle.kdcs_types.specs.declared.key.ServiceId.TheVariants.{Dialogue, Asynchronous}
use Rattle.kdcs_types.specs.Keys.{key_cmp}
use Rattle.record_codec.specs.Values.{record_key}

-- ---- keys

-- the names of a key are names, and its numbers have eight bytes
abbrev pub IsProperKey : Key → Type 0
IsProperKey (key.Gssb name) = IsName name
IsProperKey (key.Tls block lterm) = IsName block × IsName lterm
IsProperKey (key.Uls block user) = IsName block × IsName user
IsProperKey (key.Service (Dialogue user)) = IsName user
IsProperKey (key.Service (Asynchronous number)) = number < 2 ^ 64
IsProperKey (key.Job number) = number < 2 ^ 64
IsProperKey (key.Shown lterm) = IsName lterm

-- the keys of records ascend as the keys of rows do
abbrev pub KeysKeepTheirOrder : Type 0
KeysKeepTheirOrder = (a b : Key) → IsProperKey a → IsProperKey b → record_cmp (record_key a) (record_key b) ≡ key_cmp a b
