-- Numbers and keys at their places in a list of bytes.
use Rattle.std.specs.Prelude.{ℕ, ◌<◌, ◌^◌, List, take, drop, get_or}
use Rattle.std.specs.Int.{Width, byte_len, from_be_bytes}
use Rattle.kd_records.specs.declared.key.RecordKey.{RecordKey}

-- what is read from a file are bytes
abbrev pub AreBytes : List ℕ → Type 0
AreBytes bytes = (k : ℕ) → get_or bytes k 0 < 2 ^ 8

-- the number that is written at this place
unfoldable pub number : Width → ℕ → List ℕ → ℕ
number w at bytes = from_be_bytes w (take (byte_len w) (drop at bytes))

-- the key at the front
abbrev pub key_at : List ℕ → RecordKey
key_at left = record { kind = get_or left 0 0; bytes = take 24 (drop 1 left) }
