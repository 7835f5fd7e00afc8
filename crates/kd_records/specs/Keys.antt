-- The order of the keys of records: by kind, then by the 24 bytes.
use Rattle.std.specs.Prelude.{ℕ, List, ◌∷◌}
use Rattle.std.specs.Ordering.{nat_cmp}
use Rattle.std.specs.Cmp.Lexicographic.{slice_cmp}
use Rattle.std.specs.declared.cmp.Ordering.{Ordering}
use Rattle.kd_records.specs.declared.key.RecordKey.{RecordKey}

-- a key as the bytes that are compared
abbrev pub key_text : RecordKey → List ℕ
key_text k = k.kind ∷ k.bytes

abbrev pub key_cmp : RecordKey → RecordKey → Ordering
key_cmp a b = slice_cmp nat_cmp (key_text a) (key_text b)
