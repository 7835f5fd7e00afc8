-- Where a key is in a list of records.
use Rattle.std.specs.Prelude.{Bool, false, List, [], ◌∷◌}
use Rattle.std.specs.Ordering.{eq_by_cmp}
use Rattle.kd_records.specs.declared.key.RecordKey.{RecordKey}
use Rattle.kd_records.specs.Keys.{key_cmp}
use Rattle.kd_records.specs.Contents.{Record}

-- whether the first record has this key
abbrev pub begins_with_key : RecordKey → List Record → Bool
begins_with_key k [] = false
begins_with_key k (r ∷ records) = eq_by_cmp key_cmp k r.0
