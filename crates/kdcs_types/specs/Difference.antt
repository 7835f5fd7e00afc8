-- What differs between two tables: the changes that make the one of the other.
use Rattle.std.specs.Prelude.{Bool, true, false, List, [], ◌∷◌, ◌++◌, map, Option, Some, None}
use Rattle.kdcs_types.specs.declared.key.Key.{Key}
use Rattle.kdcs_types.specs.declared.act.Row.{Row}
use Rattle.kdcs_types.specs.declared.act.Change.{Change}
use Rattle.kdcs_types.specs.declared.act.Change.TheVariants.{Set, Remove}
use Rattle.kdcs_types.specs.declared.act.Changes.{Changes}
use Rattle.kdcs_types.specs.Keyed.{with_item}
use Rattle.kdcs_types.specs.Tables.{TableRows, gssb_key, tls_key, uls_key, service_key, job_key, shown_key, change_key, row_at}
use Rattle.kdcs_types.specs.Same.{row_same}

-- the keys of all rows
abbrev pub keys_of : TableRows → List Key
keys_of t = map gssb_key t.gssbs ++ (map tls_key t.tlss ++ (map uls_key t.ulss ++ (map service_key t.services ++ (map job_key t.jobs ++ map shown_key t.shown))))

-- the change after which a key has this row, or none
abbrev pub change_to : Key → Option Row → Change
change_to k None = Remove k
change_to k (Some r) = Set r

abbrev pub noted_unless : Bool → Change → List Change → List Change
noted_unless true c cs = cs
noted_unless false c cs = with_item change_key c cs

-- of these keys, those whose rows differ, each with its change
unfoldable pub differing : TableRows → TableRows → List Key → List Change
differing old new [] = []
differing old new (k ∷ ks) = noted_unless (row_same (row_at old k) (row_at new k)) (change_to k (row_at new k)) (differing old new ks)

-- the new clock, the new next job number, and in ascending order the keys whose rows differ, with their new rows
abbrev pub difference : TableRows → TableRows → Changes
difference old new = record { clock = new.clock; next_job = new.next_job; items = differing old new (keys_of old ++ keys_of new) }
