-- Which rows go when tables are carried.
use Rattle.std.specs.Prelude.{◌≡◌, Bool, not, List, [], filter, is_some}
use Rattle.application_types.specs.Generation.{Generated}
use Rattle.kdcs_types.specs.declared.act.Row.{Row}
use Rattle.kdcs_types.specs.Tables.{TableRows, row_at, row_key}
use Rattle.record_codec.specs.Records.{rows_of}
use Rattle.kd_update.specs.Carrying.{carried}
use Rattle.kdcfile_carry.specs.declared.losing.Losses.{Losses}
use Rattle.kdcfile_carry.specs.declared.losing.Losses.TheVariants.{Refused}
use Rattle.kdcfile_carry.specs.Files.{Files}

-- the tables have no row of its key
abbrev pub is_gone : (new : TableRows) → Row → Bool
is_gone new r = not (is_some (row_at new (row_key r)))

-- the rows of the old tables that the new ones do not have, in the order of their keys
abbrev pub rows_gone : (old new : TableRows) → List Row
rows_gone old new = filter (is_gone new) (rows_of old)

-- no row of these files goes, where none may
abbrev pub MayLose : Generated → Losses → Files → Type 0
MayLose g losses f = losses ≡ Refused → rows_gone f.tables (carried g f.tables) ≡ []
