-- The patch of some changes makes the records of the changed tables.
use Rattle.std.specs.Prelude.{◌≡◌, All}
use Rattle.kd_records.specs.Contents.{patched}
use Rattle.kdcs_types.specs.declared.act.Row.{Row}
use Rattle.kdcs_types.specs.declared.act.Change.{Change}
use Rattle.kdcs_types.specs.declared.act.Changes.{Changes}
use Rattle.kdcs_types.specs.Tables.{TableRows, row_key, changed, change_key, AreChanges}
use Rattle.record_codec.specs.Records.{rows_of, content_of_tables, patch_of}
use Rattle.record_codec.specs.Order.{IsProperKey}

-- ---- all changes

-- the keys of all rows are proper
abbrev pub HasProperKeys : TableRows → Type 0
HasProperKeys t = All (λ (r : Row). IsProperKey (row_key r)) (rows_of t)

-- the patch of some changes makes of the records of tables those of the changed tables
abbrev pub PatchesMatchChanges : Type 0
PatchesMatchChanges = (t : TableRows) (c : Changes) → HasProperKeys t → All (λ (ch : Change). IsProperKey (change_key ch)) c.items → AreChanges c.items → patched (content_of_tables t) (patch_of c) ≡ content_of_tables (changed t c)
