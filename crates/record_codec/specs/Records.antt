-- Tables as a content of records, and back.
use Rattle.std.specs.Prelude.{◌≡◌, List, ◌++◌, map, All}
use Rattle.kd_records.specs.declared.content.Content.{Content}
use Rattle.kd_records.specs.declared.content.Patch.{Patch}
use Rattle.kdcs_types.specs.declared.act.Changes.{Changes}
use Rattle.kdcs_types.specs.declared.act.Row.{Row}
use Rattle.kdcs_types.specs.Tables.{TableRows, gssb_row, tls_row, uls_row, service_row, job_row, shown_row, IsSortedTables}
use Rattle.record_codec.specs.Values.{record_of, record_change, HasShortValue}

-- all rows, in the order of their keys
abbrev pub rows_of : TableRows → List Row
rows_of t = map gssb_row t.gssbs ++ (map tls_row t.tlss ++ (map uls_row t.ulss ++ (map service_row t.services ++ (map job_row t.jobs ++ map shown_row t.shown))))

-- the records of tables
abbrev pub content_of_tables : TableRows → Content
content_of_tables t = record { clock = t.clock; next_job = t.next_job; items = map record_of (rows_of t) }

-- the values are short enough for records
abbrev pub HasShortValues : TableRows → Type 0
HasShortValues t = All HasShortValue (rows_of t)

-- these are the tables whose records the content has
pub record AreTablesOf (x : Content) (t : TableRows) : Type 0 where
  pub sorted : IsSortedTables t
  pub records : x ≡ content_of_tables t

-- the patch of some changes
abbrev pub patch_of : Changes → Patch
patch_of c = record { clock = c.clock; next_job = c.next_job; items = map record_change c.items }
