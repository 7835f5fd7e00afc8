-- How the rows of tables are kept: their lists, and the capacity that each has.
use Rattle.std.specs.Prelude.{◌≡◌, ℕ, ◌+◌, ◌≤◌, vec_len, vec_capacity}
use Rattle.kdcs_types.specs.declared.row_lists.RowLists.{RowLists}
use Rattle.kdcs_types.specs.Tables.{TableRows}

-- the tables of two numbers and some lists
abbrev pub tables_in : ℕ → ℕ → RowLists → TableRows
tables_in clock next_job l = record { clock = clock; next_job = next_job; gssbs = l.gssbs.items; tlss = l.tlss.items; ulss = l.ulss.items; services = l.services.items; jobs = l.jobs.items; shown = l.shown.items }

-- each list has capacity for n more rows
pub record HasCapacity (n : ℕ) (l : RowLists) : Type 0 where
  pub gssbs : vec_len l.gssbs + n ≤ vec_capacity l.gssbs
  pub tlss : vec_len l.tlss + n ≤ vec_capacity l.tlss
  pub ulss : vec_len l.ulss + n ≤ vec_capacity l.ulss
  pub services : vec_len l.services + n ≤ vec_capacity l.services
  pub jobs : vec_len l.jobs + n ≤ vec_capacity l.jobs
  pub shown : vec_len l.shown + n ≤ vec_capacity l.shown

-- the same rows
pub record HasSameRows (l m : RowLists) : Type 0 where
  pub gssbs : l.gssbs.items ≡ m.gssbs.items
  pub tlss : l.tlss.items ≡ m.tlss.items
  pub ulss : l.ulss.items ≡ m.ulss.items
  pub services : l.services.items ≡ m.services.items
  pub jobs : l.jobs.items ≡ m.jobs.items
  pub shown : l.shown.items ≡ m.shown.items
