-- A number that each row adds to the whole, and what changes make and replace of it.
use Rattle.std.specs.Prelude.{ℕ, ◌+◌, List, sum_by, Option, Some, None}
use Rattle.kdcs_types.specs.declared.act.Change.{Change}
use Rattle.kdcs_types.specs.declared.act.Change.TheVariants.{Set, Remove}
use Rattle.kdcs_types.specs.declared.act.Row.{Row}
use Rattle.kdcs_types.specs.Tables.{TableRows, change_key, gssb_row, job_row, row_at, service_row, shown_row, tls_row, uls_row}

-- the row that a change leaves
abbrev pub row_left : Change → Option Row
row_left (Set r) = Some r
row_left (Remove k) = None

module _ (m : Row → ℕ) where
  -- what a row adds, if there is one
  abbrev pub row_weight : Option Row → ℕ
  row_weight None = 0
  row_weight (Some r) = m r

  -- all rows together
  abbrev pub weight : TableRows → ℕ
  weight t =
      sum_by (λ r. m (gssb_row r)) t.gssbs
      + sum_by (λ r. m (tls_row r)) t.tlss
      + sum_by (λ r. m (uls_row r)) t.ulss
      + sum_by (λ s. m (service_row s)) t.services
      + sum_by (λ j. m (job_row j)) t.jobs
      + sum_by (λ r. m (shown_row r)) t.shown

  -- the rows that changes make
  abbrev pub made_weight : List Change → ℕ
  made_weight cs = sum_by (λ c. row_weight (row_left c)) cs

  -- the rows that are at their keys
  abbrev pub replaced_weight : TableRows → List Change → ℕ
  replaced_weight t cs = sum_by (λ c. row_weight (row_at t (change_key c))) cs
