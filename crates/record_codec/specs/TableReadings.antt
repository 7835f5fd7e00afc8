-- How a content is read as tables.
use Rattle.std.specs.Prelude.{ℕ, List, [], ◌∷◌, Option, Some, option_and_then, All}
use Rattle.std.specs.Option.{option_map}
use Rattle.kd_records.specs.Contents.{Record}
use Rattle.kdcs_types.specs.declared.act.Change.{Change}
use Rattle.kdcs_types.specs.declared.act.Change.TheVariants.{Set}
use Rattle.kdcs_types.specs.declared.act.Changes.{Changes}
use Rattle.kdcs_types.specs.Tables.{TableRows}
use Rattle.record_codec.specs.Records.{rows_of}
use Rattle.record_codec.specs.Fields.{AreBytes}
use Rattle.record_codec.specs.RowReadings.{IsProperRow, row_read}

-- each record as the change that sets its row
abbrev pub sets_read : List Record → Option (List Change)
sets_read [] = Some []
sets_read (x ∷ xs) = option_and_then (λ r. option_map (λ cs. Set r ∷ cs) (sets_read xs)) (row_read x)

-- its key and its value are bytes
abbrev pub AreRecordBytes : Record → Type 0
AreRecordBytes x = AreBytes x.0.bytes × AreBytes x.1

-- ---- the tables

-- each row's names are names, and its numbers and lengths have their bytes
abbrev pub AreProperTables : TableRows → Type 0
AreProperTables t = All IsProperRow (rows_of t)

-- ---- tables whose records the content has

-- a clock, a next job number and changes of rows
abbrev pub changes_of : ℕ → ℕ → List Change → Changes
changes_of clock next_job items = record { clock = clock; next_job = next_job; items = items }
