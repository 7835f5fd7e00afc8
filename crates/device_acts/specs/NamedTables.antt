-- Tables whose rows are named: those whose lists are, proper ones, and what named changes make of them.
use Rattle.std.specs.Prelude.{All}
use Rattle.kdcs_types.specs.Tables.{TableRows}
use Rattle.record_codec.specs.Records.{rows_of}
use Rattle.device_acts.specs.Named.{IsNamedRow}

-- the names of all rows are names
abbrev pub AreNamedTables : TableRows → Type 0
AreNamedTables t = All IsNamedRow (rows_of t)
