use Rattle.std.proofs.Common.{◌≡◌, ◌++◌, take}
use Rattle.std.specs.Prelude.{map}
use Rattle.kdcs_types.specs.Tables.{gssb_row}
use Rattle.record_codec.specs.Values.{record_of}
use Rattle.record_codec.proofs.encode.put_gssbs.Given as goal

abbrev pub invariant-loop-row : goal.invariant-loop-row
invariant-loop-row l = l.records ≡ l.initial.records ++ map record_of (map gssb_row (take l.row-index l.rows))
