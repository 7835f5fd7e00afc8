-- Worked rows, by computation.
use Rattle.std.specs.Prelude.{refl}
use Rattle.std.specs.Fmt.{digits}
use Rattle.hex.specs.Hex.{decode_pairs, encode_with}
use Rattle.record_codec.specs.Fields.{items}
use Rattle.audit_trail.specs.Examples.{TrailRows, LineRows, KeptRows}

pub trail_rows : TrailRows
unfolding digits decode_pairs encode_with items
trail_rows = record { text = refl; read = refl; last = refl; without_end = refl; behind_end = refl; without_changes = refl; empty = refl }

pub line_rows : LineRows
unfolding digits decode_pairs encode_with items
line_rows = refl

pub kept_rows : KeptRows
unfolding digits decode_pairs encode_with items
kept_rows = record { begin = refl; read = refl; longer = refl }
