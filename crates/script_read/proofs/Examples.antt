-- The worked lines hold by computation.
use Rattle.std.proofs.Common.{refl}
use Rattle.script_read.specs.Examples.{InputRows, NumberRows, NameRows, LineRows, ScriptRows}

pub input_rows : InputRows
input_rows = refl

pub number_rows : NumberRows
number_rows = refl

pub name_rows : NameRows
name_rows = refl

pub line_rows : LineRows
line_rows = refl

pub script_rows : ScriptRows
script_rows = record { script = refl; first = refl; bad = refl }
