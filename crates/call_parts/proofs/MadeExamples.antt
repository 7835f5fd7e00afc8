use Rattle.std.proofs.Common.{refl}
use Rattle.std.specs.Fmt.{digits}
use Rattle.abstract_monitor.specs.Made.{made_rounds}
use Rattle.call_parts.specs.MadeExamples.{ScriptRows}

pub script_rows : ScriptRows
unfolding digits made_rounds
script_rows = record { one = refl; two = refl; five = refl; hundredth = refl; not_hundredth = refl }
