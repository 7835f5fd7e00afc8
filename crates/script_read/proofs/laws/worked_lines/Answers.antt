use Rattle.script_read.proofs.Examples.{input_rows, number_rows, name_rows, line_rows, script_rows}
use Rattle.script_read.proofs.laws.worked_lines.Goals as goal

pub returns : goal.returns
returns c = record { inputs = input_rows; numbers = number_rows; names = name_rows; lines = line_rows; scripts = script_rows }
