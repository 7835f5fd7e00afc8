use Rattle.std.proofs.Common.{◌≡◌, ◌+◌, ◌≤◌, length}
use Rattle.std.specs.Str.Lines.{lines}
use Rattle.script_read.specs.Script.{script_from}
use Rattle.script_read.specs.Reading.{onto, commands_of}
use Rattle.script_read.proofs.reading.commands_of.Given as goal

abbrev pub invariant-loop-rest : goal.invariant-loop-rest
invariant-loop-rest g l = record {
  so_far : onto l.commands (script_from (g.R.LineReader.line_of l.reader) l.number (lines l.rest)) ≡ commands_of (g.R.LineReader.line_of l.reader) l.text;
  bounded : l.number + length l.rest ≤ 1 + length l.text;
}

abbrev pub decreases-loop-rest : goal.decreases-loop-rest
decreases-loop-rest g l = length l.rest
