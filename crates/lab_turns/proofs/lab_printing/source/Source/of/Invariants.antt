use Rattle.std.proofs.Common.{◌≡◌, ◌++◌, length, map}
use Rattle.std.specs.Str.Lines.{lines}
use Rattle.lab_turns.specs.Sources.{trimmed}
use Rattle.lab_turns.proofs.lab_printing.source.Source.of.Given as goal

abbrev pub invariant-loop-rest : goal.invariant-loop-rest
invariant-loop-rest l = l.lines.items ++ map trimmed (lines l.rest) ≡ map trimmed (lines l.text)

abbrev pub decreases-loop-rest : goal.decreases-loop-rest
decreases-loop-rest l = length l.rest
