use Rattle.std.proofs.Common.{◌≡◌, ◌+◌, ◌≤◌, length}
use Rattle.std.specs.Str.Lines.{lines}
use Rattle.unit_read.specs.Open.{state_of, AreKept}
use Rattle.unit_read.specs.Reading.{read_from}
use Rattle.unit_read.specs.Units.{nothing_read}
use Rattle.unit_read.proofs.read.read_text.Given as goal

abbrev pub invariant-loop-rest : goal.invariant-loop-rest
invariant-loop-rest l = record {
  so_far : read_from l.number (lines l.rest) (state_of l.reading) ≡ read_from 1 (lines l.text) nothing_read;
  kept : AreKept l.reading;
  bounded : l.number + length l.rest ≤ 1 + length l.text;
  short : length l.text ≤ 16777216;
}

abbrev pub decreases-loop-rest : goal.decreases-loop-rest
decreases-loop-rest l = length l.rest
