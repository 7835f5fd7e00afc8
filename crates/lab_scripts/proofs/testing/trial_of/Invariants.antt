use Rattle.std.proofs.Common.{◌≡◌, ◌+◌, ◌≤◌, [], length}
use Rattle.std.specs.Str.Lines.{lines}
use Rattle.lab_scripts.specs.Expected.{expected_of, sent_of}
use Rattle.lab_scripts.proofs.SoFar.{SoFar}
use Rattle.lab_scripts.proofs.testing.trial_of.Given as goal

abbrev pub invariant-loop-left : goal.invariant-loop-left
invariant-loop-left g l = record {
  so_far : SoFar l.fn.bench.application (expected_of l.script) (sent_of l.fn.bench.application l.fn.bench.state l.commands) (l.number + 1) (lines l.rest) l.bench.state l.left l.last.line (lines l.last.sent) l.met;
  application : l.bench.application ≡ l.fn.bench.application;
  quiet : g.C.Console.passes l.fn.console [] l.console;
  numbered : l.number + length l.rest ≤ 16777216;
  few : l.met ≤ l.number;
}

abbrev pub decreases-loop-left : goal.decreases-loop-left
decreases-loop-left g l = length l.rest
