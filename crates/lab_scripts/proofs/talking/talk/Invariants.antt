use Rattle.std.proofs.Common.{◌≡◌, ◌+◌}
use Rattle.lab_scripts.proofs.Talks.{TalksSoFar}
use Rattle.lab_scripts.proofs.talking.talk.Given as goal

abbrev pub invariant-loop-number : goal.invariant-loop-number
invariant-loop-number g l = record {
  so_far : TalksSoFar g.C.Console.passes (g.C.Console.prompted l.initial.printer.console) l.fn.bench l.initial.printer.traces l.initial.printer.units l.initial.printer.console l.bench l.auto' l.printer.traces (l.number + 1) l.printer.units l.printer.console;
  prompted : g.C.Console.prompted l.printer.console ≡ g.C.Console.prompted l.initial.printer.console;
}
