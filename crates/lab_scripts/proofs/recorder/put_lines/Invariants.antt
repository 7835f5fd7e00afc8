use Rattle.std.proofs.Common.{◌≡◌, ◌++◌, drop}
use Rattle.abstract_monitor.specs.Trace.{bytes_of}
use Rattle.lab_scripts.proofs.recorder.put_lines.Given as goal

abbrev pub invariant-loop-act : goal.invariant-loop-act
invariant-loop-act l = l.sent ++ bytes_of (drop l.act-index l.acts) ≡ l.fn.sent ++ bytes_of l.acts
