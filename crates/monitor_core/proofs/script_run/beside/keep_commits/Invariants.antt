use Rattle.std.proofs.Common.{◌≡◌, drop}
use Rattle.abstract_monitor.specs.Trace.{tables_after}
use Rattle.monitor_core.specs.Keeping.{AreKept}
use Rattle.monitor_core.proofs.script_run.beside.keep_commits.Given as goal

abbrev pub invariant-loop-act : goal.invariant-loop-act
invariant-loop-act l = record {
  kept : AreKept (drop l.act-index l.acts);
  durable : tables_after l.durable (drop l.act-index l.acts) ≡ tables_after l.fn.durable l.acts;
}
