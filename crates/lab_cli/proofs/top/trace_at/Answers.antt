use Rattle.std.proofs.Common.{refl}
use Rattle.lab_cli.proofs.Working.{names_at, state_at, traces}
use Rattle.lab_cli.proofs.top.trace_at.Goals as goal

pub trace-requires : goal.trace-requires
trace-requires g c = names_at c.args.place c.in-Ok.bench.application c.in-Ok.ensures.application c.deref.result.now c.deref.ensures.value c.requires.names

pub returns-in-Ok-trace : goal.returns-in-Ok-trace
returns-in-Ok-trace g c =
    let h = c.in-Ok-trace.ensures in
    (refl, traces g.C.Console.passes c.args.place c.in-Ok.bench.application c.in-Ok.bench.state c.in-Ok.ensures.application (state_at c.args.place c.in-Ok.bench.application c.in-Ok.bench.state c.in-Ok.ensures.application c.in-Ok.ensures.state) c.args.console c.trace.new.printer.console c.deref.result.now c.deref.ensures.value h.0 h.1 _ _ h.2)
