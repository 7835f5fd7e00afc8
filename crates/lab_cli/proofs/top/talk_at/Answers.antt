use Rattle.std.proofs.Common.{refl}
use Rattle.lab_cli.proofs.Working.{state_at, talks}
use Rattle.lab_cli.proofs.top.talk_at.Goals as goal

pub returns-in-Ok-talk : goal.returns-in-Ok-talk
returns-in-Ok-talk g c =
    (refl, talks g.C.Console.passes c.args.place c.in-Ok.bench.application c.in-Ok.bench.state c.in-Ok.ensures.application (state_at c.args.place c.in-Ok.bench.application c.in-Ok.bench.state c.in-Ok.ensures.application c.in-Ok.ensures.state) c.args.console c.talk.new.printer.console (g.C.Console.prompted c.args.console) _ c.in-Ok-talk.ensures)
