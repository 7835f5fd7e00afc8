use Rattle.std.proofs.Common.{subst, ◌∙◌}
use Rattle.std.specs.Prelude.{Option}
use Rattle.script_read.specs.declared.fault.ScriptFault.{ScriptFault}
use Rattle.typed_lines.specs.Commands.{commands_in}
use Rattle.lab_scripts.specs.Talking.{Performs}
use Rattle.lab_scripts.proofs.Talks.{said_refused}
use Rattle.lab_scripts.proofs.talking.do_script_line.Goals as goal

pub returns : goal.returns
returns g c =
    let said = commands_in c.args.bench.application.generation c.args.auto c.args.line.now in
    said_refused g.C.Console.passes c.args.printer.now c.do_line.new.listener (λ p. p.traces) (λ p. p.units) (λ p. p.console) c.args.bench c.in_ok-next.next c.args.auto c.args.number g.met.C.Console.passes_both said c.in-Some.fault
    (subst (λ (o : Option ScriptFault). Performs c.args.bench said c.in_ok-next.next o) c.in-Some.is c.in_ok-next.ensures.performs) c.in_ok-next.ensures.heard c.as_slice.result.now (c.as_slice.ensures ∙ c.in_ok-text.ensures) c.put.new.self c.in_ok-put.ensures
