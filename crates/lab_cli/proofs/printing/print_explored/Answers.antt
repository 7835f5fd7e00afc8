use Rattle.std.proofs.Common.{◌∙◌}
use Rattle.std.proofs.lemmas.Result.{IfOk-weaker}
use Rattle.lab_cli.proofs.Outcomes.{all_printed}
use Rattle.lab_cli.proofs.printing.print_explored.Goals as goal

pub returns : goal.returns
returns g c =
    IfOk-weaker c.print_outcomes.result _ _
    (λ _ rest. all_printed g.C.Console.passes g.met.C.Console.passes_both c.args.setting c.args.tables.now c.args.commands.now c.args.number c.args.explored.now c.args.console.now c.put.new.self c.print_outcomes.new.console c.as_slice.result.now (c.as_slice.ensures ∙ c.in_ok-line.ensures) c.in_ok-put.ensures rest)
    c.print_outcomes.ensures
