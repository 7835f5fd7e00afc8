use Rattle.std.proofs.Common.{◌∙◌}
use Rattle.std.proofs.lemmas.Result.{IfOk-weaker}
use Rattle.lab_turns.specs.Heard.{Over}
use Rattle.lab_turns.specs.PrintingLaws.{prints_one}
use Rattle.lab_turns.proofs.lab_printing.printer.PrinterListener.over.Goals as goal

pub returns : goal.returns
returns g c =
    IfOk-weaker c.put.result _ _
    (λ _ passed. prints_one g.C.Console.passes c.args.self.now.traces c.args.self.now.units c.args.self.now.console c.put.new.self (Over c.args.turns c.args.end) c.as_slice.result.now (c.as_slice.ensures ∙ c.in_ok-text.ensures) passed)
    c.put.ensures
