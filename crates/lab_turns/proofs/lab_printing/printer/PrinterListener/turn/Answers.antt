use Rattle.std.proofs.Common.{◌∙◌}
use Rattle.std.proofs.lemmas.Result.{IfOk-weaker}
use Rattle.lab_turns.specs.Heard.{Turned}
use Rattle.lab_turns.specs.PrintingLaws.{prints_one}
use Rattle.lab_turns.proofs.lab_printing.printer.PrinterListener.turn.Goals as goal

pub returns : goal.returns
returns g c =
    IfOk-weaker c.put.result _ _
    (λ _ passed. prints_one g.C.Console.passes c.args.self.now.traces c.args.self.now.units c.args.self.now.console c.put.new.self (Turned c.args.turn.now c.args._core.now.state c.args.acts.now) c.as_slice.result.now (c.as_slice.ensures ∙ c.in_ok-text.ensures) passed)
    c.put.ensures
