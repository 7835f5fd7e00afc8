use Rattle.std.proofs.Common.{List, ℕ}
use Rattle.lab_cli.specs.Stops.{IsTextFault, TextsRefuse}
use Rattle.lab_cli.proofs.Placing.{application_refused}
use Rattle.lab_cli.proofs.Rooms.{handed}
use Rattle.lab_cli.proofs.reading.application_of.Goals as goal

pub returns-in_err-read_application-clause-refused : goal.returns-in_err-read_application-clause-refused
returns-in_err-read_application-clause-refused c =
    handed (IsTextFault (λ why. (script : List ℕ) → TextsRefuse c.args.definition.now c.args.units.now script why)) c.from_residual.result _ c.from_residual.ensures.1 (application_refused c.args.definition.now c.args.units.now c.in_err-read_application.field-0.0 c.in_err-read_application.ensures.fault)
