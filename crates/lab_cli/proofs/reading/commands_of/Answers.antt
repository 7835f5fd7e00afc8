use Rattle.lab_cli.specs.Stops.{IsTextFault, ScriptRefuses}
use Rattle.lab_cli.proofs.Placing.{script_refused}
use Rattle.lab_cli.proofs.Rooms.{handed}
use Rattle.lab_cli.proofs.reading.commands_of.Goals as goal

pub returns-in_err-read_script-clause-refused : goal.returns-in_err-read_script-clause-refused
returns-in_err-read_script-clause-refused c =
    handed (IsTextFault (ScriptRefuses c.args.application.now.generation c.args.script.now)) c.from_residual.result _ c.from_residual.ensures.1 (script_refused c.args.application.now.generation c.args.script.now c.in_err-read_script.field-0.0 c.in_err-read_script.ensures.refused)
