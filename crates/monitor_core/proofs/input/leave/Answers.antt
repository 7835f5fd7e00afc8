use Rattle.std.proofs.lemmas.Result.{IfOk-weaker}
use Rattle.service_ends.specs.Standing.{state_of}
use Rattle.service_ends.specs.Whole.{app_of}
use Rattle.monitor_core.proofs.Uses.{leaves}
use Rattle.monitor_core.proofs.input.leave.Goals as goal

pub returns-clause-exact : goal.returns-clause-exact
returns-clause-exact c =
    IfOk-weaker c.line_alone.result _ _
    (leaves (app_of c.args.parts.now) (state_of c.args.parts.now) (state_of c.sign_off.new.parts) c.args.pterm.now c.in-Some.user _ c.in-Some.ensures c.in_ok-sign_off.ensures.state c.in_ok-signed_off_line.ensures)
    c.line_alone.ensures
