use Rattle.std.proofs.lemmas.Result.{IfOk-from_err}
use Rattle.serial_audit.specs.Opening.{IsOpened, reads_first}
use Rattle.serial_audit.proofs.Opens.{opened_with}
use Rattle.serial_audit.proofs.opening.open_with_input.Goals as goal

pub returns-in_err-input : goal.returns-in_err-input
returns-in_err-input c = IfOk-from_err c.from_residual.result (IsOpened c.args.replay.now (reads_first c.args.replay.now c.args.began c.args.header)) c.from_residual.ensures.0

pub returns : goal.returns
returns c = opened_with c.args.replay.now c.args.began c.args.header c.in_ok-input.input c.in_ok-input.ensures c.open_with.result c.open_with.ensures.exact c.open_with.ensures.id c.open_with.ensures.nb
