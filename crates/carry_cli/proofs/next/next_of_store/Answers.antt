use Rattle.std.proofs.Common.{ap, Err}
use Rattle.device_acts.proofs.warm_start.Kept.{stands_none}
use Rattle.device_acts.specs.declared.warm_start.error.OpenError.{OpenError}
use Rattle.carry_cli.proofs.next.next_of_store.Goals as goal

pub returns-in-Err-NotKdcfile : goal.returns-in-Err-NotKdcfile
returns-in-Err-NotKdcfile c = λ bytes filled file.
    (filled, stands_none c.args.store.now bytes file c.args.work.now.application.generation c.args.work.now.fingerprint (c.in-Err-NotKdcfile.ensures.refused (ap (λ (e : OpenError). Err e) c.in-Err-NotKdcfile.field-0-is)))
