use Rattle.std.proofs.Common.{ap, Err}
use Rattle.refusals.specs.declared.error.TextError.{TextError}
use Rattle.call_parts.specs.Asking.{update_errand}
use Rattle.carry_cli.proofs.BackingUp.{over_refused, over_work}
use Rattle.carry_cli.proofs.top.backup_base.Goals as goal

pub returns-in-Ok-clause-ends : goal.returns-in-Ok-clause-ends
returns-in-Ok-clause-ends g c =
    over_work c.args.base.now c.args.to.now (g.R.Room.room c.args.room.now) (g.R.Room.room c.work_of.new.room) (g.T.Twin.both c.args.twin.now) (g.D.Device.state c.args.device.now) (g.T.Twin.both c.backup_work.new.twin) (g.D.Device.state c.backup_work.new.device)
    (g.D.Device.leaves c.backup_work.new.device) (update_errand c.in-Ok.work) c.backup_work.result.code c.in-Ok.ensures.asks c.backup_work.ensures

pub returns-in-Err-Refused-clause-ends : goal.returns-in-Err-Refused-clause-ends
returns-in-Err-Refused-clause-ends g c =
    let refused = c.in-Err-Refused.ensures.refused c.in-Err-Refused.why (ap (λ (e : TextError). Err e) c.in-Err-Refused.field-0-is) in
    over_refused c.args.base.now c.args.to.now (g.R.Room.room c.args.room.now) (g.R.Room.room c.work_of.new.room) (g.T.Twin.both c.args.twin.now) (g.D.Device.state c.args.device.now) (g.T.Twin.both c.refuse_beside.new.twin) (g.D.Device.leaves c.args.device.now) c.in-Err-Refused.why c.refuse_beside.result.code refused.0 refused.1 c.refuse_beside.ensures
