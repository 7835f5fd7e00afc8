use Rattle.std.proofs.Common.{◌∙◌, ap, Err}
use Rattle.kd_device.specs.declared.error.DeviceError.{DeviceError}
use Rattle.kd_device.specs.declared.half.Half.TheVariants.{First}
use Rattle.device_acts.specs.ErrorsLaws.{no_error}
use Rattle.call_parts.specs.Asking.{update_errand}
use Rattle.carry_cli.proofs.BackingUp.{all_said, line_failed, line_memory}
use Rattle.carry_cli.proofs.Ending.{memory_not_failed}
use Rattle.carry_cli.proofs.backing.backup_work.Goals as goal

pub returns-in-Ok-say_both : goal.returns-in-Ok-say_both
returns-in-Ok-say_both g c =
    let h = c.answer_for.ensures in
    all_said (update_errand c.args.work.now) c.args.base.now c.args.to.now (g.T.Twin.both c.args.twin.now) (g.T.Twin.both c.answer_for.new.twin) (g.D.Device.state c.args.device.now) (g.D.Device.state c.answer_for.new.device) (g.D.Device.leaves c.answer_for.new.device) h.leaves h.written
    (c.in-Ok.ensures.fine (no_error _ _)) h.sent c.in-Ok.answer c.in-Ok.ensures.is c.as_bytes.result.now (c.as_bytes.ensures.value ∙ c.in-Ok-line.ensures) (g.T.Twin.both c.say_both.new.twin) c.say_both.ensures.disks (c.say_both.ensures.frame First)
    c.status.result.code c.status.ensures c.in-Ok-say_both.ensures.sent (c.in-Ok-say_both.ensures.fine (no_error _ _))

pub returns-in-Err-Failed-say_both : goal.returns-in-Err-Failed-say_both
returns-in-Err-Failed-say_both g c =
    let h = c.answer_for.ensures in
    line_failed (update_errand c.args.work.now) c.args.base.now c.args.to.now (g.T.Twin.both c.args.twin.now) (g.T.Twin.both c.answer_for.new.twin) (g.D.Device.state c.args.device.now) (g.D.Device.state c.answer_for.new.device) (g.D.Device.leaves c.answer_for.new.device) h.leaves h.written
    (c.in-Ok.ensures.fine (no_error _ _)) h.sent c.in-Ok.answer c.in-Ok.ensures.is c.as_bytes.result.now (c.as_bytes.ensures.value ∙ c.in-Ok-line.ensures) (g.T.Twin.both c.say_both.new.twin) c.say_both.ensures.disks (c.say_both.ensures.frame First)
    (c.in-Err-Failed-say_both.ensures.failed (ap (λ (e : DeviceError). Err e) c.in-Err-Failed-say_both.field-0-is))

pub returns : goal.returns
returns g c =
    let h = c.answer_for.ensures in
    line_memory (update_errand c.args.work.now) c.args.base.now c.args.to.now (g.T.Twin.both c.args.twin.now) (g.T.Twin.both c.answer_for.new.twin) (g.D.Device.state c.args.device.now) (g.D.Device.state c.answer_for.new.device) (g.D.Device.leaves c.answer_for.new.device) h.leaves h.written
    (c.in-Ok.ensures.fine (no_error _ _)) h.sent c.in-Ok.answer c.in-Ok.ensures.is c.as_bytes.result.now (c.as_bytes.ensures.value ∙ c.in-Ok-line.ensures) (g.T.Twin.both c.say_both.new.twin) c.say_both.ensures.disks (c.say_both.ensures.frame First)
    (c.in-Err-Memory-say_both.ensures.fine (memory_not_failed _ _ c.in-Err-Memory-say_both.field-0-is))
