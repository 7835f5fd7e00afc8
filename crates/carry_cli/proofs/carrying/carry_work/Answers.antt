use Rattle.std.proofs.Common.{◌∙◌, ap, arith, Err}
use Rattle.kd_device.specs.declared.error.DeviceError.{DeviceError}
use Rattle.kd_device.specs.declared.half.Half.TheVariants.{First}
use Rattle.device_acts.specs.ErrorsLaws.{no_error}
use Rattle.call_parts.specs.Asking.{update_errand}
use Rattle.carry_cli.proofs.Over.{all_said, line_failed, line_memory}
use Rattle.carry_cli.proofs.carrying.carry_work.Goals as goal

pub returns-in-Ok-say_both : goal.returns-in-Ok-say_both
returns-in-Ok-say_both g c =
    let h = c.answer_for.ensures in
    all_said (update_errand c.args.work.now) c.args.base.now c.args.options (g.T.Twin.both c.args.twin.now) (g.T.Twin.both c.answer_for.new.twin) (g.T.Twin.leaves c.args.twin.now) (g.T.Twin.leaves c.answer_for.new.twin) (λ told x y out left. g.met.T.Twin.sent_now c.args.twin.now x y out told left)
    h.any_moment h.still h.tried h.written h.names h.frame h.sent c.in-Ok.answer c.in-Ok.ensures.is_now c.as_slice.result.now (c.as_slice.ensures ∙ c.in-Ok-text.ensures) (g.T.Twin.both c.say_both.new.twin) (g.T.Twin.leaves c.say_both.new.twin) c.say_both.ensures.disks (c.say_both.ensures.frame First) c.say_both.ensures.stop c.say_both.ensures.any_moment
    c.status.result.code c.status.ensures c.in-Ok-say_both.ensures.sent (c.in-Ok-say_both.ensures.fine (no_error _ _))

pub returns-in-Err-Failed-say_both : goal.returns-in-Err-Failed-say_both
returns-in-Err-Failed-say_both g c =
    let h = c.answer_for.ensures in
    line_failed (update_errand c.args.work.now) c.args.base.now c.args.options (g.T.Twin.both c.args.twin.now) (g.T.Twin.both c.answer_for.new.twin) (g.T.Twin.leaves c.args.twin.now) (g.T.Twin.leaves c.answer_for.new.twin) (λ told x y out left. g.met.T.Twin.sent_now c.args.twin.now x y out told left)
    h.any_moment h.still h.tried h.written h.names h.frame h.sent c.in-Ok.answer c.in-Ok.ensures.is_now c.as_slice.result.now (c.as_slice.ensures ∙ c.in-Ok-text.ensures) (g.T.Twin.both c.say_both.new.twin) (g.T.Twin.leaves c.say_both.new.twin) c.say_both.ensures.disks (c.say_both.ensures.frame First) c.say_both.ensures.stop c.say_both.ensures.any_moment
    (omega (arith, h.frame.line_faults, c.in-Err-Failed-say_both.ensures.failed (ap (λ (e : DeviceError). Err e) c.in-Err-Failed-say_both.field-0-is)))

pub returns : goal.returns
returns g c =
    let h = c.answer_for.ensures in
    line_memory (update_errand c.args.work.now) c.args.base.now c.args.options (g.T.Twin.both c.args.twin.now) (g.T.Twin.both c.answer_for.new.twin) (g.T.Twin.leaves c.args.twin.now) (g.T.Twin.leaves c.answer_for.new.twin) (λ told x y out left. g.met.T.Twin.sent_now c.args.twin.now x y out told left)
    h.any_moment h.still h.tried h.written h.names h.frame h.sent c.in-Ok.answer c.in-Ok.ensures.is_now c.as_slice.result.now (c.as_slice.ensures ∙ c.in-Ok-text.ensures) (g.T.Twin.both c.say_both.new.twin) (g.T.Twin.leaves c.say_both.new.twin) c.say_both.ensures.disks (c.say_both.ensures.frame First) c.say_both.ensures.stop c.say_both.ensures.any_moment
