use Rattle.std.proofs.Common.{ap, Err}
use Rattle.kd_device.specs.declared.error.DeviceError.{DeviceError}
use Rattle.kd_device.specs.declared.half.Half.TheVariants.{First}
use Rattle.device_acts.specs.ErrorsLaws.{no_error}
use Rattle.carry_cli.proofs.Ending.{memory_not_failed, usage_failed, usage_memory, usage_sent}
use Rattle.carry_cli.proofs.top.usage.Goals as goal

pub returns-in-Ok : goal.returns-in-Ok
returns-in-Ok g c = usage_sent (g.T.Twin.both c.args.twin.now) (g.T.Twin.both c.say_both.new.twin) c.say_both.ensures.disks (c.say_both.ensures.frame First) c.in-Ok.ensures.sent (c.in-Ok.ensures.fine (no_error _ _))

pub returns-in-Err-Failed : goal.returns-in-Err-Failed
returns-in-Err-Failed g c = usage_failed (g.T.Twin.both c.args.twin.now) (g.T.Twin.both c.say_both.new.twin) c.say_both.ensures.disks (c.say_both.ensures.frame First) (c.in-Err-Failed.ensures.failed (ap (λ (e : DeviceError). Err e) c.in-Err-Failed.field-0-is))

pub returns-in-Err-Memory : goal.returns-in-Err-Memory
returns-in-Err-Memory g c = usage_memory (g.T.Twin.both c.args.twin.now) (g.T.Twin.both c.say_both.new.twin) c.say_both.ensures.disks (c.say_both.ensures.frame First) (c.in-Err-Memory.ensures.fine (memory_not_failed _ _ c.in-Err-Memory.field-0-is))
