use Rattle.std.proofs.Common.{Err, ap, refl}
use Rattle.kd_device.specs.declared.error.DeviceError.{DeviceError}
use Rattle.utm_cli.proofs.Running.{make_ends}
use Rattle.utm_cli.proofs.run.make.Goals as goal

pub returns-in-Ok : goal.returns-in-Ok
returns-in-Ok g c = λ base. make_ends c.args.inputs c.args.work c.args.commands.now base (g.D.Device.state c.args.device.now) (g.D.Device.state c.report_made.new.device) (g.D.Device.leaves c.args.device.now) (g.D.Device.leaves c.report_made.new.device) 0 refl (λ is told. c.in-Ok.ensures.done told) (λ not. c.in-Ok.ensures.fine (λ is. absurd cc)) (λ is. absurd cc) c.report_made.ensures.front c.report_made.ensures.frame c.report_made.ensures.names

pub returns-in-Err-Failed : goal.returns-in-Err-Failed
returns-in-Err-Failed g c = λ base. make_ends c.args.inputs c.args.work c.args.commands.now base (g.D.Device.state c.args.device.now) (g.D.Device.state c.report_made.new.device) (g.D.Device.leaves c.args.device.now) (g.D.Device.leaves c.report_made.new.device) 5 refl (λ is. absurd cc) (λ not. absurd (not refl)) (λ is. c.in-Err-Failed.ensures.failed (ap (λ (e : DeviceError). Err e) c.in-Err-Failed.field-0-is)) c.report_made.ensures.front c.report_made.ensures.frame c.report_made.ensures.names

pub returns-in-Err-Memory : goal.returns-in-Err-Memory
returns-in-Err-Memory g c = λ base. make_ends c.args.inputs c.args.work c.args.commands.now base (g.D.Device.state c.args.device.now) (g.D.Device.state c.report_made.new.device) (g.D.Device.leaves c.args.device.now) (g.D.Device.leaves c.report_made.new.device) 7 refl (λ is. absurd cc) (λ not. c.in-Err-Memory.ensures.fine (λ is. absurd cc)) (λ is. absurd cc) c.report_made.ensures.front c.report_made.ensures.frame c.report_made.ensures.names
