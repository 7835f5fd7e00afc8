use Rattle.std.proofs.Common.{sym, subst}
use Rattle.call_parts.specs.Asking.{one_errand}
use Rattle.utm_cli.specs.Parts.{EndsOne}
use Rattle.call_parts.specs.declared.errand.OneFile.{OneFile}
use Rattle.utm_cli.proofs.run.run.Goals as goal

pub returns-in-Over : goal.returns-in-Over
returns-in-Over g c =
    subst (λ (o : OneFile). EndsOne (one_errand o) c.args.base.now (g.D.Device.state c.args.device.now) (g.D.Device.state c.run_task.new.device) (g.D.Device.leaves c.args.device.now) (g.D.Device.leaves c.run_task.new.device) c.run_task.result.code) (sym c.in-Over.is)
    (record {
      code = c.run_task.ensures.code;
      refused = c.run_task.ensures.refused;
      refused_only = c.run_task.ensures.refused_only;
      refused_part = c.run_task.ensures.refused_part;
      accepted = c.run_task.ensures.accepted;
      done = c.run_task.ensures.done;
      any_moment = c.run_task.ensures.any_moment;
      written = c.run_task.ensures.written;
      left = c.run_task.ensures.left;
      bytes = c.run_task.ensures.bytes;
      names = c.run_task.ensures.names;
      attached = c.run_task.ensures.attached;
      fine = c.run_task.ensures.fine;
      failed = c.run_task.ensures.failed;
      stopped = c.run_task.ensures.stopped;
      halted = c.run_task.ensures.halted;
      frame = c.run_task.ensures.frame;
    })

pub returns-in-Make : goal.returns-in-Make
returns-in-Make g c =
    subst (λ (o : OneFile). EndsOne (one_errand o) c.args.base.now (g.D.Device.state c.args.device.now) (g.D.Device.state c.make.new.device) (g.D.Device.leaves c.args.device.now) (g.D.Device.leaves c.make.new.device) c.make.result.code) (sym c.in-Make.is)
    (c.make.ensures c.args.base.now)
