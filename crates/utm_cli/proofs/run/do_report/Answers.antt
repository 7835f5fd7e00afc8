use Rattle.std.proofs.Common.{refl, ◌∙◌}
use Rattle.kd_device.specs.TimeLaws.{told_after}
use Rattle.call_parts.specs.Asking.{gen_errand}
use Rattle.utm_cli.proofs.Doing.{on_ok_both, report_can, report_within, report_writes, report_ran}
use Rattle.utm_cli.proofs.Writing.{none_written}
use Rattle.utm_cli.proofs.run.do_report.Goals as goal

pub do_acts-requires-clause-can : goal.do_acts-requires-clause-can
do_acts-requires-clause-can g c = report_can c.args.work.now.application.generation c.args.store c.as_slice.result.now (c.as_slice.ensures ∙ c.in_ok-acts.ensures)

pub returns-clause-any : goal.returns-clause-any
returns-clause-any g c = λ t keeps.
    report_within (gen_errand c.args.work.now) t c.as_slice.result.now refl (c.as_slice.ensures ∙ c.in_ok-acts.ensures) c.args.store keeps (g.D.Device.state c.args.device.now) (g.D.Device.state c.do_acts.new.device) (g.D.Device.leaves c.args.device.now) (g.D.Device.leaves c.do_acts.new.device) c.do_acts.ensures.any

pub returns-clause-done : goal.returns-clause-done
returns-clause-done g c =
    on_ok_both c.do_acts.result _ _ _ (λ content sent t keeps told.
    report_ran (gen_errand c.args.work.now) t c.as_slice.result.now refl (c.as_slice.ensures ∙ c.in_ok-acts.ensures) c.args.store keeps (g.D.Device.state c.args.device.now) (g.D.Device.state c.do_acts.new.device) (g.D.Device.leaves c.args.device.now) (g.D.Device.leaves c.do_acts.new.device) c.do_acts.new.store c.do_acts.ensures.identity content sent told) c.do_acts.ensures.content c.do_acts.ensures.done

pub returns-in_err-acts-clause-put : goal.returns-in_err-acts-clause-put
returns-in_err-acts-clause-put g c = λ t keeps. none_written (gen_errand c.args.work.now) t c.args.store keeps (g.D.Device.state c.args.device.now) (g.D.Device.leaves c.args.device.now) c.requires.kept

pub returns-clause-put : goal.returns-clause-put
returns-clause-put g c = λ t keeps.
    report_writes (gen_errand c.args.work.now) t c.as_slice.result.now refl (c.as_slice.ensures ∙ c.in_ok-acts.ensures) c.args.store keeps (g.D.Device.state c.args.device.now) (g.D.Device.state c.do_acts.new.device) (g.D.Device.leaves c.args.device.now) (g.D.Device.leaves c.do_acts.new.device) c.do_acts.ensures.any c.requires.kept
    (λ told d out left. g.met.D.Device.sent_now c.args.device.now d out told left) (λ told.
    let b = g.D.Device.state c.do_acts.new.device in
    let frame = c.do_acts.ensures.any.frame in
    let told_b = told_after _ b frame told in
    g.met.D.Device.earlier c.do_acts.new.device (g.D.Device.state c.args.device.now).moment b.moment b.holds b.sent told_b frame.moment (g.met.D.Device.holds_now c.do_acts.new.device told_b))
