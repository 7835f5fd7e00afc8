use Rattle.std.proofs.Common.{sym, subst}
use Rattle.call_parts.specs.Asking.{storing_errand}
use Rattle.utm_cli.specs.Parts.{ErrandHalts, ErrandStops, ErrandWrites}
use Rattle.call_parts.specs.declared.errand.Storing.{Storing}
use Rattle.call_parts.proofs.HandedOn.{script_failed}
use Rattle.utm_cli.proofs.Stopping.{at_error}
use Rattle.utm_cli.proofs.run.do_storing.Goals as goal

pub returns-in_err-do_report-in-Report-clause-put : goal.returns-in_err-do_report-in-Report-clause-put
returns-in_err-do_report-in-Report-clause-put g c =
    subst (λ (s : Storing). ErrandWrites (storing_errand c.args.work s) c.args.tables (g.D.Device.state c.args.device.now) (g.D.Device.state c.do_report.new.device)) (sym c.in-Report.is) (c.do_report.ensures.put c.args.tables c.requires.tables)

pub returns-in_ok-do_report-in-Report-clause-put : goal.returns-in_ok-do_report-in-Report-clause-put
returns-in_ok-do_report-in-Report-clause-put g c =
    subst (λ (s : Storing). ErrandWrites (storing_errand c.args.work s) c.args.tables (g.D.Device.state c.args.device.now) (g.D.Device.state c.do_report.new.device)) (sym c.in-Report.is) (c.do_report.ensures.put c.args.tables c.requires.tables)

pub returns-in_err-do_script-in-Script-clause-put : goal.returns-in_err-do_script-in-Script-clause-put
returns-in_err-do_script-in-Script-clause-put g c =
    subst (λ (s : Storing). ErrandWrites (storing_errand c.args.work s) c.args.tables (g.D.Device.state c.args.device.now) (g.D.Device.state c.do_script.new.device)) (sym c.in-Script.is) c.do_script.ensures.put

pub returns-in_ok-do_script-in-Script-clause-put : goal.returns-in_ok-do_script-in-Script-clause-put
returns-in_ok-do_script-in-Script-clause-put g c =
    subst (λ (s : Storing). ErrandWrites (storing_errand c.args.work s) c.args.tables (g.D.Device.state c.args.device.now) (g.D.Device.state c.do_script.new.device)) (sym c.in-Script.is) c.do_script.ensures.put

pub returns-in_err-do_script-in-Script-clause-stopped : goal.returns-in_err-do_script-in-Script-clause-stopped
returns-in_err-do_script-in-Script-clause-stopped g c =
    at_error _ c.from_residual-in_err-do_script-in-Script.result
    (subst (λ (s : Storing). ErrandStops (storing_errand c.args.work s) c.args.tables (g.D.Device.state c.args.device.now) (g.D.Device.state c.do_script.new.device)) (sym c.in-Script.is) c.in_err-do_script-in-Script.ensures.stopped)

pub returns-in_err-do_script-in-Script-clause-halted : goal.returns-in_err-do_script-in-Script-clause-halted
returns-in_err-do_script-in-Script-clause-halted g c = λ is.
    subst (λ (s : Storing). ErrandHalts (storing_errand c.args.work s) c.args.tables (g.D.Device.state c.args.device.now) (g.D.Device.state c.do_script.new.device)) (sym c.in-Script.is)
    (c.in_err-do_script-in-Script.ensures.halted (script_failed _ c.in_err-do_script-in-Script.field-0.0 c.from_residual-in_err-do_script-in-Script.result c.from_residual-in_err-do_script-in-Script.ensures.1 is))
