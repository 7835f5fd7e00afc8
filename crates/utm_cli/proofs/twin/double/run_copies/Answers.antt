use Rattle.kd_device.specs.declared.error.DeviceError.TheVariants as device
use Rattle.device_acts.specs.declared.warm_start.error.OpenError.TheVariants as opening
use Rattle.call_parts.specs.Causes.{of_device, of_open}
use Rattle.call_parts.proofs.HandedOn.{acts_failed, no_cause, script_failed}
use Rattle.utm_cli.proofs.twin.double.run_copies.Goals as goal

pub returns-in_err-report_copies-in-Report-clause-failed : goal.returns-in_err-report_copies-in-Report-clause-failed
returns-in_err-report_copies-in-Report-clause-failed g c = λ is. c.in_err-report_copies-in-Report.ensures.failed (acts_failed _ c.in_err-report_copies-in-Report.field-0.0 c.from_residual.result c.from_residual.ensures.1 is)

pub returns-in_err-script_copies-in-Script-clause-failed : goal.returns-in_err-script_copies-in-Script-clause-failed
returns-in_err-script_copies-in-Script-clause-failed g c = λ is.
    c.in_err-script_copies-in-Script.ensures.failed (script_failed _ c.in_err-script_copies-in-Script.field-0.0 c.from_residual-in_err-script_copies-in-Script.result c.from_residual-in_err-script_copies-in-Script.ensures.1 is)

pub returns-in_err-report_copies-in-Report-clause-fine : goal.returns-in_err-report_copies-in-Report-clause-fine
returns-in_err-report_copies-in-Report-clause-fine g c = λ none. c.in_err-report_copies-in-Report.ensures.fine (no_cause _ of_device c.in_err-report_copies-in-Report.field-0.0 device.Failed c.from_residual.result c.from_residual.ensures.1 none)

pub returns-in_err-script_copies-in-Script-clause-fine : goal.returns-in_err-script_copies-in-Script-clause-fine
returns-in_err-script_copies-in-Script-clause-fine g c = λ none.
    c.in_err-script_copies-in-Script.ensures.fine (no_cause _ of_open c.in_err-script_copies-in-Script.field-0.0 opening.Failed c.from_residual-in_err-script_copies-in-Script.result c.from_residual-in_err-script_copies-in-Script.ensures.1 none)
