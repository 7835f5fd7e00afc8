-- How an error is handed on.
use Rattle.refusals.specs.declared.error.Refusal.TheVariants as refusal
use Rattle.refusals.specs.declared.error.TextError.{TextError}
use Rattle.refusals.specs.declared.error.TextError.TheVariants as text
use Rattle.kd_device.specs.declared.error.DeviceError.{DeviceError}
use Rattle.kd_device.specs.declared.error.DeviceError.TheVariants as room
use Rattle.application_read.specs.declared.fault.ApplicationFault.{ApplicationFault}
use Rattle.application_read.specs.declared.fault.ApplicationFault.TheVariants as application
use Rattle.script_read.specs.declared.fault.ScriptFault.{ScriptFault}
use Rattle.script_read.specs.declared.fault.ScriptFault.TheVariants as fault
use Rattle.audit_trail.specs.declared.fault.TrailFault.{TrailFault}
use Rattle.audit_trail.specs.declared.fault.TrailFault.TheVariants as trail

abbrev pub of_room : DeviceError → TextError
of_room room.Failed = text.Room
of_room room.Memory = text.Memory

-- a fault of the texts, or want of memory
abbrev pub of_application : ApplicationFault → TextError
of_application (application.Definition fault) = text.Refused (refusal.Application (application.Definition fault))
of_application (application.Units fault) = text.Refused (refusal.Application (application.Units fault))
of_application (application.Fit fault) = text.Refused (refusal.Application (application.Fit fault))
of_application application.Memory = text.Memory

abbrev pub of_fault : ScriptFault → TextError
of_fault (fault.BadLine line) = text.Refused (refusal.Script (fault.BadLine line))
of_fault (fault.OutOfRange line) = text.Refused (refusal.Script (fault.OutOfRange line))
of_fault fault.TooLong = text.Refused (refusal.Script fault.TooLong)
of_fault fault.Memory = text.Memory

abbrev pub of_trail : TrailFault → TextError
of_trail (trail.BadLine line) = text.Refused (refusal.Trail (trail.BadLine line))
of_trail trail.TooLong = text.Refused (refusal.Trail trail.TooLong)
of_trail (trail.OtherGeneration line) = text.Refused (refusal.Trail (trail.OtherGeneration line))
of_trail (trail.NotSuited line) = text.Refused (refusal.Trail (trail.NotSuited line))
of_trail trail.Memory = text.Memory
