-- How an error is handed on.
use Rattle.kd_device.specs.declared.error.DeviceError.{DeviceError}
use Rattle.kd_device.specs.declared.error.DeviceError.TheVariants as device
use Rattle.kd_update.specs.declared.error.UpdateError.{UpdateError}
use Rattle.kd_update.specs.declared.error.UpdateError.TheVariants as cause
use Rattle.device_acts.specs.declared.warm_start.error.OpenError.{OpenError}
use Rattle.device_acts.specs.declared.warm_start.error.OpenError.TheVariants as opening
use Rattle.kdcfile_update.specs.declared.error.CarryError.{CarryError}
use Rattle.kdcfile_update.specs.declared.error.CarryError.TheVariants.{Refused, Failed, Memory}

abbrev pub of_device : DeviceError → CarryError
of_device device.Failed = Failed
of_device device.Memory = Memory

abbrev pub of_open : OpenError → CarryError
of_open opening.NotKdcfile = Refused cause.NotKdcfile
of_open (opening.OtherGeneration stored) = Refused cause.NotKdcfile
of_open opening.Failed = Failed
of_open opening.Memory = Memory

abbrev pub of_judgement : UpdateError → CarryError
of_judgement cause.NotKdcfile = Refused cause.NotKdcfile
of_judgement (cause.OtherBlksize n) = Refused (cause.OtherBlksize n)
of_judgement (cause.SmallerPool n) = Refused (cause.SmallerPool n)
of_judgement (cause.TooManyGssbs n) = Refused (cause.TooManyGssbs n)
of_judgement (cause.TooLarge n) = Refused (cause.TooLarge n)
of_judgement cause.Memory = Memory
