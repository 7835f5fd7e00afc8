-- How an error of a disk, or of an opening, is handed on.
use Rattle.kd_device.specs.declared.error.DeviceError.{DeviceError}
use Rattle.kd_device.specs.declared.error.DeviceError.TheVariants as device
use Rattle.device_acts.specs.declared.warm_start.error.OpenError.{OpenError}
use Rattle.device_acts.specs.declared.warm_start.error.OpenError.TheVariants as opening
use Rattle.kdcfile_double.specs.declared.error.TwinOpenError.{TwinOpenError}
use Rattle.kdcfile_double.specs.declared.error.TwinOpenError.TheVariants as to

abbrev pub of_device : DeviceError → TwinOpenError
of_device device.Failed = to.Failed
of_device device.Memory = to.Memory

abbrev pub of_open : OpenError → TwinOpenError
of_open opening.NotKdcfile = to.NotKdcfile
of_open (opening.OtherGeneration stored) = to.OtherGeneration stored
of_open opening.Failed = to.Failed
of_open opening.Memory = to.Memory
