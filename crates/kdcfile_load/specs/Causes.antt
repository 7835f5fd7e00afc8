-- How an error is handed on.
use Rattle.kd_device.specs.declared.error.DeviceError.{DeviceError}
use Rattle.kd_device.specs.declared.error.DeviceError.TheVariants as device
use Rattle.kdcfile_load.specs.declared.fault.LoadError.{LoadError}
use Rattle.kdcfile_load.specs.declared.fault.LoadError.TheVariants as load

abbrev pub of_device : DeviceError → LoadError
of_device device.Failed = load.Failed
of_device device.Memory = load.Memory
