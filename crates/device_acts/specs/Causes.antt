-- How an error is handed on.
use Rattle.kd_device.specs.declared.error.DeviceError.{DeviceError}
use Rattle.kdcfile_load.specs.declared.fault.LoadError.{LoadError}
use Rattle.kdcfile_load.specs.declared.fault.LoadError.TheVariants as load
use Rattle.kdcfile_load.specs.Causes.{of_device as load_of_device}
use Rattle.device_acts.specs.declared.warm_start.error.OpenError.{OpenError}
use Rattle.device_acts.specs.declared.warm_start.error.OpenError.TheVariants as to

abbrev pub of_load : LoadError → OpenError
of_load load.NotKdcfile = to.NotKdcfile
of_load load.Failed = to.Failed
of_load load.Memory = to.Memory

abbrev pub of_device : DeviceError → OpenError
of_device e = of_load (load_of_device e)
