-- How an error is handed on.
use Rattle.kd_device.specs.declared.error.DeviceError.{DeviceError}
use Rattle.kd_device.specs.declared.error.DeviceError.TheVariants as device
use Rattle.device_acts.specs.declared.warm_start.error.OpenError.{OpenError}
use Rattle.device_acts.specs.declared.warm_start.error.OpenError.TheVariants as opening
use Rattle.live_run.specs.declared.error.LiveError.{LiveError}
use Rattle.live_run.specs.declared.error.LiveError.TheVariants as live

-- of the keeper
abbrev pub of_device : DeviceError → LiveError
of_device device.Failed = live.Failed
of_device device.Memory = live.Memory

-- of commands that are performed over it
abbrev pub of_open : OpenError → LiveError
of_open opening.NotKdcfile = live.NotKdcfile
of_open (opening.OtherGeneration stored) = live.OtherGeneration stored
of_open opening.Failed = live.Failed
of_open opening.Memory = live.Memory
