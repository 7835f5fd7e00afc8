-- How an error is handed on.
use Rattle.kd_device.specs.declared.error.DeviceError.{DeviceError}
use Rattle.kd_device.specs.declared.error.DeviceError.TheVariants as device
use Rattle.kd_update.specs.declared.error.UpdateError.TheVariants as cause
use Rattle.device_acts.specs.declared.warm_start.error.OpenError.{OpenError}
use Rattle.device_acts.specs.declared.warm_start.error.OpenError.TheVariants as opening
use Rattle.kdcfile_double.specs.declared.error.TwinOpenError.{TwinOpenError}
use Rattle.kdcfile_double.specs.declared.error.TwinOpenError.TheVariants as twin
use Rattle.kdcfile_update.specs.declared.error.CarryError.{CarryError}
use Rattle.kdcfile_update.specs.declared.error.CarryError.TheVariants as carrying
use Rattle.refusals.specs.declared.error.FileRefusal.TheVariants as why
use Rattle.call_parts.specs.declared.error.CallError.{CallError}
use Rattle.call_parts.specs.declared.error.CallError.TheVariants.{Refused, Failed, Memory}

abbrev pub of_device : DeviceError → CallError
of_device device.Failed = Failed
of_device device.Memory = Memory

abbrev pub of_open : OpenError → CallError
of_open opening.NotKdcfile = Refused why.NotKdcfile
of_open (opening.OtherGeneration stored) = Refused (why.OtherGeneration stored)
of_open opening.Failed = Failed
of_open opening.Memory = Memory

abbrev pub of_twin : TwinOpenError → CallError
of_twin twin.NotKdcfile = Refused why.NotKdcfile
of_twin (twin.OtherGeneration stored) = Refused (why.OtherGeneration stored)
of_twin (twin.Spent n) = Refused why.SequenceSpent
of_twin twin.Failed = Failed
of_twin twin.Memory = Memory

abbrev pub of_carry : CarryError → CallError
of_carry (carrying.Refused cause.NotKdcfile) = Refused why.NotKdcfile
of_carry (carrying.Refused (cause.OtherBlksize n)) = Refused (why.OtherBlksize n)
of_carry (carrying.Refused (cause.SmallerPool n)) = Refused (why.SmallerPool n)
of_carry (carrying.Refused (cause.TooManyGssbs n)) = Refused (why.TooManyGssbs n)
of_carry (carrying.Refused (cause.TooLarge n)) = Refused (why.TooLarge n)
of_carry (carrying.Refused cause.Memory) = Memory
of_carry carrying.Failed = Failed
of_carry carrying.Memory = Memory
