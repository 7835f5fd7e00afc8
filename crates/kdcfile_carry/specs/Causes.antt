-- How an error is handed on.
use Rattle.kd_device.specs.declared.error.DeviceError.{DeviceError}
use Rattle.kd_device.specs.declared.error.DeviceError.TheVariants as device
use Rattle.kd_update.specs.declared.error.UpdateError.{UpdateError}
use Rattle.kd_update.specs.declared.error.UpdateError.TheVariants as cause
use Rattle.kdcfile_carry.specs.declared.error.FilesError.{FilesError}
use Rattle.kdcfile_carry.specs.declared.error.FilesError.TheVariants as to

abbrev pub of_device : DeviceError → FilesError
of_device device.Failed = to.Failed
of_device device.Memory = to.Memory

abbrev pub of_judgement : UpdateError → FilesError
of_judgement cause.NotKdcfile = to.Refused cause.NotKdcfile
of_judgement (cause.OtherBlksize n) = to.Refused (cause.OtherBlksize n)
of_judgement (cause.SmallerPool n) = to.Refused (cause.SmallerPool n)
of_judgement (cause.TooManyGssbs n) = to.Refused (cause.TooManyGssbs n)
of_judgement (cause.TooLarge n) = to.Refused (cause.TooLarge n)
of_judgement cause.Memory = to.Memory
