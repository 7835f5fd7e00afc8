-- What becomes of an error.
use Rattle.kd_device.specs.declared.error.DeviceError.{DeviceError}
use Rattle.kd_device.specs.declared.error.DeviceError.TheVariants as device
use Rattle.lab_turns.specs.declared.error.LabError.{LabError}
use Rattle.lab_turns.specs.declared.error.LabError.TheVariants as errors
use Rattle.refusals.specs.declared.error.TextError.{TextError}
use Rattle.refusals.specs.declared.error.TextError.TheVariants as text
use Rattle.lab_cli.specs.declared.stop.Stop.{Stop}
use Rattle.lab_cli.specs.declared.stop.Stop.TheVariants as stops

abbrev pub of_device : DeviceError → Stop
of_device device.Failed = stops.Room
of_device device.Memory = stops.Memory

abbrev pub of_lab : LabError → Stop
of_lab errors.Memory = stops.Memory
of_lab errors.Output = stops.Output
of_lab errors.Spent = stops.Output

abbrev pub of_text : TextError → Stop
of_text (text.Refused why) = stops.Texts why
of_text text.Room = stops.Room
of_text text.Memory = stops.Memory
