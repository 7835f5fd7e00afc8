-- A file to which two files are backed up.
use Rattle.std.specs.Prelude.{ℕ, List}
use Rattle.kd_device.specs.Device.{Only, State}
use Rattle.kd_device.specs.declared.error.DeviceError.{DeviceError}
use Rattle.kd_device.specs.declared.error.DeviceError.TheVariants as device
use Rattle.application_types.specs.Generation.{Generated}
use Rattle.device_acts.specs.Stands.{StandsForTables, identity_for}
use Rattle.kdcfile_carry.specs.declared.backing.BackUpError.{BackUpError}
use Rattle.kdcfile_carry.specs.declared.backing.BackUpError.TheVariants as to
use Rattle.kdcfile_carry.specs.Files.{Files}
use Rattle.kdcfile_carry.specs.Ways.{IsUpToDate}

abbrev pub of_disk : DeviceError → BackUpError
of_disk device.Failed = to.Failed
of_disk device.Memory = to.Memory

-- the files are as these texts ask, and the device has a file by itself of these texts that stands for their tables, also after a stop
pub record IsBackedUp (g : Generated) (fingerprint : List ℕ) (f : Files) (s : State) (leaves : ℕ → List ℕ → List ℕ → Type 0) : Type 0 where
  pub up_to_date : IsUpToDate g fingerprint f
  pub stands : StandsForTables (identity_for g fingerprint) f.tables s.holds
  pub at_rest : Only s.holds s leaves
