-- What the parts of a call that carries files promise each other.
use Rattle.std.specs.Prelude.{ℕ, List, Result, Ok, Err}
use Rattle.kd_device.specs.Twin.{Both}
use Rattle.kd_device.specs.declared.error.DeviceError.{DeviceError}
use Rattle.kd_device.specs.declared.error.DeviceError.TheVariants as device
use Rattle.kdcfile_double.specs.MakingLaws.{RestsBoth}
use Rattle.kdcfile_double.specs.Twice.{NoneRose}
use Rattle.kd_update.specs.declared.error.UpdateError.{UpdateError}
use Rattle.kd_update.specs.declared.error.UpdateError.TheVariants as cause
use Rattle.kdcfile_carry.specs.Doing.{FailsAlone}
use Rattle.kdcfile_carry.specs.Files.{Files}
use Rattle.kdcfile_carry.specs.Promise.{StandNow}
use Rattle.kdcfile_carry.specs.Ways.{carried_files}
use Rattle.kdcfile_carry.specs.declared.backing.BackUpError.{BackUpError}
use Rattle.kdcfile_carry.specs.declared.backing.BackUpError.TheVariants as to
use Rattle.kdcfile_carry.specs.declared.error.FilesError.{FilesError}
use Rattle.kdcfile_carry.specs.declared.error.FilesError.TheVariants as files
use Rattle.call_parts.specs.Asking.{Errand}
use Rattle.carry_cli.specs.Carrying.{Hinders, OfFiles, generation_of}
use Rattle.carry_cli.specs.declared.answer.Answer.{Answer}
use Rattle.carry_cli.specs.declared.answer.Answer.TheVariants as answer
use Rattle.carry_cli.specs.declared.answer.Hindrance.{Hindrance}
use Rattle.carry_cli.specs.declared.answer.Hindrance.TheVariants as hindrance
use Rattle.carry_cli.specs.declared.backing.BackupAnswer.{BackupAnswer}
use Rattle.carry_cli.specs.declared.backing.BackupAnswer.TheVariants as backup
use Rattle.carry_cli.specs.declared.words.Options.{Options}

-- a judgement as a hindrance; want of memory is none
abbrev pub judged_as : UpdateError → Result Hindrance DeviceError
judged_as cause.NotKdcfile = Ok (hindrance.Judged cause.NotKdcfile)
judged_as (cause.OtherBlksize n) = Ok (hindrance.Judged (cause.OtherBlksize n))
judged_as (cause.SmallerPool n) = Ok (hindrance.Judged (cause.SmallerPool n))
judged_as (cause.TooManyGssbs n) = Ok (hindrance.Judged (cause.TooManyGssbs n))
judged_as (cause.TooLarge n) = Ok (hindrance.Judged (cause.TooLarge n))
judged_as cause.Memory = Err device.Memory

-- why files are hindered
abbrev pub hindrance_of : FilesError → Result Hindrance DeviceError
hindrance_of (files.Refused why) = judged_as why
hindrance_of files.TwoMeanings = Ok hindrance.TwoMeanings
hindrance_of (files.Spent n) = Ok hindrance.Spent
hindrance_of files.Failed = Err device.Failed
hindrance_of files.Memory = Err device.Memory

-- what it means that files were not carried
abbrev pub answered_by : Result Hindrance DeviceError → Result Answer DeviceError
answered_by (Ok why) = Ok (answer.Hindered why)
answered_by (Err e) = Err e

abbrev pub hindered_by : FilesError → Result Answer DeviceError
hindered_by why = answered_by (hindrance_of why)

-- what it means that they were not backed up
abbrev pub no_backup_by : Result Hindrance DeviceError → Result BackupAnswer DeviceError
no_backup_by (Ok why) = Ok (backup.Hindered why)
no_backup_by (Err e) = Err e

abbrev pub no_backup : BackUpError → Result BackupAnswer DeviceError
no_backup (to.Files why) = no_backup_by (hindrance_of why)
no_backup to.OtherTexts = Ok backup.OtherTexts
no_backup to.NotEmpty = Ok backup.NotEmpty
no_backup to.Failed = Err device.Failed
no_backup to.Differs = Ok backup.Differs
no_backup to.Memory = Err device.Memory

-- before it is said: each half stands for the tables, but for one that is lost; or both files stay as they are, at every stop
abbrev pub IsNow : Errand → Options → Answer → (a b : Both) → (la lb : ℕ → List ℕ → List ℕ → List ℕ → Type 0) → Type 0
IsNow e o (answer.UpToDate lost) a b la lb =
    (f : Files) × OfFiles e o (answer.UpToDate lost) a.first.holds a.second.holds f × StandNow f lost b lb × FailsAlone lost a b
IsNow e o answer.WouldKeep a b la lb = (f : Files) × OfFiles e o answer.WouldKeep a.first.holds a.second.holds f × RestsBoth a b la lb × NoneRose a b
IsNow e o (answer.Carried gone lost) a b la lb =
    (f : Files) × OfFiles e o (answer.Carried gone lost) a.first.holds a.second.holds f × StandNow (carried_files (generation_of e) e.fingerprint f) lost b lb × FailsAlone lost a b
IsNow e o (answer.WouldCarry gone rows) a b la lb = (f : Files) × OfFiles e o (answer.WouldCarry gone rows) a.first.holds a.second.holds f × RestsBoth a b la lb × NoneRose a b
IsNow e o (answer.WouldDrop rows) a b la lb = (f : Files) × OfFiles e o (answer.WouldDrop rows) a.first.holds a.second.holds f × RestsBoth a b la lb × NoneRose a b
IsNow e o (answer.Hindered why) a b la lb = Hinders e o a.first.holds a.second.holds why × RestsBoth a b la lb
