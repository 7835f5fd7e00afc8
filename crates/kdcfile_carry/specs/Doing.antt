-- What the first file is changed beside, and which calls failed.
use Rattle.std.specs.Prelude.{◌≡◌, ◌⊎◌, ℕ, Bool, List, Option, Some, is_some}
use Rattle.application_types.specs.Generation.{Generated}
use Rattle.kd_update.specs.Carrying.{carried, dropped}
use Rattle.kd_device.specs.Twin.{Both}
use Rattle.kd_device.specs.declared.half.Half.{Half}
use Rattle.kd_device.specs.declared.half.Half.TheVariants.{First, Second}
use Rattle.kdcfile_store.specs.Paged.{HasFile}
use Rattle.kdcfile_double.specs.Twice.{RoseAt, SameFaultsAt}
use Rattle.carry_steps.specs.Deciding.{next_sequence}
use Rattle.kdcfile_carry.specs.declared.finding.Kept.{Kept}
use Rattle.kdcfile_carry.specs.declared.planning.Plan.{Plan}
use Rattle.kdcfile_carry.specs.Files.{AreFiles, Files}
use Rattle.kdcfile_carry.specs.Keeping.{BesideBy, IsSource, files_in}
use Rattle.kdcfile_carry.specs.Ways.{MayCarry}

-- what is to become of files that may be carried
pub record IsPlan (g : Generated) (fingerprint : List ℕ) (f : Files) (p : Plan) : Type 0 where
  pub may : MayCarry g fingerprint f
  pub tables : p.tables ≡ carried g f.tables
  pub gone : p.gone ≡ dropped f.tables (carried g f.tables)
  pub sequence : p.sequence ≡ next_sequence (is_some g.double) f.sequence

-- the first file has what was found, and counts where that is a copy
pub record IsOnFirst (k : Kept) (c d : List ℕ) : Type 0 where
  pub files : AreFiles (files_in k) c d
  pub has : HasFile k.file.store c
  pub source : (n : ℕ) → k.sequence ≡ Some n → IsSource First k.file.store.identity n k.tables c d

-- the first file has what was found, and the second one may stay beside it, and beside what it will be
pub record IsReady (k : Kept) (double : Bool) (c d : List ℕ) : Type 0 where
  pub files : AreFiles (files_in k) c d
  pub has : HasFile k.file.store c
  pub beside : BesideBy k.sequence d
  pub beside_next : BesideBy (next_sequence double k.sequence) d

-- the two files are the old ones or the new ones
abbrev pub AreEither : Files → Files → (c d : List ℕ) → Type 0
AreEither f h c d = AreFiles f c d ⊎ AreFiles h c d

-- a call on a half failed
abbrev pub RoseOnOne : Both → Both → Type 0
RoseOnOne old new = RoseAt First old new ⊎ RoseAt Second old new

-- no call failed but on the half that is lost, where one did
pub record FailsAlone (lost : Option Half) (old new : Both) : Type 0 where
  pub spared : (half : Half) → (lost ≡ Some half → ⊥) → SameFaultsAt half old new
  pub failed : (half : Half) → lost ≡ Some half → RoseAt half old new
  pub line : new.line_faults ≡ old.line_faults
