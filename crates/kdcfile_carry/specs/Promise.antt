-- What a call that carries two files answers, or one that tells what it would do.
use Rattle.std.specs.Prelude.{◌≡◌, ◌⊎◌, ◌≤◌, ℕ, true, List, [], Option, Some, None, is_some, Ok, Err}
use Rattle.kd_device.specs.Twin.{Both, disk_of}
use Rattle.kd_device.specs.declared.half.Half.{Half}
use Rattle.application_types.specs.Generation.{Generated}
use Rattle.record_codec.specs.Records.{content_of_tables}
use Rattle.kdcfile_copies.specs.Copies.{IsCopyOf}
use Rattle.kdcfile_double.specs.MakingLaws.{RestsBoth}
use Rattle.kd_update.specs.Carrying.{carried, dropped}
use Rattle.kdcfile_carry.specs.declared.losing.Losses.{Losses}
use Rattle.kdcfile_carry.specs.declared.losing.Losses.TheVariants.{Refused}
use Rattle.kdcfile_carry.specs.declared.outcome.Alike.{Alike}
use Rattle.kdcfile_carry.specs.declared.outcome.Alike.TheVariants.{Already, Mended, Lost}
use Rattle.kdcfile_carry.specs.declared.outcome.Carried.{Carried}
use Rattle.kdcfile_carry.specs.declared.outcome.Carried.TheVariants.{UpToDate, Stand, WouldLose}
use Rattle.kdcfile_carry.specs.declared.outcome.Would.{Would}
use Rattle.kdcfile_carry.specs.declared.outcome.Would.TheVariants as would
use Rattle.kdcfile_carry.specs.Doing.{FailsAlone}
use Rattle.kdcfile_carry.specs.Files.{Files}
use Rattle.kdcfile_carry.specs.Leaving.{EachStands, LeavesFiles}
use Rattle.kdcfile_carry.specs.Losing.{rows_gone}
use Rattle.kdcfile_double.specs.Opening.{last_sequence}
use Rattle.kd_update.specs.declared.error.UpdateError.{UpdateError}
use Rattle.kd_update.specs.declared.error.UpdateError.TheVariants.{NotKdcfile}
use Rattle.kdcfile_carry.specs.Ways.{AreOwn, IsUpToDate, MayCarry, carried_files, judgement}

-- the files are these, also after a stop, and so is each half, but for one that is lost
pub record StandNow (f : Files) (lost : Option Half) (b : Both) (lb : ℕ → List ℕ → List ℕ → List ℕ → Type 0) : Type 0 where
  pub now : LeavesFiles f b lb
  pub halves : EachStands f.identity f.tables f.sequence lost b

-- the half that is lost after copies were made alike
abbrev pub lost_of : Alike → Option Half
lost_of Already = None
lost_of (Mended half) = None
lost_of (Lost half) = Some half

-- this half is not the copy that counts of these files
abbrev pub IsBehind : Files → Half → Both → Type 0
IsBehind f half b = (n : ℕ) → f.sequence ≡ Some n → IsCopyOf f.identity n (content_of_tables f.tables) (disk_of half b).holds → ⊥

-- copies were alike, or there is a file by itself, and nothing was written; or this half was behind
abbrev pub WereAlike : Files → Alike → (a b : Both) → (la lb : ℕ → List ℕ → List ℕ → List ℕ → Type 0) → Type 0
WereAlike f Already a b la lb = RestsBoth a b la lb
WereAlike f (Mended half) a b la lb = IsBehind f half a
WereAlike f (Lost half) a b la lb = IsBehind f half a

-- of files that were found: nothing was to be carried; or they were carried, and no row went unless that was accepted; or these rows of theirs would go, which is not accepted, and nothing was written
abbrev pub Outcome : Generated → (fingerprint : List ℕ) → Losses → Files → Carried → (a b : Both) → (la lb : ℕ → List ℕ → List ℕ → List ℕ → Type 0) → Type 0
Outcome g fingerprint losses f (UpToDate alike) a b la lb = IsUpToDate g fingerprint f × StandNow f (lost_of alike) b lb × WereAlike f alike a b la lb
Outcome g fingerprint losses f (Stand gone lost) a b la lb =
    MayCarry g fingerprint f × StandNow (carried_files g fingerprint f) lost b lb × (gone ≡ dropped f.tables (carried g f.tables)) × (losses ≡ Refused → rows_gone f.tables (carried g f.tables) ≡ [])
Outcome g fingerprint losses f (WouldLose rows) a b la lb =
    MayCarry g fingerprint f × (losses ≡ Refused) × (rows.items ≡ rows_gone f.tables (carried g f.tables)) × (rows.items ≡ [] → ⊥) × RestsBoth a b la lb

-- no call failed but on a half that is lost
abbrev pub Fails : Carried → (a b : Both) → Type 0
Fails (UpToDate alike) a b = FailsAlone (lost_of alike) a b
Fails (Stand gone lost) a b = FailsAlone lost a b
Fails (WouldLose rows) a b = FailsAlone None a b

-- what a call would do with files that were found: nothing; or it would carry them, and so many rows of each kind would go, and these are they
abbrev pub WouldBe : Generated → (fingerprint : List ℕ) → Files → Would → Type 0
WouldBe g fingerprint f would.UpToDate = IsUpToDate g fingerprint f
WouldBe g fingerprint f (would.Carries gone rows) = MayCarry g fingerprint f × (gone ≡ dropped f.tables (carried g f.tables)) × (rows.items ≡ rows_gone f.tables (carried g f.tables))

-- why files that were found are refused: they are of these texts and of their shape, and not as these ask for them; or they are others, and judged so
abbrev pub IsRefusal : Generated → (fingerprint : List ℕ) → Files → UpdateError → Type 0
IsRefusal g fingerprint f why =
    ((why ≡ NotKdcfile) × AreOwn g fingerprint f × (IsUpToDate g fingerprint f → ⊥)) ⊎ ((AreOwn g fingerprint f → ⊥) × (judgement g f ≡ Err why))

-- files that were found could be carried, but have this sequence, after which there is none
pub record IsSpent (g : Generated) (fingerprint : List ℕ) (f : Files) (n : ℕ) : Type 0 where
  pub differs : AreOwn g fingerprint f → ⊥
  pub judged : judgement g f ≡ Ok tt
  pub two : is_some g.double ≡ true
  pub sequence : f.sequence ≡ Some n
  pub great : last_sequence ≤ n
