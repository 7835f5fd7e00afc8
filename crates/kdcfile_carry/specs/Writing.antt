-- How many bytes are written at most.
use Rattle.std.specs.Prelude.{◌≡◌, ◌⊎◌, ◌≤◌, ℕ, ◌+◌, Bool, true, false, List, [], Option, Some, None, is_some}
use Rattle.kd_device.specs.Device.{State}
use Rattle.kd_device.specs.Twin.{Both, disk_of, other}
use Rattle.kd_device.specs.declared.half.Half.{Half}
use Rattle.kd_device.specs.declared.half.Half.TheVariants.{First}
use Rattle.kdcs_types.specs.Tables.{TableRows}
use Rattle.application_types.specs.Generation.{Generated}
use Rattle.record_codec.specs.Records.{content_of_tables}
use Rattle.device_acts.specs.Stands.{identity_for}
use Rattle.kdcfile_store.specs.Carried.{carry_most}
use Rattle.kdcfile_store.specs.Paged.{made_length}
use Rattle.kdcfile_copies.specs.Mending.{mending_most}
use Rattle.kd_update.specs.Carrying.{carried}
use Rattle.carry_steps.specs.Deciding.{next_sequence}
use Rattle.kdcfile_carry.specs.Files.{AreFiles, Files}
use Rattle.kdcfile_carry.specs.Keeping.{content_by}
use Rattle.kdcfile_carry.specs.Promise.{IsBehind}
use Rattle.kdcfile_carry.specs.Ways.{IsUpToDate, MayCarry, made_with}

-- no byte is written to either file
pub record WritesNone (a b : Both) : Type 0 where
  pub first : b.first.put ≡ a.first.put
  pub second : b.second.put ≡ a.second.put

-- the files are two copies, and this half is not the one that counts
pub record IsOther (f : Files) (half : Half) (a : Both) : Type 0 where
  pub two : is_some f.sequence ≡ true
  pub behind : IsBehind f half a

-- to this half no more is written than makes it a copy of the other one, to which nothing is
pub record WritesAnew (half : Half) (a b : Both) : Type 0 where
  pub put : (disk_of half b).put ≤ (disk_of half a).put + mending_most (disk_of (other half) a).holds
  pub other_put : (disk_of (other half) b).put ≡ (disk_of (other half) a).put

-- the one commit by which the first file is changed: it writes all pages of the carried tables
abbrev pub commit_most : Generated → (fingerprint : List ℕ) → Files → ℕ
commit_most g fingerprint f = carry_most (made_with g fingerprint) (content_by (next_sequence (is_some g.double) f.sequence) (content_of_tables (carried g f.tables)))

-- so much is written to the first file before it: nothing, or where the second one is the copy that counts, what makes it a copy of that
abbrev pub IsFirstMost : Files → Both → ℕ → Type 0
IsFirstMost f a n = (n ≡ 0) ⊎ (IsOther f First a × (n ≡ mending_most a.second.holds))

-- to the second file: what makes it a copy of the first one, as that is then, where two are asked for; else one byte, which shuts a copy
abbrev pub second_most : (double : Bool) → Option ℕ → (first : List ℕ) → ℕ
second_most true s first = mending_most first
second_most false (Some n) first = 1
second_most false None first = 0

-- files are carried
pub record WritesCarried (g : Generated) (fingerprint : List ℕ) (f : Files) (a b : Both) : Type 0 where
  pub first : (n : ℕ) × IsFirstMost f a n × (b.first.put ≤ a.first.put + n + commit_most g fingerprint f)
  pub second : b.second.put ≤ a.second.put + second_most (is_some g.double) f.sequence b.first.holds

-- of files that were found: they are as the texts ask, and one half is made a copy of the other one; or they are carried, and those that may lose their rows alone
abbrev pub Writes : Generated → (fingerprint : List ℕ) → (MayLose : Files → Type 0) → Files → (a b : Both) → Type 0
Writes g fingerprint MayLose f a b =
    (IsUpToDate g fingerprint f × ((half : Half) × IsOther f half a × WritesAnew half a b)) ⊎ (MayCarry g fingerprint f × MayLose f × WritesCarried g fingerprint f a b)

-- whatever comes of two files: nothing is written, or that much of files that were found
abbrev pub WritesAtMost : Generated → (fingerprint : List ℕ) → (MayLose : Files → Type 0) → (a b : Both) → Type 0
WritesAtMost g fingerprint MayLose a b = WritesNone a b ⊎ ((f : Files) × AreFiles f a.first.holds a.second.holds × Writes g fingerprint MayLose f a b)

-- a backup of tables: a new file, and one commit
abbrev pub backup_most : Generated → (fingerprint : List ℕ) → TableRows → ℕ
backup_most g fingerprint t = made_length (identity_for g fingerprint) + 1 + carry_most (identity_for g fingerprint) (content_of_tables t)

-- whatever comes of it: nothing is written to the device; or it was empty, the files are as the texts ask, and that much is written of their tables
abbrev pub WritesBackup : Generated → (fingerprint p q : List ℕ) → (s u : State) → Type 0
WritesBackup g fingerprint p q s u =
    (u.put ≡ s.put) ⊎ ((s.holds ≡ []) × ((f : Files) × AreFiles f p q × IsUpToDate g fingerprint f × (u.put ≤ s.put + backup_most g fingerprint f.tables)))

-- ---- step by step

-- the first file was made a copy of the second one, where that is the copy that counts
pub record MendsFirst (f : Files) (a b : Both) : Type 0 where
  pub first : (n : ℕ) × IsFirstMost f a n × (b.first.put ≤ a.first.put + n)
  pub second : b.second.put ≡ a.second.put

-- the byte that shuts a second copy, where one file is asked for
abbrev pub shut_most : (double : Bool) → Option ℕ → ℕ
shut_most true s = 0
shut_most false (Some n) = 1
shut_most false None = 0

pub record Shuts (double : Bool) (f : Files) (a b : Both) : Type 0 where
  pub first : b.first.put ≡ a.first.put
  pub second : b.second.put ≤ a.second.put + shut_most double f.sequence

-- both
pub record Prepares (double : Bool) (f : Files) (a b : Both) : Type 0 where
  pub first : (n : ℕ) × IsFirstMost f a n × (b.first.put ≤ a.first.put + n)
  pub second : b.second.put ≤ a.second.put + shut_most double f.sequence

-- and the first file was changed
pub record Changes (g : Generated) (fingerprint : List ℕ) (f : Files) (a b : Both) : Type 0 where
  pub first : (n : ℕ) × IsFirstMost f a n × (b.first.put ≤ a.first.put + n + commit_most g fingerprint f)
  pub second : b.second.put ≤ a.second.put + shut_most (is_some g.double) f.sequence

-- copies of these texts were made alike
abbrev pub MakesAlike : Files → (a b : Both) → Type 0
MakesAlike f a b = WritesNone a b ⊎ ((half : Half) × IsOther f half a × WritesAnew half a b)

-- nothing was done, or the files were carried, which may lose their rows
abbrev pub MayBeCarried : Generated → (fingerprint : List ℕ) → (MayLose : Files → Type 0) → Files → (a b : Both) → Type 0
MayBeCarried g fingerprint MayLose f a b = WritesNone a b ⊎ (MayLose f × WritesCarried g fingerprint f a b)
