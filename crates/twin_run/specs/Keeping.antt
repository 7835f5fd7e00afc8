-- Two copies as what keeps a content, from where a run begins: b0 is the twin there, and s0 the copies.
use Rattle.std.specs.Prelude.{◌≡◌, ◌⊎◌, ◌≤◌, ℕ, ◌+◌, ◌-◌, ◌^◌, Bool, true, ◌&&◌, nat_le, min, cond, IsTrue, List, [], Option, Some, None}
use Rattle.kd_device.specs.Device.{Rose, State}
use Rattle.kd_records.specs.Identity.{Identity}
use Rattle.kd_records.specs.declared.content.Content.{Content}
use Rattle.kd_device.specs.Twin.{Both, disk_of, half_leaves}
use Rattle.kd_device.specs.declared.half.Half.{Half}
use Rattle.kd_device.specs.declared.half.Half.TheVariants.{First, Second}
use Rattle.kdcfile_copies.specs.declared.answer.LoadedCopy.{LoadedCopy}
use Rattle.kdcfile_copies.specs.Copies.{IsChosen, IsCopyOf}
use Rattle.kdcfile_double.specs.Twice.{IsInUse, IsOpen, IsTwice, RoseAt, SameFaultsAt, SideRests, Twice, content_of, copy_at, identity_of, sequence_of}
use Rattle.twin_run.specs.Images.{OfImage}

-- the twin, the copies, of which none is in use once they were given up, and what the generation's own file would be made with
pub record TwinKept (T : Type 0) : Type 0 where
  pub twin : T
  pub store : Twice
  pub identity : Identity

-- what both files are made with: there is one page more, for the record of the sequence
abbrev pub one_more : Identity → Identity
one_more i = record { blksize = i.blksize; pages = i.pages + 1; fingerprint = i.fingerprint }

-- what has become of the copies since the run began: a half is in use while no call on it failed
pub record CopiesSince (s0 : Twice) (b0 b : Both) (i : Identity) (s : Twice) : Type 0 where
  pub is_open : IsOpen s
  pub identity : identity_of s ≡ one_more i
  pub mended : s.mended ≡ s0.mended
  pub used : (half : Half) → IsInUse half s → IsInUse half s0 × SameFaultsAt half b0 b
  pub unused : (half : Half) → IsInUse half s0 → IsInUse half s ⊎ ((s.lost ≡ Some half) × RoseAt half b0 b)
  pub lost_stays : (half : Half) → s0.lost ≡ Some half → s.lost ≡ Some half
  pub newly_lost : (half : Half) → s.lost ≡ Some half → (s0.lost ≡ Some half) ⊎ RoseAt half b0 b

-- the twin tells what it told, its disks have the names that they had, no count of faults fell, and so it is with the copies unless they were given up
pub record IsSinceStart (s0 : Twice) (b0 b : Both) (i : Identity) (s : Twice) : Type 0 where
  pub told : b.told ≡ b0.told
  pub names : (half : Half) → IsTrue b0.told → (disk_of half b).names ≡ (disk_of half b0).names
  pub faults : (half : Half) → (disk_of half b0).disk_faults ≤ (disk_of half b).disk_faults
  pub copies : IsOpen s → CopiesSince s0 b0 b i s

-- ---- as the state of a device

-- a call on the half failed since the run began, or it was not in use then
abbrev pub is_gone : Option LoadedCopy → (before now : ℕ) → Bool
is_gone None before now = true
is_gone (Some p) before now = nat_le (min (before + 1) (2 ^ 64 - 1)) now

-- the count of faults, which is at the end of its type where no half is left
abbrev pub failures : Twice → (b0 b : Both) → ℕ
failures s0 b0 b = cond (is_gone s0.first b0.first.disk_faults b.first.disk_faults && is_gone s0.second b0.second.disk_faults b.second.disk_faults) (2 ^ 64 - 1) 0

abbrev pub state_kept : Twice → (b0 b : Both) → State
state_kept s0 b0 b =
    record {
      told = b.told;
      holds = [];
      sent = b.sent;
      put = 0;
      names = [];
      disk_faults = failures s0 b0 b;
      line_faults = b.line_faults;
      moment = b.moment;
      spare_calls = b.first.disk_faults;
      spare_bytes = b.second.disk_faults;
      spare_end = 0;
    }

-- what a device spares, no keeper tells: the counts of faults of both halves stand in its place
abbrev pub faults_kept : Half → State → ℕ
faults_kept First x = x.spare_calls
faults_kept Second x = x.spare_bytes

-- since the run began no call failed on some half in use, and none of the line, unless one on a half in use did
pub record IsFineSince (s0 : Twice) (b0 : Both) (x : State) : Type 0 where
  pub spared : (half : Half) × IsInUse half s0 × (faults_kept half x ≡ (disk_of half b0).disk_faults)
  pub line : (x.line_faults ≡ b0.line_faults) ⊎ ((half : Half) × IsInUse half s0 × Rose (disk_of half b0).disk_faults (faults_kept half x))

-- what was fine since the run began is so still
abbrev pub StaysFine : Twice → Both → (a b : State) → Type 0
StaysFine s0 b0 a b = IsFineSince s0 b0 a → IsFineSince s0 b0 b

-- the half was in use where the run began, and no call on it failed since
pub record IsSpared (half : Half) (s0 : Twice) (b0 b : Both) : Type 0 where
  pub used : IsInUse half s0
  pub whole : RoseAt half b0 b → ⊥

-- what a stop leaves: both files, and each half by itself on which no call failed
abbrev pub leaves_kept : Twice → (b0 b : Both) → (ℕ → List ℕ → List ℕ → List ℕ → Type 0) → ℕ → List ℕ → List ℕ → Type 0
leaves_kept s0 b0 b leaves t image out = OfImage (λ c d. leaves t c d out) (λ half c. IsSpared half s0 b0 b × half_leaves half leaves t c out) image

-- ---- as a content in files

-- a half in use has its copy
pub record RestsAlone (half : Half) (s : Twice) (b : Both) (c : List ℕ) : Type 0 where
  pub used : IsInUse half s
  pub rests : SideRests half (identity_of s) (sequence_of s) (content_of s) (copy_at half s) (disk_of half b).holds c

pub record RestBoth (s : Twice) (b : Both) (c d : List ℕ) : Type 0 where
  pub first_rests : SideRests First (identity_of s) (sequence_of s) (content_of s) s.first b.first.holds c
  pub second_rests : SideRests Second (identity_of s) (sequence_of s) (content_of s) s.second b.second.holds d

-- the images of the files of copies in use
abbrev pub file_kept : (i : Identity) → Twice → Both → List ℕ → Type 0
file_kept i s b image = IsTwice s × IsOpen s × (identity_of s ≡ one_more i) × OfImage (RestBoth s b) (λ half c. RestsAlone half s b c) image

-- the copy that counts keeps the content, or a half by itself does
abbrev pub stands_kept : Identity → Content → List ℕ → Type 0
stands_kept i x image = OfImage (λ c d. (n : ℕ) × IsChosen (one_more i) n x c d) (λ half c. (n : ℕ) × IsCopyOf (one_more i) n x c) image
