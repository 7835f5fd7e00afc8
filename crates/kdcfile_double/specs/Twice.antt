-- A KDCFILE that is kept twice: which halves are in use, what they keep, and what a stop leaves of both.
use Rattle.std.specs.Prelude.{◌≡◌, ◌⊎◌, ◌≤◌, ℕ, ◌+◌, List, [], IsTrue, Option, Some, None}
use Rattle.kd_device.specs.Device.{Rose}
use Rattle.kd_records.specs.Contents.{patched}
use Rattle.kd_records.specs.Identity.{Identity}
use Rattle.kd_records.specs.declared.content.Content.{Content}
use Rattle.kd_records.specs.declared.content.Patch.{Patch}
use Rattle.kd_device.specs.Twin.{Both, disk_of}
use Rattle.kd_device.specs.declared.half.Half.{Half}
use Rattle.kd_device.specs.declared.half.Half.TheVariants.{First, Second}
use Rattle.kdcfile_layout.specs.Layout.{fresh}
use Rattle.kdcfile_store.specs.Paged.{HasFile}
use Rattle.kdcfile_copies.specs.declared.answer.LoadedCopy.{LoadedCopy}
use Rattle.kdcfile_copies.specs.Copies.{AtMost, Below, IsChosen, IsCopyOf, bare}
use Rattle.kdcfile_copies.specs.Keeping.{CopyKeeps}
use Rattle.kdcfile_copies.specs.Beside.{LeavesPairs}

-- the copies that are in use, which half was mended, and which is lost
pub record Twice : Type 0 where
  pub first : Option LoadedCopy
  pub second : Option LoadedCopy
  pub mended : Option Half
  pub lost : Option Half

abbrev pub copy_at : Half → Twice → Option LoadedCopy
copy_at First s = s.first
copy_at Second s = s.second

-- a file of no texts, for which there is no copy
abbrev pub no_identity : Identity
no_identity = record { blksize = 0; pages = 0; fingerprint = [] }

abbrev pub identity_by : Option LoadedCopy → Option LoadedCopy → Identity
identity_by (Some p) q = p.store.identity
identity_by None (Some q) = q.store.identity
identity_by None None = no_identity

abbrev pub content_by : Option LoadedCopy → Option LoadedCopy → Content
content_by (Some p) q = bare p.store.content
content_by None (Some q) = bare q.store.content
content_by None None = fresh

abbrev pub sequence_by : Option LoadedCopy → Option LoadedCopy → ℕ
sequence_by (Some p) q = p.sequence
sequence_by None (Some q) = q.sequence
sequence_by None None = 0

-- what both files were made with; their PGPOOL is one more than the generation's
abbrev pub identity_of : Twice → Identity
identity_of s = identity_by s.first s.second

-- what is kept, without the record of the sequence
abbrev pub content_of : Twice → Content
content_of s = content_by s.first s.second

-- the sequence of the last commit
abbrev pub sequence_of : Twice → ℕ
sequence_of s = sequence_by s.first s.second

-- a copy in use keeps this content with this sequence, in a file that was made with this
abbrev pub KeepsIf : Identity → ℕ → Content → Option LoadedCopy → Type 0
KeepsIf i n x (Some p) = (p.store.identity ≡ i) × (p.sequence ≡ n) × CopyKeeps p.store n x
KeepsIf i n x None = Unit {0}

-- the copies in use keep the same
pub record AreAlike (s : Twice) : Type 0 where
  pub first_keeps : KeepsIf (identity_of s) (sequence_of s) (content_of s) s.first
  pub second_keeps : KeepsIf (identity_of s) (sequence_of s) (content_of s) s.second

-- the half that is lost is not in use
abbrev pub LostIsUnused : Twice → Type 0
LostIsUnused s = (half : Half) → s.lost ≡ Some half → copy_at half s ≡ None

-- what is known of the two copies on any twin
pub record IsTwice (s : Twice) : Type 0 where
  pub alike : AreAlike s
  pub lost_is_unused : LostIsUnused s

-- two copies have one sequence, were made with the same, and keep the same
pub record AreSame (a b : LoadedCopy) : Type 0 where
  pub sequence : a.sequence ≡ b.sequence
  pub identity : a.store.identity ≡ b.store.identity
  pub content : a.store.content ≡ b.store.content

-- these copies are in use, none was mended, and none is lost
abbrev pub with_copies : Option LoadedCopy → Option LoadedCopy → Twice
with_copies p q = record { first = p; second = q; mended = None; lost = None }

-- no copy is in use
abbrev pub given_up : Twice → Twice
given_up s = record { first = None; second = None; mended = s.mended; lost = s.lost }

abbrev pub IsInUse : Half → Twice → Type 0
IsInUse half s = (p : LoadedCopy) × (copy_at half s ≡ Some p)

-- at least one copy is in use
abbrev pub IsOpen : Twice → Type 0
IsOpen s = IsInUse First s ⊎ IsInUse Second s

-- ---- what a stop leaves

-- a file that is not in use stays behind the copy of the other half: the first half's counts where both have one sequence
abbrev pub StaysBehind : Half → Identity → ℕ → Content → List ℕ → Type 0
StaysBehind First i n x image = Below n image ⊎ IsCopyOf i n x image
StaysBehind Second i n x image = AtMost n image

-- a half in use has its copy, and nothing else is left of it; one that is not in use stays behind
abbrev pub SideRests : Half → Identity → ℕ → Content → Option LoadedCopy → (holds image : List ℕ) → Type 0
SideRests half i n x (Some p) holds image = (image ≡ holds) × HasFile p.store image
SideRests half i n x None holds image = StaysBehind half i n x image

-- what a stop now leaves of both halves
pub record IsKeptTwice (s : Twice) (b : Both) (leaves : ℕ → List ℕ → List ℕ → List ℕ → Type 0) : Type 0 where
  pub first_rests : (c d : List ℕ) → leaves b.moment c d b.sent → SideRests First (identity_of s) (sequence_of s) (content_of s) s.first b.first.holds c
  pub second_rests : (c d : List ℕ) → leaves b.moment c d b.sent → SideRests Second (identity_of s) (sequence_of s) (content_of s) s.second b.second.holds d

-- from old to new, a stop leaves what it might have left at old, or two images and sent bytes that have P
abbrev pub LeavesBoth : (old new : Both) → (past since : ℕ → List ℕ → List ℕ → List ℕ → Type 0) → (P : List ℕ → List ℕ → List ℕ → Type 0) → Type 0
LeavesBoth old new past since P = LeavesPairs old new past since P

-- what no call changes or lowers
pub record FrameBoth (old new : Both) : Type 0 where
  pub told : new.told ≡ old.told
  pub first_faults : old.first.disk_faults ≤ new.first.disk_faults
  pub second_faults : old.second.disk_faults ≤ new.second.disk_faults
  pub line_faults : old.line_faults ≤ new.line_faults
  pub moment : old.moment ≤ new.moment
  pub first_names : IsTrue old.told → new.first.names ≡ old.first.names
  pub second_names : IsTrue old.told → new.second.names ≡ old.second.names
  pub sent : IsTrue old.told → new.sent ≡ old.sent

abbrev pub RoseAt : Half → Both → Both → Type 0
RoseAt half old new = Rose (disk_of half old).disk_faults (disk_of half new).disk_faults

-- no further call failed
pub record NoneRose (old new : Both) : Type 0 where
  pub first_same : new.first.disk_faults ≡ old.first.disk_faults
  pub second_same : new.second.disk_faults ≡ old.second.disk_faults
  pub line_same : new.line_faults ≡ old.line_faults

-- which half is lost is kept; another one is lost where a call on it failed
pub record LosesBy (s s' : Twice) (old new : Both) : Type 0 where
  pub stays : (half : Half) → s.lost ≡ Some half → s'.lost ≡ Some half
  pub newly : (half : Half) → s'.lost ≡ Some half → (s.lost ≡ Some half) ⊎ RoseAt half old new
  pub unused : (half : Half) → s'.lost ≡ Some half → copy_at half s' ≡ None

-- ---- commits

-- the copy that counts is the old one or the new one
abbrev pub IsChosenOldOrNew : Identity → ℕ → Content → Content → List ℕ → List ℕ → Type 0
IsChosenOldOrNew i n x y c d = IsChosen i n x c d ⊎ IsChosen i (n + 1) y c d

-- a half by itself is the old copy or the new one
abbrev pub IsOldOrNew : Identity → ℕ → Content → Content → List ℕ → Type 0
IsOldOrNew i n x y image = IsCopyOf i n x image ⊎ IsCopyOf i (n + 1) y image

-- of a half within a commit: where it is in use, the old copy or the new one, and else a file that stays behind
abbrev pub SideWithin : Half → Identity → ℕ → Content → Content → Option LoadedCopy → List ℕ → Type 0
SideWithin half i n x y (Some p) image = IsOldOrNew i n x y image
SideWithin half i n x y None image = StaysBehind half i n x image

-- no further call on that half failed
abbrev pub SameFaultsAt : Half → Both → Both → Type 0
SameFaultsAt half old new = (disk_of half new).disk_faults ≡ (disk_of half old).disk_faults

-- a half in use on which no further call failed
abbrev pub SparesOne : Twice → Both → Both → Type 0
SparesOne s old new = (half : Half) × IsInUse half s × SameFaultsAt half old new

-- no further call of the line failed, unless one on a half in use did
abbrev pub SparesLine : Twice → Both → Both → Type 0
SparesLine s old new = (new.line_faults ≡ old.line_faults) ⊎ ((half : Half) × IsInUse half s × RoseAt half old new)

-- what is known where calls did not fail as a whole
pub record FineTwice (s : Twice) (old new : Both) : Type 0 where
  pub spared : SparesOne s old new
  pub line : SparesLine s old new

-- within a commit nothing more is sent, the copy that counts is the old or the new one, and so is each half in use on which no call failed
pub record IsCommitting (s : Twice) (y : Content) (old new : Both) (c d out : List ℕ) : Type 0 where
  pub silent : out ≡ old.sent
  pub chosen : IsChosenOldOrNew (identity_of s) (sequence_of s) (content_of s) y c d
  pub first_is : IsInUse First s → SameFaultsAt First old new → IsOldOrNew (identity_of s) (sequence_of s) (content_of s) y c
  pub second_is : IsInUse Second s → SameFaultsAt Second old new → IsOldOrNew (identity_of s) (sequence_of s) (content_of s) y d

abbrev pub LeavesCommitted : Twice → Patch → (old new : Both) → (past since : ℕ → List ℕ → List ℕ → List ℕ → Type 0) → Type 0
LeavesCommitted s patch old new past since = LeavesBoth old new past since (IsCommitting s (patched (content_of s) patch) old new)
