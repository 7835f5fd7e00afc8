-- A commit or a reading on one half, where it is in use.
use Rattle.std.specs.Prelude.{◌≡◌, ◌⊎◌, ◌≤◌, ◌<◌, ◌+◌, ◌^◌, ℕ, List, Option, Some, None}
use Rattle.kd_records.specs.Charge.{total_charge}
use Rattle.kd_records.specs.Contents.{patched}
use Rattle.kd_records.specs.declared.content.Content.{Content}
use Rattle.kd_records.specs.declared.content.Patch.{Patch}
use Rattle.kd_device.specs.Twin.{Both, half_state, half_leaves}
use Rattle.kd_device.specs.declared.half.Half.{Half}
use Rattle.kd_device.specs.declared.half.Half.TheVariants.{First, Second}
use Rattle.kdcfile_store.specs.Kept.{IsKept}
use Rattle.kdcfile_store.specs.Paged.{HasFile}
use Rattle.kdcfile_copies.specs.declared.answer.LoadedCopy.{LoadedCopy}
use Rattle.kdcfile_copies.specs.Copies.{bare, next_patch}
use Rattle.kdcfile_copies.specs.Keeping.{CopyKeeps, OldOrNextCopy}
use Rattle.kdcfile_copies.specs.Beside.{file_of}
use Rattle.kdcfile_double.specs.Twice.{Twice, AreSame, RoseAt, SameFaultsAt, SideWithin, content_of, copy_at, identity_of, sequence_of}

-- a commit of this patch may be done on the copy
pub record CanTake (p : LoadedCopy) (patch next : Patch) : Type 0 where
  pub keeps : CopyKeeps p.store p.sequence (bare p.store.content)
  pub next_is : next ≡ next_patch (p.sequence + 1) patch
  pub small : p.sequence + 1 < 2 ^ 64
  pub charge_before : total_charge p.store.identity.blksize (bare p.store.content).items + 1 ≤ p.store.identity.pages
  pub charge_after : total_charge p.store.identity.blksize (patched (bare p.store.content) patch).items + 1 ≤ p.store.identity.pages

abbrev pub CanTakeIf : Option LoadedCopy → Patch → Patch → Type 0
CanTakeIf (Some p) patch next = CanTake p patch next
CanTakeIf None patch next = Unit {0}

-- a half in use has its copy, and a stop leaves just that
abbrev pub IsKeptAt : Half → Option LoadedCopy → Both → (ℕ → List ℕ → List ℕ → List ℕ → Type 0) → Type 0
IsKeptAt half (Some p) b leaves = IsKept (HasFile p.store) (half_state half b) (half_leaves half leaves)
IsKeptAt half None b leaves = Unit {0}

-- the copy after the commit of a patch
pub record IsNext (p : LoadedCopy) (patch : Patch) (q : LoadedCopy) : Type 0 where
  pub sequence : q.sequence ≡ p.sequence + 1
  pub identity : q.store.identity ≡ p.store.identity
  pub keeps : CopyKeeps q.store (p.sequence + 1) (patched (bare p.store.content) patch)

-- what became of a half: its next copy, or it is lost; one that was not in use stays so
abbrev pub IsNextIf : Option LoadedCopy → Patch → Option LoadedCopy → Type 0
IsNextIf (Some p) patch (Some q) = IsNext p patch q
IsNextIf (Some p) patch None = Unit {0}
IsNextIf None patch (Some q) = ⊥
IsNextIf None patch None = Unit {0}

-- the same copy was read again, or the half is lost
abbrev pub IsSameIf : Option LoadedCopy → Option LoadedCopy → Type 0
IsSameIf (Some p) (Some q) = AreSame p q
IsSameIf (Some p) None = Unit {0}
IsSameIf None (Some q) = ⊥
IsSameIf None None = Unit {0}

-- within a commit on a half that is in use, its file is the old copy or the next one; none is written where it is not
abbrev pub WithinOne : Option LoadedCopy → Patch → List ℕ → List ℕ → List ℕ → Type 0
WithinOne (Some p) patch sent c out = OldOrNextCopy p.store.identity p.sequence (bare p.store.content) (patched (bare p.store.content) patch) sent c out
WithinOne None patch sent c out = ⊥

-- the half that is lost, where a call failed on this one
abbrev pub lost_with : Option Half → Half → Option Half
lost_with (Some other) half = Some other
lost_with None half = Some half

-- a half that was in use and is no more is lost, since a call on it failed; else no call failed
abbrev pub IsLostSo : Half → (before after : Option LoadedCopy) → (lost lost' : Option Half) → (old new : Both) → Type 0
IsLostSo half (Some p) (Some q) lost lost' old new = (lost' ≡ lost) × SameFaultsAt half old new
IsLostSo half (Some p) None lost lost' old new = (lost' ≡ lost_with lost half) × RoseAt half old new
IsLostSo half None q lost lost' old new = (lost' ≡ lost) × SameFaultsAt half old new

-- no further call of the line failed, unless one on this half did, which was in use
abbrev pub IsLineFine : Half → Option LoadedCopy → (old new : Both) → Type 0
IsLineFine half copy old new = (new.line_faults ≡ old.line_faults) ⊎ ((p : LoadedCopy) × (copy ≡ Some p) × RoseAt half old new)

-- what became of both halves, the first one first
pub record AreLostSo (p q p' q' : Option LoadedCopy) (lost lost' : Option Half) (old new : Both) : Type 0 where
  pub between : Option Half
  pub first_so : IsLostSo First p p' lost between old new
  pub second_so : IsLostSo Second q q' between lost' old new

-- each half's file that a stop leaves now is one that it may have within the commit
abbrev pub AreWithin : Twice → Content → Both → (ℕ → List ℕ → List ℕ → List ℕ → Type 0) → Type 0
AreWithin s y b leaves = (half : Half) (c : List ℕ) → half_leaves half leaves b.moment c b.sent → SideWithin half (identity_of s) (sequence_of s) (content_of s) y (copy_at half s) c

-- nothing was sent, and so are both files
pub record IsWithin (s : Twice) (y : Content) (sent c d out : List ℕ) : Type 0 where
  pub silent : out ≡ sent
  pub sides : (half : Half) → SideWithin half (identity_of s) (sequence_of s) (content_of s) y (copy_at half s) (file_of half c d)
