-- Which half is mended, and what a stop within that leaves.
use Rattle.std.specs.Prelude.{◌≡◌, ◌⊎◌, ℕ, List, Some, None, Result}
use Rattle.kd_device.specs.declared.error.DeviceError.{DeviceError}
use Rattle.kd_device.specs.Twin.{Both, other}
use Rattle.kd_device.specs.declared.half.Half.{Half}
use Rattle.kd_device.specs.declared.half.Half.TheVariants.{First, Second}
use Rattle.kdcfile_copies.specs.Copies.{IsChosen, IsCopyOf, bare}
use Rattle.kdcfile_copies.specs.declared.answer.LoadedCopy.{LoadedCopy}
use Rattle.kdcfile_double.specs.Twice.{Twice, IsInUse, RoseAt, SameFaultsAt, copy_at, identity_of, sequence_of, content_of}

-- within a mending nothing is sent, the copy that counts stays the same, and a half that was in use is that copy by itself
pub record IsMendingOne (s : Twice) (sent c d out : List ℕ) : Type 0 where
  pub silent : out ≡ sent
  pub chosen : IsChosen (identity_of s) (sequence_of s) (content_of s) c d
  pub first_is : IsInUse First s → IsCopyOf (identity_of s) (sequence_of s) (content_of s) c
  pub second_is : IsInUse Second s → IsCopyOf (identity_of s) (sequence_of s) (content_of s) d

-- a stop now leaves of both halves just what they hold
pub record BothRest (b : Both) (leaves : ℕ → List ℕ → List ℕ → List ℕ → Type 0) : Type 0 where
  pub first_rests : (c d : List ℕ) → leaves b.moment c d b.sent → c ≡ b.first.holds
  pub second_rests : (c d : List ℕ) → leaves b.moment c d b.sent → d ≡ b.second.holds

-- the half is not in use and not lost: it is to be mended
abbrev pub IsBehind : Half → Twice → Type 0
IsBehind half s = (copy_at half s ≡ None) × (s.lost ≡ None)

-- what is known of a mending that did not fail as a whole: no call failed on a half in use, and none of the line, unless one on the half that was behind did
pub record FineMending (s : Twice) (old new : Both) : Type 0 where
  pub spared : (half : Half) → IsInUse half s → SameFaultsAt half old new
  pub line : (new.line_faults ≡ old.line_faults) ⊎ ((half : Half) × IsBehind half s × RoseAt half old new)

-- that half is lost
abbrev pub lost_at : Half → Twice → Twice
lost_at half s = record { first = s.first; second = s.second; mended = s.mended; lost = Some half }

-- the copy is the same as the one that counts
pub record IsSameCopy (p : LoadedCopy) (s : Twice) : Type 0 where
  pub sequence : p.sequence ≡ sequence_of s
  pub identity : p.store.identity ≡ identity_of s
  pub content : bare p.store.content ≡ content_of s

-- the copy of a half that was behind was taken into use, where it is the same as the one that counted
pub record IsTaken (half : Half) (s s' : Twice) (p : LoadedCopy) : Type 0 where
  pub content : content_of s' ≡ content_of s
  pub sequence : sequence_of s' ≡ sequence_of s
  pub identity : identity_of s' ≡ identity_of s
  pub lost : s'.lost ≡ s.lost
  pub others : copy_at (other half) s' ≡ copy_at (other half) s
  pub taken : ((s'.mended ≡ Some half) × (copy_at half s' ≡ Some p)) ⊎ ((s' ≡ s) × (IsSameCopy p s → ⊥))

-- what became of a half that was written anew: it is in use, or lost, or not taken
pub record TakesAfter (half : Half) (s s' : Twice) (old new : Both) (result : Result Unit DeviceError) : Type 0 where
  pub content : content_of s' ≡ content_of s
  pub sequence : sequence_of s' ≡ sequence_of s
  pub identity : identity_of s' ≡ identity_of s
  pub others : copy_at (other half) s' ≡ copy_at (other half) s
  pub mended : (s'.mended ≡ Some half) × IsInUse half s' × (s'.lost ≡ s.lost) × SameFaultsAt half old new ⊎ ((s'.mended ≡ s.mended) × (copy_at half s' ≡ None))
  pub lost : (s'.lost ≡ s.lost) ⊎ ((s'.lost ≡ Some half) × RoseAt half old new)
