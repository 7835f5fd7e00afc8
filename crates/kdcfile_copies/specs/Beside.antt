-- Calls on one half of a twin, or on its line: what a stop leaves of both files.
use Rattle.std.specs.Prelude.{◌≡◌, ◌⊎◌, ◌≤◌, ℕ, List, ◌++◌, take}
use Rattle.kd_device.specs.Device.{LeavesOnly}
use Rattle.kd_device.specs.declared.half.Half.{Half}
use Rattle.kd_device.specs.declared.half.Half.TheVariants.{First, Second}
use Rattle.kd_device.specs.Twin.{Both, other, disk_of, half_state, slice, half_leaves}

-- this disk holds the same, and no call on it was made or failed
abbrev pub SameDisk : Half → (old new : Both) → Type 0
SameDisk half old new = disk_of half new ≡ disk_of half old

-- from old to new, a stop leaves the two files that it might have left at old, or a file of the other half that it could
-- leave then, beside one of this half that it could leave then or that has P
abbrev pub LeavesBeside : Half → (old new : Both) → (past since : ℕ → List ℕ → List ℕ → List ℕ → Type 0) → (P : List ℕ → List ℕ → Type 0) → Type 0
LeavesBeside half old new past since P =
    (d : List ℕ)
    → LeavesOnly (half_state half old) (half_state half new) (slice half d past) (slice half d since) (λ c out. half_leaves (other half) past old.moment d old.sent × (half_leaves half past old.moment c out ⊎ P c out))

-- no file beside those that a stop could leave before
abbrev pub NoMore : List ℕ → List ℕ → Type 0
NoMore c out = ⊥

-- a stop now leaves no file of the other half that it could not leave at old
abbrev pub OtherStays : Half → (old new : Both) → (past since : ℕ → List ℕ → List ℕ → List ℕ → Type 0) → Type 0
OtherStays half old new past since =
    (d : List ℕ) → half_leaves (other half) since new.moment d new.sent → half_leaves (other half) past old.moment d old.sent

-- from old to new, a stop leaves the two files and sent bytes that it might have left at old, or some that have P
pub record LeavesPairs (old new : Both) (past since : ℕ → List ℕ → List ℕ → List ℕ → Type 0) (P : List ℕ → List ℕ → List ℕ → Type 0) : Type 0 where
  pub later : old.moment ≤ new.moment
  pub only : (t : ℕ) (c d out : List ℕ) → t ≤ old.moment → since t c d out → past t c d out ⊎ P c d out

-- of the first half's file and the second's, the one of this half
abbrev pub file_of : Half → (c d : List ℕ) → List ℕ
file_of First c d = c
file_of Second c d = d

-- the other half's file could be left at a moment, and this half's could be left then or has P
abbrev pub IsBeside : Half → Both → (ℕ → List ℕ → List ℕ → List ℕ → Type 0) → (P : List ℕ → List ℕ → Type 0) → (c d out : List ℕ) → Type 0
IsBeside half b leaves P c d out =
    half_leaves (other half) leaves b.moment (file_of (other half) c d) b.sent × (half_leaves half leaves b.moment (file_of half c d) out ⊎ P (file_of half c d) out)

-- just this line was sent
abbrev pub SaidBoth : (line : List ℕ) → (old new : Both) → Type 0
SaidBoth line old new = new.sent ≡ old.sent ++ line

-- a front of this line was sent, perhaps none of it or all
abbrev pub SaidPartBoth : (line : List ℕ) → (old new : Both) → Type 0
SaidPartBoth line old new = (n : ℕ) × (new.sent ≡ old.sent ++ take n line)

-- a stop now leaves no two files that it could not leave at old
abbrev pub LeavesSamePairs : (old new : Both) → (past since : ℕ → List ℕ → List ℕ → List ℕ → Type 0) → Type 0
LeavesSamePairs old new past since = (c d : List ℕ) → since new.moment c d new.sent → past old.moment c d old.sent

-- a stop within the call leaves two files that it could leave at old, and a front of this line
abbrev pub LeavesFrontBoth : (line : List ℕ) → (old new : Both) → (past since : ℕ → List ℕ → List ℕ → List ℕ → Type 0) → Type 0
LeavesFrontBoth line old new past since =
    LeavesPairs old new past since (λ c d out. past old.moment c d old.sent × ((n : ℕ) × (out ≡ old.sent ++ take n line)))
