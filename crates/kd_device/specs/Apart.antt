-- Calls on one half of a twin and on its line: what stays of the other half.
use Rattle.std.specs.Prelude.{◌≡◌, ◌⊎◌, ◌≤◌, ℕ, List, IsTrue}
use Rattle.kd_device.specs.declared.half.Half.{Half}
use Rattle.kd_device.specs.Twin.{Both, other, disk_of, slice, half_leaves}

-- the laws of a twin at one moment
abbrev pub SentAt : Both → (ℕ → List ℕ → List ℕ → List ℕ → Type 0) → Type 0
SentAt b leaves = (c d out : List ℕ) → IsTrue b.told → leaves b.moment c d out → out ≡ b.sent

abbrev pub EarlierAt : Both → (ℕ → List ℕ → List ℕ → List ℕ → Type 0) → Type 0
EarlierAt b leaves = (t u : ℕ) (c d out : List ℕ) → IsTrue b.told → t ≤ u → leaves u c d out → leaves t c d out

-- at a stop now just these bytes are sent
abbrev pub SentNow : Half → Both → (ℕ → List ℕ → List ℕ → List ℕ → Type 0) → Type 0
SentNow half b leaves = (d c out : List ℕ) → slice half d leaves b.moment c out → out ≡ b.sent

-- what a stop since a later moment may leave, a stop since an earlier one may leave too
abbrev pub Earlier : Half → (ℕ → List ℕ → List ℕ → List ℕ → Type 0) → Type 0
Earlier half leaves = (d : List ℕ) (t u : ℕ) (c out : List ℕ) → t ≤ u → slice half d leaves u c out → slice half d leaves t c out

-- what a stop could not have left before a moment, it leaves since that moment
abbrev pub Parted : Half → ℕ → (ℕ → List ℕ → List ℕ → List ℕ → Type 0) → (ℕ → List ℕ → List ℕ → List ℕ → Type 0) → Type 0
Parted half moment past since =
    (d : List ℕ) (t : ℕ) (c out : List ℕ) → t ≤ moment → slice half d since t c out → slice half d past t c out ⊎ slice half d since moment c out

-- from old to new, the other half's disk is the same, and a stop leaves no image of it that a stop at old could not leave
pub record Apart (half : Half) (old new : Both) (past since : ℕ → List ℕ → List ℕ → List ℕ → Type 0) : Type 0 where
  pub told : new.told ≡ old.told
  pub later : old.moment ≤ new.moment
  pub disk : disk_of (other half) new ≡ disk_of (other half) old
  pub parted : IsTrue old.told → Parted half old.moment past since
  pub keeps : IsTrue old.told → (d : List ℕ) (t : ℕ) (c out : List ℕ) → t ≤ old.moment → slice half d past t c out → slice half d since t c out
  pub others : IsTrue old.told → (d c out : List ℕ) → slice half d since old.moment c out → half_leaves (other half) past old.moment d old.sent

-- a half is in use since an origin: it is the same twin, and the other half is as it was there
pub record IsSince (half : Half) (place0 place : ℕ) (b0 b : Both) (l0 l : ℕ → List ℕ → List ℕ → List ℕ → Type 0) : Type 0 where
  pub same_place : place ≡ place0
  pub apart : Apart half b0 b l0 l
  pub sent_then : IsTrue b0.told → SentNow half b0 l0
  pub earlier_then : IsTrue b0.told → Earlier half l0
