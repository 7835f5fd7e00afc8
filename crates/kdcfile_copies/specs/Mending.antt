-- A half of a twin that is written anew from the other one, and what a stop leaves of it.
use Rattle.std.specs.Prelude.{◌≡◌, ◌⊎◌, ◌≤◌, ◌<◌, ℕ, ◌+◌, List, ◌∷◌, length, take, drop, get_or, Option, Some, None}
use Rattle.kd_device.specs.Device.{LeavesOnly, Only}
use Rattle.kd_device.specs.declared.half.Half.{Half}
use Rattle.kd_device.specs.Twin.{Both, Disk, other, disk_of, half_state, slice}
use Rattle.kdcfile_layout.specs.Gates.{IsShut}

-- a stop now leaves of this half just what it holds
abbrev pub HalfRests : Half → Both → (ℕ → List ℕ → List ℕ → List ℕ → Type 0) → Type 0
HalfRests half b leaves = (d : List ℕ) → Only (disk_of half b).holds (half_state half b) (slice half d leaves)

-- and of each half
abbrev pub BothRest : Both → (ℕ → List ℕ → List ℕ → List ℕ → Type 0) → Type 0
BothRest b leaves = (half : Half) → HalfRests half b leaves

-- the file begins with these bytes
abbrev pub BeginsWith : List ℕ → List ℕ → Type 0
BeginsWith front file = take (length front) file ≡ front

-- a half that is being mended: as it was before, or with a gate that is not open, or a copy of the source with whatever
-- stood after it
abbrev pub IsMending : List ℕ → List ℕ → List ℕ → Type 0
IsMending source before c = (c ≡ before) ⊎ (IsShut c ⊎ BeginsWith source c)

-- from old to new, a stop leaves what it might have left before, or: nothing more was sent, the other half is this file,
-- and this half has P
abbrev pub LeavesHalf : Half → List ℕ → (List ℕ → Type 0) → Both → Both → (ℕ → List ℕ → List ℕ → List ℕ → Type 0) → (ℕ → List ℕ → List ℕ → List ℕ → Type 0) → Type 0
LeavesHalf half file P old new past since =
    (d : List ℕ) → LeavesOnly (half_state half old) (half_state half new) (slice half d past) (slice half d since) (λ c out. (out ≡ old.sent) × (d ≡ file) × P c)

-- how many bytes are written at most to a half that is mended from this file: those after its gate, and the own gate twice
abbrev pub mending_most : (source : List ℕ) → ℕ
mending_most source = length source + 1

-- the same disk, but for the count of its faults
pub record SameButFaults (old new : Disk) : Type 0 where
  pub holds : new.holds ≡ old.holds
  pub put : new.put ≡ old.put
  pub names : new.names ≡ old.names

-- ---- the steps

-- what no call for a mending changes or lowers
pub record Goes (target : Half) (a b : Both) : Type 0 where
  pub told : b.told ≡ a.told
  pub moment : a.moment ≤ b.moment
  pub line : b.line_faults ≡ a.line_faults
  pub names : (disk_of target b).names ≡ (disk_of target a).names
  pub source_names : (disk_of (other target) b).names ≡ (disk_of (other target) a).names
  pub faults : (disk_of target a).disk_faults ≤ (disk_of target b).disk_faults
  pub source_faults : (disk_of (other target) a).disk_faults ≤ (disk_of (other target) b).disk_faults

-- from a to b nothing was sent, the source is as it was, and a stop, also one now, leaves a target that has P
pub record Mends (target : Half) (P : List ℕ → Type 0) (a b : Both) (la lb : ℕ → List ℕ → List ℕ → List ℕ → Type 0) : Type 0 where
  pub sent : b.sent ≡ a.sent
  pub source : (disk_of (other target) b).holds ≡ (disk_of (other target) a).holds
  pub source_put : (disk_of (other target) b).put ≡ (disk_of (other target) a).put
  pub stop : (d c : List ℕ) → slice target d lb b.moment c b.sent → (d ≡ (disk_of (other target) a).holds) × P c
  pub leaves : LeavesHalf target (disk_of (other target) a).holds P a b la lb

-- there is a gate, and it is not open
pub record HasShutGate (file : List ℕ) : Type 0 where
  pub some : 1 ≤ length file
  pub shut : get_or file 0 0 ≡ 75 → ⊥

-- this is the gate of a file, or there is none
abbrev pub IsGate : Option ℕ → List ℕ → Type 0
IsGate None file = length file < 1
IsGate (Some b) file = (1 ≤ length file) × (get_or file 0 0 ≡ b)

-- the gate is open, or there is none yet
abbrev pub HasNoShutGate : List ℕ → Type 0
HasNoShutGate file = (length file < 1) ⊎ (get_or file 0 0 ≡ 75)

-- the file as it will stand when its gate is opened
abbrev pub opened : List ℕ → List ℕ
opened file = 75 ∷ drop 1 file
