-- What a call leaves of its file and its line, whatever it asks for.
use Rattle.std.specs.Prelude.{◌≡◌, ◌⊎◌, ℕ, IsTrue, List, [], ◌∷◌, ◌++◌}
use Rattle.kd_device.specs.Device.{State, Rose, LeavesOnly}
use Rattle.kd_records.specs.Identity.{Identity}
use Rattle.kdcfile_layout.specs.Layout.{IsNoImage}
use Rattle.device_acts.specs.Opening.{IsOpening}
use Rattle.device_acts.specs.Said.{SaidPart}

-- a call of the disk or of the line failed
abbrev pub CallFailed : (a b : State) → Type 0
CallFailed a b = Rose a.disk_faults b.disk_faults ⊎ Rose a.line_faults b.line_faults

-- a front of this line was sent, and nothing else
abbrev pub SaysPart : List ℕ → (a b : State) → Type 0
SaysPart line a b = IsTrue a.told → SaidPart line a b

-- this name, or none, was handed to attach
abbrev pub MayAttach : List ℕ → State → State → Type 0
MayAttach name a b = (b.names ≡ a.names) ⊎ (b.names ≡ a.names ++ name ∷ [])

-- a file that a stop left unmade: it is empty, or stands for no content of any identity, and so for no tables
abbrev pub IsUnmade : List ℕ → Type 0
IsUnmade bytes = (bytes ≡ []) ⊎ IsNoImage bytes

-- the file was empty at the call, nothing was sent, and the file is unmade
pub record LeavesUnmade (a : State) (image out : List ℕ) : Type 0 where
  pub empty : a.holds ≡ []
  pub silent : out ≡ a.sent
  pub unmade : IsUnmade image

-- a stop within the opening of a file leaves what it may leave there
abbrev pub LeavesOpening : Identity → (a b : State) → (la lb : ℕ → List ℕ → List ℕ → Type 0) → Type 0
LeavesOpening i a b la lb = IsTrue a.told → LeavesOnly a b la lb (IsOpening i a la)
