-- What a line that is sent leaves.
use Rattle.std.specs.Prelude.{◌≡◌, ℕ, List, ◌++◌, take}
use Rattle.kd_device.specs.Device.{State, LeavesOnly}

-- nothing was written
pub record SameDisk (old new : State) : Type 0 where
  pub holds : new.holds ≡ old.holds
  pub put : new.put ≡ old.put

-- just this line was sent, and nothing was written
pub record Said (line : List ℕ) (old new : State) : Type 0 where
  pub disk : SameDisk old new
  pub sent : new.sent ≡ old.sent ++ line

-- a front of this line was sent, perhaps none of it or all, and nothing was written
pub record SaidPart (line : List ℕ) (old new : State) : Type 0 where
  pub disk : SameDisk old new
  pub sent : (n : ℕ) × (new.sent ≡ old.sent ++ take n line)

-- a stop now leaves no other file than it left before
abbrev pub LeavesSameFile : (old new : State) → (past since : ℕ → List ℕ → List ℕ → Type 0) → Type 0
LeavesSameFile old new past since = (c : List ℕ) → since new.moment c new.sent → past old.moment c old.sent

-- a stop within the call leaves no more than a file from before, and a front of this line
abbrev pub LeavesFront : (line : List ℕ) → (old new : State) → (past since : ℕ → List ℕ → List ℕ → Type 0) → Type 0
LeavesFront line old new past since =
    LeavesOnly old new past since (λ c out. past old.moment c old.sent × ((n : ℕ) × (out ≡ old.sent ++ take n line)))
