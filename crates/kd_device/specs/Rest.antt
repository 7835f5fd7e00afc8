-- Calls after which all stands as it did, and a stop leaves no more than it might have left before.
use Rattle.std.specs.Prelude.{◌≡◌, ℕ, List}
use Rattle.kd_device.specs.Device.{State, LeavesOnly}

-- what a stop at that moment may leave, with what was sent by then
abbrev pub Before : State → (ℕ → List ℕ → List ℕ → Type 0) → List ℕ → List ℕ → Type 0
Before s leaves c out = (out ≡ s.sent) × leaves s.moment c s.sent

-- several calls that change no byte
pub record Rests (old new : State) (past since : ℕ → List ℕ → List ℕ → Type 0) : Type 0 where
  pub holds : new.holds ≡ old.holds
  pub sent : new.sent ≡ old.sent
  pub put : new.put ≡ old.put
  pub stop : (c : List ℕ) → since new.moment c new.sent → past old.moment c old.sent
  pub leaves : LeavesOnly old new past since (Before old past)
