-- Calls after which a device is as it was, with no fault.
use Rattle.std.specs.Prelude.{ℕ, List, IsTrue}
use Rattle.kd_device.specs.Device.{State, Frame, SameFaults, SameNames}
use Rattle.kd_device.specs.Rest.{Rests}

pub record Rested (a b : State) (la lb : ℕ → List ℕ → List ℕ → Type 0) : Type 0 where
  pub frame : Frame a b
  pub names : SameNames a b
  pub fine : SameFaults a b
  pub rests : IsTrue a.told → Rests a b la lb
