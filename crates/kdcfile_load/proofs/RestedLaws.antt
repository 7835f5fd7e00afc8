-- Calls after which a device is as it was, with no fault: none of them, and one more.
use Rattle.std.proofs.Common.{◌∙◌, ℕ, List, arith}
use Rattle.std.specs.Prelude.{IsTrue}
use Rattle.kd_device.specs.Device.{State, Frame, SameFaults, SameNames}
use Rattle.kd_device.specs.Rest.{Rests}
use Rattle.kd_device.specs.TimeLaws.{faults_then}
use Rattle.kd_device.specs.RestLaws.{rests_then}
use Rattle.kdcfile_load.proofs.Rested.{Rested}

pub frame_then : (a b d : State) → Frame a b → Frame b d → Frame a d
frame_then a b d f g = record { told = g.told ∙ f.told; disk_faults = omega (arith, f.disk_faults, g.disk_faults); line_faults = omega (arith, f.line_faults, g.line_faults); moment = omega (arith, f.moment, g.moment) }

module _ (a b : State) (la lb : ℕ → List ℕ → List ℕ → Type 0) (before : Rested a b la lb) (d : State) (ld : ℕ → List ℕ → List ℕ → Type 0) where
  pub rests_after : (IsTrue b.told → Rests b d lb ld) → IsTrue a.told → Rests a d la ld
  rests_after rests told = rests_then a b la lb d ld (before.rests told) (rests (before.frame.told ∙ told))

  pub rested_then : Frame b d → SameNames b d → SameFaults b d → (IsTrue b.told → Rests b d lb ld) → Rested a d la ld
  rested_then frame names fine rests = record {
    frame = frame_then a b d before.frame frame;
    names = names ∙ before.names;
    fine = faults_then a b d before.fine fine;
    rests = λ told. rests_after rests told;
  }
