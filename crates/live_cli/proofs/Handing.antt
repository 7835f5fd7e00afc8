-- How an error of the opening, or of a line of the copies, is handed on.
use Rattle.std.proofs.Common.{◌≡◌, List, ℕ, Result, Err, ap, refl}
use Rattle.std.specs.Prelude.{IsErrAnd, IsErrOf}
use Rattle.device_acts.specs.declared.warm_start.error.OpenError.{OpenError}
use Rattle.device_acts.specs.declared.warm_start.error.OpenError.TheVariants as opening
use Rattle.kd_device.specs.declared.error.DeviceError.{DeviceError}
use Rattle.kd_device.specs.declared.error.DeviceError.TheVariants as device
use Rattle.live_run.specs.Causes.{of_device, of_open}
use Rattle.live_run.specs.declared.error.LiveError.{LiveError}
use Rattle.live_run.specs.declared.error.LiveError.TheVariants as live
use Rattle.call_parts.proofs.HandedOn.{handed, no_cause}

module _ (T U : Type 0) (r : Result T LiveError) (x : OpenError) (gives : IsErrAnd r (λ y. y ≡ of_open x)) where
  pub none_handed : IsErrOf r live.NotKdcfile → IsErrOf {T = U} (Err x) opening.NotKdcfile
  none_handed is = by x (handed r (of_open x) live.NotKdcfile gives is)
    where
      by : (x : OpenError) → of_open x ≡ live.NotKdcfile → IsErrOf {T = U} (Err x) opening.NotKdcfile
      by opening.NotKdcfile e = refl
      by (opening.OtherGeneration stored) e = absurd cc
      by opening.Failed e = absurd cc
      by opening.Memory e = absurd cc

  pub other_handed : (stored : List ℕ) → IsErrOf r (live.OtherGeneration stored) → IsErrOf {T = U} (Err x) (opening.OtherGeneration stored)
  other_handed stored is = by x (handed r (of_open x) (live.OtherGeneration stored) gives is)
    where
      same_stored : (a b : List ℕ) → live.OtherGeneration a ≡ live.OtherGeneration b → a ≡ b
      same_stored a b e = cc

      by : (x : OpenError) → of_open x ≡ live.OtherGeneration stored → IsErrOf {T = U} (Err x) (opening.OtherGeneration stored)
      by opening.NotKdcfile e = absurd cc
      by (opening.OtherGeneration other) e = ap (λ (l : List ℕ). Err (opening.OtherGeneration l)) (same_stored other stored e)
      by opening.Failed e = absurd cc
      by opening.Memory e = absurd cc

-- how an error of a line of the copies is
module _ (T U : Type 0) (r : Result T LiveError) (x : DeviceError) (gives : IsErrAnd r (λ y. y ≡ of_device x)) where
  pub line_failed : IsErrOf r live.Failed → IsErrOf {T = U} (Err x) device.Failed
  line_failed is = by x (handed r (of_device x) live.Failed gives is)
    where
      by : (x : DeviceError) → of_device x ≡ live.Failed → IsErrOf {T = U} (Err x) device.Failed
      by device.Failed e = refl
      by device.Memory e = absurd cc

  pub line_went : (IsErrOf r live.Failed → ⊥) → IsErrOf {T = U} (Err x) device.Failed → ⊥
  line_went none = no_cause U of_device x device.Failed r gives none

  pub line_refuses_nothing : IsErrOf r live.NotKdcfile → ⊥
  line_refuses_nothing is = by x (handed r (of_device x) live.NotKdcfile gives is)
    where
      by : (x : DeviceError) → of_device x ≡ live.NotKdcfile → ⊥
      by device.Failed e = cc
      by device.Memory e = cc

  pub line_knows_no_other : (stored : List ℕ) → IsErrOf r (live.OtherGeneration stored) → ⊥
  line_knows_no_other stored is = by x (handed r (of_device x) (live.OtherGeneration stored) gives is)
    where
      by : (x : DeviceError) → of_device x ≡ live.OtherGeneration stored → ⊥
      by device.Failed e = cc
      by device.Memory e = cc

  pub line_is_no_input : IsErrOf r live.Input → ⊥
  line_is_no_input is = by x (handed r (of_device x) live.Input gives is)
    where
      by : (x : DeviceError) → of_device x ≡ live.Input → ⊥
      by device.Failed e = cc
      by device.Memory e = cc
