-- Which error of a device was handed on as one of the opening.
use Rattle.std.proofs.Common.{◌≡◌, ◌⊎◌, inl, inr, ℕ, List, refl, ap}
use Rattle.std.specs.Prelude.{Result, Ok, Err, IsErrAnd, IsErrOf}
use Rattle.kd_device.specs.declared.error.DeviceError.{DeviceError}
use Rattle.kd_device.specs.declared.error.DeviceError.TheVariants as device
use Rattle.device_acts.specs.declared.warm_start.error.OpenError.{OpenError}
use Rattle.device_acts.specs.declared.warm_start.error.OpenError.TheVariants as opening
use Rattle.device_acts.specs.Causes.{of_device}

pub act_failed : (T U : Type 0) (r : Result T OpenError) (e : DeviceError) → IsErrAnd r (λ x. x ≡ of_device e) → IsErrOf r opening.Failed → IsErrOf {T = U} (Err e) device.Failed
act_failed T U r device.Failed gives is = refl
act_failed T U (Ok x) device.Memory gives is = absurd gives
act_failed T U (Err x) device.Memory gives is = absurd cc

pub act_not_failed : (T U : Type 0) (r : Result T OpenError) (e : DeviceError) → IsErrAnd r (λ x. x ≡ of_device e) → (IsErrOf r opening.Failed → ⊥) → IsErrOf {T = U} (Err e) device.Failed → ⊥
act_not_failed T U (Ok x) e gives none is = gives
act_not_failed T U (Err x) device.Failed gives none is = none (ap (λ z. Err z) gives)
act_not_failed T U (Err x) device.Memory gives none is = cc

pub act_refuses_nothing : (T : Type 0) (r : Result T OpenError) (e : DeviceError) → IsErrAnd r (λ x. x ≡ of_device e) → IsErrOf r opening.NotKdcfile → ⊥
act_refuses_nothing T (Ok x) e gives is = gives
act_refuses_nothing T (Err x) device.Failed gives is = cc
act_refuses_nothing T (Err x) device.Memory gives is = cc

pub act_knows_no_other : (T : Type 0) (r : Result T OpenError) (e : DeviceError) (stored : List ℕ) → IsErrAnd r (λ x. x ≡ of_device e) → IsErrOf r (opening.OtherGeneration stored) → ⊥
act_knows_no_other T (Ok x) e stored gives is = gives
act_knows_no_other T (Err x) device.Failed stored gives is = cc
act_knows_no_other T (Err x) device.Memory stored gives is = cc

-- a call of a device fails for want of memory, or for the device
pub either_cause : (T : Type 0) (P Q : Type 0) (e : DeviceError) → (IsErrOf {T = T} (Err e) device.Memory → P) → (IsErrOf {T = T} (Err e) device.Failed → Q) → P ⊎ Q
either_cause T P Q device.Failed p q = inr (q refl)
either_cause T P Q device.Memory p q = inl (p refl)
