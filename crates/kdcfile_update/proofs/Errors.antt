-- Which error came before one that was handed on.
use Rattle.std.proofs.Common.{◌≡◌, refl, sym, ap, ◌∙◌, Result, Ok, Err}
use Rattle.std.specs.Prelude.{List, ℕ, IsErrOf, IsErrAnd}
use Rattle.kd_update.specs.declared.error.UpdateError.{UpdateError}
use Rattle.kd_update.specs.declared.error.UpdateError.TheVariants as cause
use Rattle.device_acts.specs.declared.warm_start.error.OpenError.{OpenError}
use Rattle.device_acts.specs.declared.warm_start.error.OpenError.TheVariants as opening
use Rattle.kdcfile_update.specs.declared.error.CarryError.{CarryError}
use Rattle.kdcfile_update.specs.declared.error.CarryError.TheVariants.{Failed, Refused}
use Rattle.kd_device.specs.declared.error.DeviceError.{DeviceError}
use Rattle.kd_device.specs.declared.error.DeviceError.TheVariants as device
use Rattle.kdcfile_update.specs.Causes.{of_device, of_open}

error_is : (T : Type 0) (r : Result T CarryError) (x y : CarryError) → IsErrAnd r (λ z. z ≡ x) → IsErrOf r y → x ≡ y
error_is T (Ok v) x y gives is = absurd gives
error_is T (Err v) x y gives is = let same : v ≡ y = cc in sym gives ∙ same

-- an opening refuses a file as no KDCFILE alone
refusal_of : (U : Type 0) (e : OpenError) (why : UpdateError) → ((stored : List ℕ) → IsErrOf {T = U} (Err e) (opening.OtherGeneration stored) → ⊥) → of_open e ≡ Refused why → (why ≡ cause.NotKdcfile) × IsErrOf {T = U} (Err e) opening.NotKdcfile
refusal_of U opening.NotKdcfile why none is = (cc, refl)
refusal_of U (opening.OtherGeneration stored) why none is = absurd (none stored refl)
refusal_of U opening.Failed why none is = absurd cc
refusal_of U opening.Memory why none is = absurd cc

module _ (T U : Type 0) (r : Result T CarryError) (e : OpenError) (gives : IsErrAnd r (λ x. x ≡ of_open e)) (none : (stored : List ℕ) → IsErrOf {T = U} (Err e) (opening.OtherGeneration stored) → ⊥) where
  pub opening_was : (why : UpdateError) → IsErrOf r (Refused why) → (why ≡ cause.NotKdcfile) × IsErrOf {T = U} (Err e) opening.NotKdcfile
  opening_was why is = refusal_of U e why none (error_is T r (of_open e) (Refused why) gives is)

-- a failed call was handed on as one, and nothing else was
module _ (T U : Type 0) (r : Result T CarryError) (e : DeviceError) (gives : IsErrAnd r (λ x. x ≡ of_device e)) where
  pub device_failed : IsErrOf r Failed → IsErrOf {T = U} (Err e) device.Failed
  device_failed is = by e (error_is T r (of_device e) Failed gives is)
    where
      by : (d : DeviceError) → of_device d ≡ Failed → IsErrOf {T = U} (Err d) device.Failed
      by device.Failed same = refl
      by device.Memory same = absurd cc

  pub unless_failed : (IsErrOf r Failed → ⊥) → IsErrOf {T = U} (Err e) device.Failed → ⊥
  unless_failed none is = by r gives none
    where
      failed : of_device e ≡ Failed
      failed = let same : e ≡ device.Failed = cc in ap of_device same

      by : (q : Result T CarryError) → IsErrAnd q (λ x. x ≡ of_device e) → (IsErrOf q Failed → ⊥) → ⊥
      by (Ok v) told not_so = told
      by (Err x) told not_so = not_so (ap (λ z. Err z) (told ∙ failed))
