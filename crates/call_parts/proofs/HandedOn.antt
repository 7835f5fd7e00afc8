-- Errors that are handed on.
use Rattle.std.proofs.Common.{◌≡◌, refl, sym, ap, ◌∙◌}
use Rattle.std.specs.Prelude.{Result, Ok, Err, IsErrAnd, IsErrOf}
use Rattle.kd_base.specs.ToolsLaws.{err_is}
use Rattle.kd_device.specs.declared.error.DeviceError.{DeviceError}
use Rattle.kd_device.specs.declared.error.DeviceError.TheVariants as device
use Rattle.device_acts.specs.declared.warm_start.error.OpenError.{OpenError}
use Rattle.device_acts.specs.declared.warm_start.error.OpenError.TheVariants as opening
use Rattle.kdcfile_double.specs.declared.error.TwinOpenError.{TwinOpenError}
use Rattle.kdcfile_double.specs.declared.error.TwinOpenError.TheVariants as twin
use Rattle.refusals.specs.declared.error.FileRefusal.{FileRefusal}
use Rattle.call_parts.specs.Causes.{of_device, of_open, of_twin}
use Rattle.call_parts.specs.declared.error.CallError.{CallError}
use Rattle.call_parts.specs.declared.error.CallError.TheVariants.{Refused, Failed}

-- what was handed on, and is this
pub handed : {T E : Type 0} (r : Result T E) (y z : E) → IsErrAnd r (λ x. x ≡ y) → IsErrOf r z → y ≡ z
handed (Ok x) y z gives is = absurd gives
handed {T} (Err x) y z gives is = sym gives ∙ err_is T x z is

pub given : {T E : Type 0} (r : Result T E) (y z : E) → IsErrAnd r (λ x. x ≡ y) → y ≡ z → IsErrOf r z
given (Ok x) y z gives is = absurd gives
given (Err x) y z gives is = ap (λ e. Err e) (gives ∙ is)

-- what is not handed on as this was not this
pub no_cause : {T D E : Type 0} (U : Type 0) (f : D → E) (x y : D) (r : Result T E) → IsErrAnd r (λ z. z ≡ f x) → (IsErrOf r (f y) → ⊥) → IsErrOf {T = U} (Err x) y → ⊥
no_cause U f x y r gives none is = none (given r (f x) (f y) gives (ap f (err_is U x y is)))

pub same_reason : (r q : FileRefusal) → Refused r ≡ Refused q → r ≡ q
same_reason r q is = cc

-- ---- what failed did so before

device_failed : (U : Type 0) (x : DeviceError) → of_device x ≡ Failed → IsErrOf {T = U} (Err x) device.Failed
device_failed U device.Failed is = refl
device_failed U device.Memory is = absurd cc

open_failed : (U : Type 0) (x : OpenError) → of_open x ≡ Failed → IsErrOf {T = U} (Err x) opening.Failed
open_failed U opening.NotKdcfile is = absurd cc
open_failed U (opening.OtherGeneration stored) is = absurd cc
open_failed U opening.Failed is = refl
open_failed U opening.Memory is = absurd cc

pub opening_failed : (U : Type 0) (x : TwinOpenError) → of_twin x ≡ Failed → IsErrOf {T = U} (Err x) twin.Failed
opening_failed U twin.NotKdcfile is = absurd cc
opening_failed U (twin.OtherGeneration stored) is = absurd cc
opening_failed U (twin.Spent n) is = absurd cc
opening_failed U twin.Failed is = refl
opening_failed U twin.Memory is = absurd cc

-- the acts did, or the script
pub acts_failed : {T : Type 0} (U : Type 0) (x : DeviceError) (r : Result T CallError) → IsErrAnd r (λ y. y ≡ of_device x) → IsErrOf r Failed → IsErrOf {T = U} (Err x) device.Failed
acts_failed U x r gives is = device_failed U x (handed r (of_device x) Failed gives is)

pub script_failed : {T : Type 0} (U : Type 0) (x : OpenError) (r : Result T CallError) → IsErrAnd r (λ y. y ≡ of_open x) → IsErrOf r Failed → IsErrOf {T = U} (Err x) opening.Failed
script_failed U x r gives is = open_failed U x (handed r (of_open x) Failed gives is)

-- no call of the device refuses a file
pub device_refuses_nothing : (x : DeviceError) (q : FileRefusal) → of_device x ≡ Refused q → ⊥
device_refuses_nothing device.Failed q is = cc
device_refuses_nothing device.Memory q is = cc

-- a file that is refused is no call that failed
pub refused_not_failed : (U : Type 0) (x : CallError) (q : FileRefusal) → x ≡ Refused q → IsErrOf {T = U} (Err x) Failed → ⊥
refused_not_failed U x q is failed = let both : Refused q ≡ Failed = sym is ∙ err_is U x Failed failed in cc
