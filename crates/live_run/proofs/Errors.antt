-- Which error was handed on as one of a session.
use Rattle.std.proofs.Common.{ℕ, List, refl}
use Rattle.std.specs.Prelude.{Err, IsErrOf}
use Rattle.kd_device.specs.declared.error.DeviceError.{DeviceError}
use Rattle.kd_device.specs.declared.error.DeviceError.TheVariants as device
use Rattle.device_acts.specs.declared.warm_start.error.OpenError.{OpenError}
use Rattle.device_acts.specs.declared.warm_start.error.OpenError.TheVariants as opening
use Rattle.live_run.specs.Causes.{of_device, of_open}
use Rattle.live_run.specs.declared.error.LiveError.TheVariants as live

-- ---- of a device

pub device_failed : (P : Type 0) {T U : Type 0} (e : DeviceError) → (IsErrOf {T = T} (Err e) device.Failed → P) → IsErrOf {T = U} (Err (of_device e)) live.Failed → P
device_failed P device.Failed answered is = answered refl
device_failed P device.Memory answered is = absurd cc

pub device_went : (P : Type 0) {T U : Type 0} (e : DeviceError) → ((IsErrOf {T = T} (Err e) device.Failed → ⊥) → P) → (IsErrOf {T = U} (Err (of_device e)) live.Failed → ⊥) → P
device_went P device.Failed answered none = absurd (none refl)
device_went P device.Memory answered none = answered (λ is. cc)

pub device_refuses_nothing : {U : Type 0} (e : DeviceError) → IsErrOf {T = U} (Err (of_device e)) live.NotKdcfile → ⊥
device_refuses_nothing device.Failed is = cc
device_refuses_nothing device.Memory is = cc

pub device_knows_no_other : {U : Type 0} (e : DeviceError) (stored : List ℕ) → IsErrOf {T = U} (Err (of_device e)) (live.OtherGeneration stored) → ⊥
device_knows_no_other device.Failed stored is = cc
device_knows_no_other device.Memory stored is = cc

pub device_is_no_input : {U : Type 0} (e : DeviceError) → IsErrOf {T = U} (Err (of_device e)) live.Input → ⊥
device_is_no_input device.Failed is = cc
device_is_no_input device.Memory is = cc

-- ---- of an opening

pub open_failed : (P : Type 0) {T U : Type 0} (e : OpenError) → (IsErrOf {T = T} (Err e) opening.Failed → P) → IsErrOf {T = U} (Err (of_open e)) live.Failed → P
open_failed P opening.Failed answered is = answered refl
open_failed P opening.Memory answered is = absurd cc
open_failed P opening.NotKdcfile answered is = absurd cc
open_failed P (opening.OtherGeneration stored) answered is = absurd cc

pub open_went : (P : Type 0) {T U : Type 0} (e : OpenError) → ((IsErrOf {T = T} (Err e) opening.Failed → ⊥) → P) → (IsErrOf {T = U} (Err (of_open e)) live.Failed → ⊥) → P
open_went P opening.Failed answered none = absurd (none refl)
open_went P opening.Memory answered none = answered (λ is. cc)
open_went P opening.NotKdcfile answered none = answered (λ is. cc)
open_went P (opening.OtherGeneration stored) answered none = answered (λ is. cc)

pub open_refused : (P : Type 0) {T U : Type 0} (e : OpenError) → (IsErrOf {T = T} (Err e) opening.NotKdcfile → P) → IsErrOf {T = U} (Err (of_open e)) live.NotKdcfile → P
open_refused P opening.NotKdcfile answered is = answered refl
open_refused P opening.Failed answered is = absurd cc
open_refused P opening.Memory answered is = absurd cc
open_refused P (opening.OtherGeneration stored) answered is = absurd cc

pub open_other : (P : Type 0) {T U : Type 0} (stored : List ℕ) (e : OpenError) → (IsErrOf {T = T} (Err e) (opening.OtherGeneration stored) → P) → IsErrOf {T = U} (Err (of_open e)) (live.OtherGeneration stored) → P
open_other P stored (opening.OtherGeneration other) answered is = answered cc
open_other P stored opening.Failed answered is = absurd cc
open_other P stored opening.Memory answered is = absurd cc
open_other P stored opening.NotKdcfile answered is = absurd cc

pub open_is_no_input : {U : Type 0} (e : OpenError) → IsErrOf {T = U} (Err (of_open e)) live.Input → ⊥
open_is_no_input opening.NotKdcfile is = cc
open_is_no_input (opening.OtherGeneration stored) is = cc
open_is_no_input opening.Failed is = cc
open_is_no_input opening.Memory is = cc
