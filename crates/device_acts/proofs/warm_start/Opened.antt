-- What a stop within the opening of a KDCFILE leaves, and which error came before one that was handed on.
use Rattle.std.proofs.Common.{◌≡◌, ◌≤◌, ◌+◌, arith, inl, inr, ⊎_elim, ℕ, List, [], ap, ◌∙◌, Result, Ok, Err, refl}
use Rattle.std.specs.Prelude.{IsErrOf, IsErrAnd}
use Rattle.kd_device.specs.Device.{State, LeavesOnly}
use Rattle.kd_device.specs.TimeLaws.{leaves_weaker, leaves_then}
use Rattle.kd_device.specs.Rest.{Rests, Before}
use Rattle.kd_records.specs.Identity.{Identity}
use Rattle.kdcfile_load.specs.declared.fault.LoadError.{LoadError}
use Rattle.kdcfile_load.specs.declared.fault.LoadError.TheVariants as load
use Rattle.kdcfile_store.specs.Paged.{Made, made_length}
use Rattle.device_acts.specs.declared.warm_start.error.OpenError.{OpenError}
use Rattle.device_acts.specs.declared.warm_start.error.OpenError.TheVariants as opening
use Rattle.device_acts.specs.Causes.{of_load}
use Rattle.device_acts.specs.Opening.{IsOpening, opening_most}
use Rattle.device_acts.proofs.warm_start.Kept.{empty_are_tables}

module _ (i : Identity) (a b : State) (la lb : ℕ → List ℕ → List ℕ → Type 0) (rests : Rests a b la lb) where
  pub opening_made : a.holds ≡ [] → (d : State) (ld : ℕ → List ℕ → List ℕ → Type 0) → LeavesOnly b d lb ld (Made i b.sent) → LeavesOnly a d la ld (IsOpening i a la)
  opening_made empty d ld h =
      leaves_then a b la lb d ld (IsOpening i a la) (leaves_weaker a b la lb (Before a la) (IsOpening i a la) rests.leaves (λ c out now. record { silent = now.0; file = inl now.1 }))
      (leaves_weaker b d lb ld (Made i b.sent) (IsOpening i a la) h (λ c out made. record { silent = made.0 ∙ rests.sent; file = inr (record { empty = empty; image_is = ⊎_elim (λ none. inl none) (λ stands. inr (record { tables = empty_are_tables; content = stands })) made.1 }) }))

  -- what the making of an empty file writes
  pub opening_writes : a.holds ≡ [] → (d : State) → d.put ≤ b.put + made_length i + 1 → d.put ≤ a.put + opening_most i a.holds
  opening_writes empty d most =
      let same = rests.put in
      let all : opening_most i a.holds ≡ made_length i + 1 = ap (opening_most i) empty in
      omega (arith, most, same, all)

pub load_refused : (T U : Type 0) (r : Result T OpenError) (e : LoadError) → IsErrAnd r (λ x. x ≡ of_load e) → IsErrOf r opening.NotKdcfile → IsErrOf {T = U} (Err e) load.NotKdcfile
load_refused T U r load.NotKdcfile gives is = refl
load_refused T U (Ok x) load.Failed gives is = absurd gives
load_refused T U (Err x) load.Failed gives is = absurd cc
load_refused T U (Ok x) load.Memory gives is = absurd gives
load_refused T U (Err x) load.Memory gives is = absurd cc
