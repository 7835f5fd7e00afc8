-- What `check` came to.
use Rattle.std.proofs.Common.{◌≡◌, inl, inr, ℕ, List, [], ◌∷◌, false, Result, Ok, Err, refl, sym, subst, arith}
use Rattle.std.specs.Prelude.{IsErrAnd}
use Rattle.std.proofs.lemmas.Bool.Decides.{nat_tests}
use Rattle.kd_device.specs.Room.{RoomState}
use Rattle.kd_device.specs.declared.error.DeviceError.{DeviceError}
use Rattle.kd_device.specs.declared.error.DeviceError.TheVariants as device
use Rattle.refusals.specs.Statuses.{IsOneOf}
use Rattle.refusals.specs.declared.status.Status.{Status}
use Rattle.lab_check.specs.Verdicts.{IsVerdict}
use Rattle.lab_check.specs.declared.whole.Verdict.{Verdict}
use Rattle.lab_check.specs.declared.whole.Verdict.TheVariants.{Accepted, Refused}
use Rattle.lab_turns.specs.declared.error.LabError.{LabError}
use Rattle.lab_turns.specs.declared.error.LabError.TheVariants as labs
use Rattle.lab_cli.specs.Answers.{CheckCame}
use Rattle.lab_cli.specs.Causes.{of_device, of_lab}
use Rattle.lab_cli.specs.Checking.{IsChecked, IsStatusOf}
use Rattle.lab_cli.specs.Places.{AreRead, MissesText}
use Rattle.lab_cli.specs.Stops.{FailsSo}
use Rattle.lab_cli.specs.declared.stop.Stop.{Stop}
use Rattle.lab_cli.specs.declared.stop.Stop.TheVariants as stop

-- by what the texts are taken for
pub is_checked : (d u : List ℕ) (v : Verdict) (n : ℕ) → IsVerdict d u v → IsStatusOf v n → IsChecked d u n
is_checked d u (Accepted a) n verdict status = inr ((a, verdict.0), status)
is_checked d u (Refused fault) n verdict status = inl ((fault, verdict), status)

two_code : (n : ℕ) → n ≡ 2 → IsOneOf (0 ∷ 2 ∷ 3 ∷ []) n
two_code n is = subst (λ (k : ℕ). IsOneOf (0 ∷ 2 ∷ 3 ∷ []) k) (sym is) refl

other_code : (n : ℕ) → IsOneOf (0 ∷ 3 ∷ []) n → IsOneOf (0 ∷ 2 ∷ 3 ∷ []) n
other_code n h = grind (arith, nat_tests)

pub checked_code : (d u : List ℕ) (n : ℕ) → IsChecked d u n → IsOneOf (0 ∷ 2 ∷ 3 ∷ []) n
checked_code d u n (inl h) = two_code n h.1
checked_code d u n (inr h) = other_code n h.1

-- the texts as they were lent
pub lent_checked : (d d' u u' : List ℕ) (n : ℕ) → d' ≡ d → u' ≡ u → IsChecked d' u' n → IsChecked d u n
lent_checked d d' u u' n d_is u_is h = subst (λ (l : List ℕ). IsChecked l u n) d_is (subst (λ (l : List ℕ). IsChecked d' l n) u_is h)

-- without its script
pub without_script : (base : List ℕ) (texts : List (List ℕ × List ℕ)) (d u s : List ℕ) → AreRead false base texts d u s → AreRead false base texts d u []
without_script base texts d u s h = record { definition_is = h.definition_is; units_are = h.units_are; script_is = refl }

module _ {C : Type 0} (base : List ℕ) (r r' : RoomState) (a : C) where
  unread : (e : DeviceError) → FailsSo (MissesText false base r.texts) r r' e → CheckCame base r r' a a (Err (of_device e))
  unread device.Failed h = (refl, h.0, h.1)
  unread device.Memory h = tt

  pub check_unread : (e : DeviceError) → FailsSo (MissesText false base r.texts) r r' e → (done : Result Status Stop) → IsErrAnd done (λ x. x ≡ of_device e) → CheckCame base r r' a a done
  check_unread e h (Ok s) is = absurd is
  check_unread e h (Err x) is = subst (λ (w : Stop). CheckCame base r r' a a (Err w)) (sym is) (unread e h)

  pub check_memory : (b : C) (done : Result Status Stop) → IsErrAnd done (λ x. x ≡ stop.Memory) → CheckCame base r r' a b done
  check_memory b (Ok s) is = absurd is
  check_memory b (Err x) is = subst (λ (w : Stop). CheckCame base r r' a b (Err w)) (sym is) tt

  broken : (b : C) (e : LabError) → CheckCame base r r' a b (Err (of_lab e))
  broken b labs.Memory = tt
  broken b labs.Output = tt
  broken b labs.Spent = tt

  pub check_broken : (b : C) (e : LabError) (done : Result Status Stop) → IsErrAnd done (λ x. x ≡ of_lab e) → CheckCame base r r' a b done
  check_broken b e (Ok s) is = absurd is
  check_broken b e (Err x) is = subst (λ (w : Stop). CheckCame base r r' a b (Err w)) (sym is) (broken b e)
