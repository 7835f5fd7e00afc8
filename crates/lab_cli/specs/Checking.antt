-- What `check` says of a definition and its units.
use Rattle.std.specs.Prelude.{◌≡◌, ◌⊎◌, ℕ, List, [], ◌∷◌}
use Rattle.application_read.specs.declared.application.Application.{Application as Made}
use Rattle.application_read.specs.declared.fault.ApplicationFault.{ApplicationFault}
use Rattle.application_read.specs.Texts.{TextsGenerate, TextsHaveFault}
use Rattle.refusals.specs.Statuses.{IsOneOf}
use Rattle.lab_check.specs.declared.whole.Verdict.{Verdict}
use Rattle.lab_check.specs.declared.whole.Verdict.TheVariants.{Accepted, Refused}

abbrev pub IsStatusOf : Verdict → (status : ℕ) → Type 0
IsStatusOf (Accepted a) status = IsOneOf (0 ∷ 3 ∷ []) status
IsStatusOf (Refused fault) status = status ≡ 2

-- they have a fault, and the status is 2; or they make an application, and it is 0 or 3
abbrev pub IsChecked : (definition units : List ℕ) → (status : ℕ) → Type 0
IsChecked definition units status = (((fault : ApplicationFault) × TextsHaveFault definition units fault) × (status ≡ 2)) ⊎ (((a : Made) × TextsGenerate definition units a) × IsOneOf (0 ∷ 3 ∷ []) status)
