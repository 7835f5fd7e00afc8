-- Laws: the application of a generation and the units that were fitted to it.
use Rattle.std.specs.Prelude.{◌≡◌, refl, ℕ, List, Option, Some, None, option_and_then}
use Rattle.std.proofs.Common.{ap, ◌∙◌}
use Rattle.application_types.specs.declared.kdcdef_types.entry.TacEntry.{TacEntry}
use Rattle.application_types.specs.Generation.{Generated, entry_of, tac_of}
use Rattle.application_types.specs.Fitted.{FittedUnits, IsFit, unit_named, unit_of as fitted_unit}
use Rattle.abstract_monitor.specs.State.{Application, unit_by, unit_of}
use Rattle.laws_of_runs.specs.Applied.{applied}

same_by : (app : Application) (o : Option TacEntry) → option_and_then (λ (t : TacEntry). unit_named app.units t.program) o ≡ unit_by app o
same_by app None = refl
same_by app (Some t) = refl

-- the unit of a TAC among the fitted ones is that of the application
pub unit_found : (g : Generated) (fitted : FittedUnits) (tac : List ℕ) → IsFit g fitted → fitted_unit fitted tac ≡ unit_of (applied g fitted) tac
unfolding unit_of
unit_found g fitted tac fit =
    ap (λ tacs. option_and_then (λ (t : TacEntry). unit_named fitted.units t.program) (entry_of tacs tac)) fit.tacs
    ∙ same_by (applied g fitted) (tac_of g tac)
