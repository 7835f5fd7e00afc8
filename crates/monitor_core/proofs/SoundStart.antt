-- The parts of a monitor that starts are sound.
use Rattle.std.specs.Prelude.{◌≡◌}
use Rattle.std.proofs.Common.{sym, subst}
use Rattle.application_types.specs.Generation.{Generated}
use Rattle.kdcs_types.specs.Tables.{TableRows, IsSortedTables}
use Rattle.application_types.specs.Fitted.{FittedUnits, IsFit}
use Rattle.laws_of_runs.specs.Applied.{applied}
use Rattle.abstract_monitor.specs.Commands.{started}
use Rattle.laws_of_states.specs.Applications.{IsApplication}
use Rattle.laws_of_states.specs.Suits.{Suits}
use Rattle.laws_of_runs.specs.SerialLaws.{HasReplays, StepsKeepReplays}
use Rattle.service_ends.specs.declared.core_state.parts.MonitorParts.{MonitorParts}
use Rattle.service_ends.specs.Standing.{IsIndexed, state_of}
use Rattle.service_ends.specs.Whole.{app_of}
use Rattle.monitor_core.specs.Sound.{IsSound}

-- parts of the same generation and units are of the same application
pub same_application : (p : MonitorParts) (g : Generated) (u : FittedUnits) → p.generation ≡ g → p.units ≡ u → app_of p ≡ applied g u
same_application p g u generation units = λ i. record { generation = generation i; units = (units i).units }

pub sound_start : (p : MonitorParts) (g : Generated) (u : FittedUnits) (t : TableRows) → StepsKeepReplays
    → IsFit g u → IsApplication (applied g u) → IsSortedTables t → Suits g t
    → p.generation ≡ g → p.units ≡ u → IsIndexed p → state_of p ≡ started (app_of p) t → IsSound p
sound_start p g u t steps fit application order suits generation units indexed state = record {
  whole = record {
    indexed = indexed;
    fit = subst (λ (x : Generated). IsFit x p.units) (sym generation) (subst (IsFit g) (sym units) fit);
    application = is_application;
    facts = replays.0;
  };
  replays = replays.1;
}
  where
    is_application : IsApplication (app_of p)
    is_application = subst IsApplication (sym (same_application p g u generation units)) application

    suits_it : Suits p.generation t
    suits_it = subst (λ (x : Generated). Suits x t) (sym generation) suits

    replays : HasReplays (app_of p) (state_of p)
    replays = subst (HasReplays (app_of p)) (sym state) (steps.starts (app_of p) t is_application order suits_it)
