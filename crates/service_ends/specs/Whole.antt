-- When the parts of a monitor can go on: the indexes are those of a state that has its facts, under an application.
use Rattle.application_types.specs.Fitted.{IsFit}
use Rattle.laws_of_states.specs.Applications.{IsApplication}
use Rattle.laws_of_states.specs.Keeping.{HasFacts}
use Rattle.abstract_monitor.specs.State.{Application}
use Rattle.service_ends.specs.declared.core_state.parts.MonitorParts.{MonitorParts}
use Rattle.service_ends.specs.Standing.{IsIndexed, state_of}

-- the application of the parts
abbrev pub app_of : MonitorParts → Application
app_of p = record { generation = p.generation; units = p.units.units }

-- the indexes are those of the state, the state has its facts, and the units were fitted to the generation
pub record IsWhole (p : MonitorParts) : Type 0 where
  pub indexed : IsIndexed p
  pub fit : IsFit p.generation p.units
  pub application : IsApplication (app_of p)
  pub facts : HasFacts (app_of p) (state_of p)
