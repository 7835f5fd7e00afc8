-- A monitor as contracts see it.
use Rattle.std.specs.Prelude.{◌≡◌, ◌+◌, ℕ}
use Rattle.abstract_monitor.specs.State.{Application, State}
use Rattle.service_ends.specs.declared.core_state.parts.MonitorParts.{MonitorParts}
use Rattle.service_ends.specs.Standing.{state_of}
use Rattle.service_ends.specs.Whole.{app_of}

-- its application, the abstract monitor's state, and how many turns and commands it has done
pub record CoreValue : Type 0 where
  pub application : Application
  pub state : State
  pub steps : ℕ

-- what the parts of a monitor are seen as
abbrev pub core_value : MonitorParts → CoreValue
core_value p = record { application = app_of p; state = state_of p; steps = p.steps }

-- the same application, and one step more
pub record OneStep (before after : CoreValue) : Type 0 where
  pub application : after.application ≡ before.application
  pub steps : after.steps ≡ before.steps + 1

-- the same application and state, and so many steps more
pub record Rested (before after : CoreValue) (turns : ℕ) : Type 0 where
  pub application : after.application ≡ before.application
  pub state : after.state ≡ before.state
  pub steps : after.steps ≡ before.steps + turns
