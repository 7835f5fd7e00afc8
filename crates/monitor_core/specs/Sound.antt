-- When a monitor is sound between two commands.
use Rattle.laws_of_runs.specs.Replays.{AllReplay}
use Rattle.service_ends.specs.declared.core_state.parts.MonitorParts.{MonitorParts}
use Rattle.service_ends.specs.Standing.{state_of}
use Rattle.service_ends.specs.Whole.{IsWhole, app_of}

-- its parts are whole, and each open transaction replays to itself
pub record IsSound (p : MonitorParts) : Type 0 where
  pub whole : IsWhole p
  pub replays : AllReplay (app_of p) (state_of p)
