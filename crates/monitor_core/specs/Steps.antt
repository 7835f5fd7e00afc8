-- What a command of a core did, as a step of the abstract monitor.
use Rattle.std.specs.Prelude.{List, Option}
use Rattle.kdcs_types.specs.declared.act.Act.{Act}
use Rattle.abstract_monitor.specs.Commands.{Maker, ScriptStep}
use Rattle.abstract_monitor.specs.State.{State}

-- it came to this state with these acts, and this made its commit
abbrev pub came_to : State → List Act → Option Maker → ScriptStep
came_to s acts by = record { after = s; acts = acts; by = by }
