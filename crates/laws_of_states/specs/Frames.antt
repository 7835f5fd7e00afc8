-- What a step leaves alone: all services but one; and where a message that is shown goes.
use Rattle.std.specs.Prelude.{◌≡◌, ℕ, ◌-◌, false, Some, slice_get}
use Rattle.std.specs.FinMap.{find}
use Rattle.kdcs_types.specs.declared.key.ServiceId.{ServiceId}
use Rattle.kdcs_types.specs.declared.service.Job.{Job}
use Rattle.kdcs_types.specs.Keys.{id_cmp, id_eq}
use Rattle.kdcs_types.specs.Tables.{service_of}
use Rattle.abstract_monitor.specs.Bytes.{Bytes}
use Rattle.abstract_monitor.specs.State.{Application, State}
use Rattle.abstract_monitor.specs.Turns.{turn_of}
use Rattle.abstract_monitor.specs.declared.command.Command.{Command}
use Rattle.abstract_monitor.specs.declared.command.Command.TheVariants.{Restart}
use Rattle.abstract_monitor.specs.Commands.{ByShow, command_of, due_for}
use Rattle.laws_of_states.specs.Commits.{SendsNext}

-- every other service keeps its open transaction, its row and its request
pub record LeavesOthers (id : ServiceId) (before after : State) : Type 0 where
  pub transactions : (other : ServiceId) → id_eq other id ≡ false → find id_cmp other after.active ≡ find id_cmp other before.active
  pub rows : (other : ServiceId) → id_eq other id ≡ false → service_of after.tables other ≡ service_of before.tables other
  pub waits : (other : ServiceId) → id_eq other id ≡ false → find id_cmp other after.waits ≡ find id_cmp other before.waits

-- a turn of a task that holds a service leaves all others alone
abbrev pub TurnsLeaveOthers : Type 0
TurnsLeaveOthers =
    (app : Application) (s : State) (task : ℕ) (id : ServiceId) → slice_get s.tasks (task - 1) ≡ Some (Some id) → LeavesOthers id s (turn_of app s task).after

-- one service at most is touched
abbrev pub TouchesOne : State → State → Type 0
TouchesOne before after = (id : ServiceId) × LeavesOthers id before after

-- a command but RESTART touches one service at most
abbrev pub TouchesOneBy : Command → State → State → Type 0
TouchesOneBy Restart before after = Unit {0}
TouchesOneBy _ before after = TouchesOne before after

abbrev pub CommandsTouchOne : Type 0
CommandsTouchOne = (app : Application) (s : State) (c : Command) → TouchesOneBy c s (command_of app s c).after

-- a commit of KDCOUT or PRINT shows the due job of its LTERM, and its line goes to the terminal of that LTERM next
abbrev pub ShowsAtItsTerminal : Type 0
ShowsAtItsTerminal =
    (app : Application) (s : State) (c : Command) (lterm : Bytes)
    → (command_of app s c).by ≡ Some (ByShow lterm)
    → (job : Job) × (due_for s lterm ≡ Some job) × SendsNext app lterm job.value.message (command_of app s c).acts
