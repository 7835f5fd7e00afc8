-- A core between two steps of a script: what its store keeps, and what its turns and commands are as steps.
use Rattle.std.specs.Prelude.{◌≡◌, ◌-◌, ◌+◌, ◌<◌, ℕ, List, [], ◌∷◌, replicate, Some, None, slice_get}
use Rattle.kdcs_types.specs.Tables.{TableRows}
use Rattle.abstract_monitor.specs.declared.command.Command.{Command}
use Rattle.abstract_monitor.specs.declared.command.Command.TheVariants.{Input, Tick, Run, Turn, Drop, Print, PrintLast, Restart}
use Rattle.abstract_monitor.specs.Commands.{ScriptStep, command_of, turned_step}
use Rattle.abstract_monitor.specs.Endings.{durable}
use Rattle.abstract_monitor.specs.Picks.{pick}
use Rattle.abstract_monitor.specs.State.{Application, State}
use Rattle.abstract_monitor.specs.Turns.{took, turn_of, unmoved}
use Rattle.monitor_core.specs.CoreValue.{CoreValue}

-- the durable tables of a core: what a stop leaves of its tables
abbrev pub durable_of : CoreValue → TableRows
durable_of c = durable c.application.generation c.state.tables

-- one turn of a task, and one command, as steps
abbrev pub turn_steps : CoreValue → (task : ℕ) → List ScriptStep
turn_steps c task = turned_step (turn_of c.application c.state task) ∷ []

abbrev pub command_steps : CoreValue → Command → List ScriptStep
command_steps c command = command_of c.application c.state command ∷ []

-- no service holds the task
abbrev pub IsFree : State → (task : ℕ) → Type 0
IsFree s task = slice_get s.tasks (task - 1) ≡ Some None

-- nor so many in a row, from this one on
abbrev pub AreFree : State → (task count : ℕ) → Type 0
AreFree s task count = (i : ℕ) → i < count → IsFree s (task + i)

-- a free task, whichever it is, finds no work
abbrev pub HasNoWork : Application → State → Type 0
HasNoWork app s = (task : ℕ) → took app s task (pick app s) ≡ unmoved s

-- so many turns that move nothing, as steps
abbrev pub idle_steps : State → (turns : ℕ) → List ScriptStep
idle_steps s turns = replicate turns (turned_step (unmoved s))

-- how many turns and commands a command makes at most
abbrev pub turns_of : Command → ℕ
turns_of (Run turns) = turns
turns_of (Input pterm text) = 1
turns_of (Tick ticks) = 1
turns_of (Turn task) = 1
turns_of (Drop pterm) = 1
turns_of (Print pterm) = 1
turns_of (PrintLast pterm) = 1
turns_of Restart = 1
