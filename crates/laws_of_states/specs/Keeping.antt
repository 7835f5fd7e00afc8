-- What each step of a script keeps, and how that reaches every state of a run.
use Rattle.std.specs.Prelude.{ℕ, List, All}
use Rattle.kdcs_types.specs.Tables.{TableRows, IsSortedTables}
use Rattle.application_types.specs.Statements.{IsWithin}
use Rattle.abstract_monitor.specs.State.{Application, State}
use Rattle.abstract_monitor.specs.Turns.{turn_of}
use Rattle.abstract_monitor.specs.declared.command.Command.{Command}
use Rattle.abstract_monitor.specs.Commands.{ScriptStep, started, command_of}
use Rattle.abstract_monitor.specs.Trace.{history}
use Rattle.laws_of_states.specs.Applications.{IsApplication}
use Rattle.abstract_monitor.specs.CommandsOf.{IsCommandOf}
use Rattle.laws_of_states.specs.Facts.{IsConsistent, IsSoundState}
use Rattle.laws_of_states.specs.Suits.{Suits}

-- a fact of states
abbrev pub Fact : Type 1
Fact = Application → State → Type 0

-- from a state with the one fact, each step comes to a state with the other; and a start from tables that suit does
pub record Leads (from to : Fact) : Type 0 where
  pub turns : (app : Application) (s : State) (task : ℕ) → IsApplication app → IsWithin 1 app.generation.limits.tasks task → from app s → to app (turn_of app s task).after
  pub commands : (app : Application) (s : State) (c : Command) → IsApplication app → IsCommandOf app.generation c → from app s → to app (command_of app s c).after
  pub starts : (app : Application) (t : TableRows) → IsApplication app → IsSortedTables t → Suits app.generation t → to app (started app t)

-- both kinds of facts of a state
abbrev pub HasFacts : Fact
HasFacts app s = IsConsistent app s × IsSoundState app s

-- the script's names are those of the generation
abbrev pub IsScriptOf : Application → List Command → Type 0
IsScriptOf app script = All (IsCommandOf app.generation) script

-- from a state with the fact, each step of a script comes to one with it
abbrev pub HoldsAlong : Fact → Type 0
HoldsAlong fact = (app : Application) (s : State) (script : List Command) → IsApplication app → IsScriptOf app script → fact app s → All (λ (d : ScriptStep). fact app d.after) (history app s script)
