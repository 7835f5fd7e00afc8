-- What each step of a script makes of the durable tables: it has at most one commit, which is first and is the difference that the step makes.
use Rattle.std.specs.Prelude.{◌≡◌, ◌⊎◌, ℕ, List, [], ◌∷◌, Some, None}
use Rattle.kdcs_types.specs.declared.act.Act.{Act}
use Rattle.kdcs_types.specs.declared.act.Act.TheVariants.{Commit, Emit}
use Rattle.kdcs_types.specs.Tables.{IsSortedTables}
use Rattle.abstract_monitor.specs.State.{Application, State}
use Rattle.abstract_monitor.specs.Endings.{durable}
use Rattle.abstract_monitor.specs.Turns.{commit_of, turn_of}
use Rattle.abstract_monitor.specs.declared.command.Command.{Command}
use Rattle.abstract_monitor.specs.Commands.{ScriptStep, Maker, turned_step, command_of}
use Rattle.abstract_monitor.specs.Trace.{tables_after}

-- lines alone
abbrev pub AreLines : List Act → Type 0
AreLines [] = Unit {0}
AreLines (Emit bytes ∷ acts) = AreLines acts
AreLines (Commit changes ∷ acts) = ⊥

-- nothing durable changes hands
pub record MakesNoCommit (app : Application) (before : State) (d : ScriptStep) : Type 0 where
  pub by : d.by ≡ None
  pub lines : AreLines d.acts
  pub tables : durable app.generation d.after.tables ≡ durable app.generation before.tables

-- one commit, with what made it, turns the durable tables before the step into those after it, and its lines follow
pub record MakesOneCommit (app : Application) (before : State) (d : ScriptStep) : Type 0 where
  pub maker : Maker
  pub by : d.by ≡ Some maker
  pub rest : List Act
  pub acts : d.acts ≡ commit_of app before.tables d.after.tables ∷ rest
  pub lines : AreLines rest

-- a step makes no commit or one
abbrev pub CommitsOnce : Application → State → ScriptStep → Type 0
CommitsOnce app before d = MakesNoCommit app before d ⊎ MakesOneCommit app before d

-- each turn and each command does
abbrev pub TurnsCommitOnce : Type 0
TurnsCommitOnce = (app : Application) (s : State) (task : ℕ) → CommitsOnce app s (turned_step (turn_of app s task))

abbrev pub CommandsCommitOnce : Type 0
CommandsCommitOnce = (app : Application) (s : State) (c : Command) → CommitsOnce app s (command_of app s c)

-- the commit of a step makes of the durable tables before it those after it; a step without one keeps them
abbrev pub MakesItsTables : Application → State → ScriptStep → Type 0
MakesItsTables app before d = tables_after (durable app.generation before.tables) d.acts ≡ durable app.generation d.after.tables

-- each step does, where both tables are in order
abbrev pub StepsMakeTheirTables : Type 0
StepsMakeTheirTables =
    (app : Application) (before : State) (d : ScriptStep)
    → IsSortedTables before.tables
    → IsSortedTables d.after.tables
    → CommitsOnce app before d
    → MakesItsTables app before d
