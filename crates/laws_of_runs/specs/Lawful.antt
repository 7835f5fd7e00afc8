-- Every step of a run is lawful: its commit, if it makes one, makes the tables after it, meets the laws on jobs and on services' rows, and is what its record, run in one go, makes.
use Rattle.std.specs.Prelude.{List}
use Rattle.kdcs_types.specs.Tables.{TableRows, IsSortedTables}
use Rattle.abstract_monitor.specs.State.{Application, State}
use Rattle.abstract_monitor.specs.declared.command.Command.{Command}
use Rattle.abstract_monitor.specs.Commands.{ScriptStep, started}
use Rattle.abstract_monitor.specs.Trace.{history}
use Rattle.laws_of_states.specs.Applications.{IsApplication}
use Rattle.laws_of_states.specs.Keeping.{IsScriptOf}
use Rattle.laws_of_states.specs.Steps.{CommitsOnce, MakesItsTables}
use Rattle.laws_of_states.specs.Suits.{Suits}
use Rattle.laws_of_states.specs.EachStep.{EachStep}
use Rattle.laws_of_runs.specs.SerialLaws.{HasReplays, IsSerialStep}
use Rattle.laws_of_runs.specs.QueueLaws.{KeepsQueues, SendsAtPoints}

-- a step of a run, after the state before it
pub record IsLawfulStep (app : Application) (before : State) (d : ScriptStep) : Type 0 where
  -- without a maker it makes no commit; with one it makes one, first of its acts
  pub once : CommitsOnce app before d
  -- the commit turns the durable tables before the step into those after it; without one they stay
  pub tables : MakesItsTables app before d
  -- the commit meets the laws on jobs and on services' rows
  pub queues : KeepsQueues app before d
  -- the commit of a transaction is what its record, run in one go, makes
  pub serial : IsSerialStep app before d
  -- a point that awaits an input sends after its commit the message that its row keeps
  pub messages : SendsAtPoints app before d

-- each step, after the state before it
abbrev pub IsLawful : Application → State → List ScriptStep → Type 0
IsLawful app s steps = EachStep (IsLawfulStep app) s steps

-- from a state whose transactions replay to themselves
abbrev pub HistoriesAreLawful : Type 0
HistoriesAreLawful = (app : Application) (s : State) (script : List Command) → IsApplication app → IsScriptOf app script → HasReplays app s → IsLawful app s (history app s script)

-- and so from tables that suit
abbrev pub RunsAreLawful : Type 0
RunsAreLawful =
    (app : Application) (t : TableRows) (script : List Command) → IsApplication app → IsScriptOf app script → IsSortedTables t → Suits app.generation t
    → IsLawful app (started app t) (history app (started app t) script)
