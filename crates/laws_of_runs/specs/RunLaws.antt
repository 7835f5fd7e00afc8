-- What holds of every run of the abstract monitor: the facts of its states, and the tables that its commits make.
use Rattle.std.specs.Prelude.{◌≡◌, List}
use Rattle.kdcs_types.specs.Tables.{TableRows, IsSortedTables}
use Rattle.abstract_monitor.specs.State.{Application, State}
use Rattle.abstract_monitor.specs.Endings.{durable}
use Rattle.abstract_monitor.specs.declared.command.Command.{Command}
use Rattle.abstract_monitor.specs.Commands.{started, state_after}
use Rattle.abstract_monitor.specs.Trace.{history, trace, tables_after}
use Rattle.laws_of_states.specs.Applications.{IsApplication}
use Rattle.laws_of_states.specs.EachStep.{EachStep}
use Rattle.laws_of_states.specs.Keeping.{HasFacts, HoldsAlong, IsScriptOf}
use Rattle.laws_of_states.specs.Steps.{CommitsOnce, MakesItsTables}
use Rattle.laws_of_states.specs.Suits.{Suits}

-- a start from tables that suit has the facts
abbrev pub StartsHaveFacts : Type 0
StartsHaveFacts = (app : Application) (t : TableRows) → IsApplication app → IsSortedTables t → Suits app.generation t → HasFacts app (started app t)

-- and so has each state of a script
abbrev pub ScriptsKeepFacts : Type 0
ScriptsKeepFacts = HoldsAlong HasFacts

-- each step of a script commits once at most
abbrev pub HistoriesCommitOnce : Type 0
HistoriesCommitOnce = (app : Application) (s : State) (script : List Command) → EachStep (CommitsOnce app) s (history app s script)

-- the commit of each step of a script, from a state with its facts, makes of the durable tables before the step those after it; a step without one keeps them
abbrev pub HistoriesMakeTables : Type 0
HistoriesMakeTables =
    (app : Application) (s : State) (script : List Command) → IsApplication app → IsScriptOf app script → HasFacts app s → EachStep (MakesItsTables app) s (history app s script)

-- the commits of a script make, one after another, the durable tables of the state that it comes to
abbrev pub CommitsMakeTables : Type 0
CommitsMakeTables =
    (app : Application) (t : TableRows) (script : List Command) → IsApplication app → IsScriptOf app script → IsSortedTables t → Suits app.generation t
    → tables_after (durable app.generation t) (trace app t script) ≡ durable app.generation (state_after (started app t) (history app (started app t) script)).tables
