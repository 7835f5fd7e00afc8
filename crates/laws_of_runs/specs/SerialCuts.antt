-- Whatever a stop leaves is stored by a serial run of the commits that are done.
use Rattle.std.specs.Prelude.{◌≡◌, List, ◌++◌}
use Rattle.kdcs_types.specs.declared.act.Act.{Act}
use Rattle.kdcs_types.specs.Tables.{TableRows, IsSortedTables}
use Rattle.abstract_monitor.specs.declared.command.Command.{Command}
use Rattle.abstract_monitor.specs.Commands.{started}
use Rattle.abstract_monitor.specs.Endings.{durable}
use Rattle.abstract_monitor.specs.State.{Application}
use Rattle.abstract_monitor.specs.Trace.{history, trace, tables_after}
use Rattle.laws_of_states.specs.Applications.{IsApplication}
use Rattle.laws_of_states.specs.Keeping.{IsScriptOf}
use Rattle.laws_of_states.specs.Suits.{Suits}
use Rattle.laws_of_runs.specs.SerialRuns.{MakeInTurn, makers_of}
use Rattle.laws_of_runs.specs.Stored.{StepsDone}

-- what is stored after some first acts of a run is what the makers of the commits among them make one after another
pub record IsSerialCut (app : Application) (t : TableRows) (script : List Command) (done : List Act) : Type 0 where
  pub steps : StepsDone (history app (started app t) script) done
  pub run : MakeInTurn app (durable app.generation t) (tables_after (durable app.generation t) done) (makers_of steps.first)

abbrev pub CutsAreSerial : Type 0
CutsAreSerial =
    (app : Application) (t : TableRows) (script : List Command) → IsApplication app → IsScriptOf app script → IsSortedTables t → Suits app.generation t
    → (done left : List Act) → trace app t script ≡ done ++ left → IsSerialCut app t script done
