-- Laws that the commands of a call keep, from whatever tables it goes on.
use Rattle.std.specs.Prelude.{◌≡◌, List, ◌++◌}
use Rattle.kdcs_types.specs.Tables.{TableRows, IsSortedTables}
use Rattle.kdcs_types.specs.declared.act.Act.{Act}
use Rattle.abstract_monitor.specs.State.{Application}
use Rattle.abstract_monitor.specs.declared.command.Command.{Command}
use Rattle.abstract_monitor.specs.Commands.{started}
use Rattle.abstract_monitor.specs.Endings.{durable}
use Rattle.abstract_monitor.specs.Trace.{history, trace}
use Rattle.laws_of_states.specs.Applications.{IsApplication}
use Rattle.laws_of_states.specs.EachStep.{EachStep}
use Rattle.laws_of_states.specs.Keeping.{IsScriptOf}
use Rattle.laws_of_states.specs.Suits.{Suits}
use Rattle.laws_of_runs.specs.Lawful.{IsLawful}
use Rattle.laws_of_runs.specs.ManyRuns.{StoppedRun, AreRunsFrom, RunsKeepJobs}
use Rattle.laws_of_runs.specs.QueueLaws.{JobsAreKept}
use Rattle.laws_of_runs.specs.ResumeLaws.{CutResumes}
use Rattle.laws_of_runs.specs.SerialCuts.{IsSerialCut}
use Rattle.laws_of_runs.specs.Access.{KeepsAccess, HasNoLocks, IsWithoutRule, RunsAsKeyless}

-- every step of the script is lawful, begins only services that the rule of locks and keys allows, and jobs are kept from each of its states to each later one; wherever a stop cuts its acts, what is stored are tables from which all services go on, and a serial run of the commits that are done stores the same; and jobs are kept over runs of any scripts one after another
pub record RunsLawfully (app : Application) (t : TableRows) (script : List Command) : Type 0 where
  -- all rows of the first tables outlive a stop
  pub lasting : durable app.generation t ≡ t
  pub steps : IsLawful app (started app t) (history app (started app t) script)
  -- who may start what
  pub access : EachStep (KeepsAccess app) (started app t) (history app (started app t) script)
  pub ruleless : HasNoLocks app.generation → IsWithoutRule app.generation
  pub keyless_runs : HasNoLocks app.generation → RunsAsKeyless app
  pub jobs : JobsAreKept app (started app t) (history app (started app t) script)
  pub resumes : (done left : List Act) → trace app t script ≡ done ++ left → CutResumes app t script done
  pub serial : (done left : List Act) → trace app t script ≡ done ++ left → IsSerialCut app t script done
  pub runs : (runs : List StoppedRun) → AreRunsFrom app t runs → RunsKeepJobs app t runs

-- from tables that suit an application, all scripts of its names run so
abbrev pub ScriptsRunLawfully : Type 0
ScriptsRunLawfully = (app : Application) → IsApplication app → (t : TableRows) → IsSortedTables t → Suits app.generation t → (script : List Command) → IsScriptOf app script → RunsLawfully app t script
