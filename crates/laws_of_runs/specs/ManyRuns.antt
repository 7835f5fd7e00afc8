-- Several runs one after another, each from what a stop of the one before left: no number is drawn twice, and no job is lost or done twice over all of them.
use Rattle.std.specs.Prelude.{◌≡◌, ◌⊎◌, List, [], ◌∷◌, ◌++◌}
use Rattle.kdcs_types.specs.declared.act.Act.{Act}
use Rattle.kdcs_types.specs.declared.service.Job.{Job}
use Rattle.kdcs_types.specs.Tables.{TableRows, IsSortedTables}
use Rattle.abstract_monitor.specs.State.{Application}
use Rattle.abstract_monitor.specs.Endings.{durable}
use Rattle.abstract_monitor.specs.declared.command.Command.{Command}
use Rattle.abstract_monitor.specs.Commands.{started}
use Rattle.abstract_monitor.specs.Trace.{history, trace, tables_after}
use Rattle.laws_of_states.specs.Applications.{IsApplication}
use Rattle.laws_of_states.specs.Keeping.{IsScriptOf}
use Rattle.laws_of_states.specs.Suits.{Suits}
use Rattle.laws_of_runs.specs.QueueLaws.{KeepsJobs, IsTakenIn}
use Rattle.laws_of_runs.specs.Stored.{StepsDone}

-- the script of a run, and the acts that were done when it stopped
pub record StoppedRun : Type 0 where
  pub script : List Command
  pub done : List Act

-- it started from these tables, and its acts are first ones of its script
pub record IsRunFrom (app : Application) (t : TableRows) (run : StoppedRun) : Type 0 where
  pub names : IsScriptOf app run.script
  pub left : List Act
  pub whole : trace app t run.script ≡ run.done ++ left

-- what it left stored
abbrev pub left_by : Application → TableRows → StoppedRun → TableRows
left_by app t run = tables_after (durable app.generation t) run.done

-- each started from what the one before left
abbrev pub AreRunsFrom : Application → TableRows → List StoppedRun → Type 0
AreRunsFrom app t [] = Unit {0}
AreRunsFrom app t (run ∷ runs) = IsRunFrom app t run × AreRunsFrom app (left_by app t run) runs

-- what the last one left
abbrev pub left_by_all : Application → TableRows → List StoppedRun → TableRows
left_by_all app t [] = t
left_by_all app t (run ∷ runs) = left_by_all app (left_by app t run) runs

-- a commit that the run stored took the job
pub record TookJob (app : Application) (t : TableRows) (run : StoppedRun) (job : Job) : Type 0 where
  pub steps : StepsDone (history app (started app t) run.script) run.done
  pub taken : IsTakenIn app steps.first job

-- one of the runs did
abbrev pub OneTookJob : Application → TableRows → List StoppedRun → Job → Type 0
OneTookJob app t [] job = ⊥
OneTookJob app t (run ∷ runs) job = TookJob app t run job ⊎ OneTookJob app (left_by app t run) runs job

-- from the first tables to the last ones no number is drawn twice, and no job is lost or done twice; and a further run can start from the last ones
pub record RunsKeepJobs (app : Application) (t : TableRows) (runs : List StoppedRun) : Type 0 where
  pub jobs : KeepsJobs app.generation t (left_by_all app t runs) (OneTookJob app t runs)
  pub order : IsSortedTables (left_by_all app t runs)
  pub suits : Suits app.generation (left_by_all app t runs)

abbrev pub AllRunsKeepJobs : Type 0
AllRunsKeepJobs =
    (app : Application) (t : TableRows) (runs : List StoppedRun) → IsApplication app → IsSortedTables t → Suits app.generation t → AreRunsFrom app t runs → RunsKeepJobs app t runs
