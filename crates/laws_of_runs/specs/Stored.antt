-- Which steps of a run made the acts that are done.
use Rattle.std.specs.Prelude.{◌≡◌, List, ◌++◌, length}
use Rattle.kdcs_types.specs.declared.act.Act.{Act}
use Rattle.abstract_monitor.specs.Commands.{ScriptStep}
use Rattle.laws_of_states.specs.Cut.{commits_in}
use Rattle.laws_of_runs.specs.SerialRuns.{makers_of}

-- the first steps of a history whose commits are those of the acts done: as many makers as commits, and both are first ones of the same history
pub record StepsDone (steps : List ScriptStep) (done : List Act) : Type 0 where
  pub first : List ScriptStep
  pub rest : List ScriptStep
  pub whole : steps ≡ first ++ rest
  pub commits : length (makers_of first) ≡ commits_in done
