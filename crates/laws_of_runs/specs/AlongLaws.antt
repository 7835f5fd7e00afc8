-- Laws: what each step from a state with its facts meets, each step of a script meets.
use Rattle.std.specs.Prelude.{ℕ}
use Rattle.abstract_monitor.specs.State.{Application, State}
use Rattle.abstract_monitor.specs.Turns.{turn_of}
use Rattle.abstract_monitor.specs.declared.command.Command.{Command}
use Rattle.abstract_monitor.specs.Commands.{turned_step, command_of}
use Rattle.laws_of_states.specs.Keeping.{Leads, HasFacts}
use Rattle.laws_of_states.specs.Along.{StepLaw}
use Rattle.laws_of_states.specs.AlongLaws.{meets_along as meets_along_from}
use Rattle.laws_of_runs.specs.Along.{MeetsAlong}

-- each turn and each command from a state with its facts meets the law
pub record EachMeets (law : StepLaw) : Type 0 where
  pub turns : (app : Application) (s : State) (task : ℕ) → HasFacts app s → law app s (turned_step (turn_of app s task))
  pub commands : (app : Application) (s : State) (c : Command) → HasFacts app s → law app s (command_of app s c)

pub meets_along : (law : StepLaw) → Leads HasFacts HasFacts → EachMeets law → MeetsAlong law
meets_along law kept each = meets_along_from HasFacts kept law (record { turns = λ app s task _ _ h. each.turns app s task h; commands = λ app s c _ _ h. each.commands app s c h })
