-- What each step keeps, and what each step meets, along every script.
use Rattle.std.specs.Prelude.{List}
use Rattle.abstract_monitor.specs.declared.command.Command.{Command}
use Rattle.abstract_monitor.specs.Commands.{ScriptStep}
use Rattle.abstract_monitor.specs.State.{Application, State}
use Rattle.abstract_monitor.specs.Trace.{history}
use Rattle.laws_of_states.specs.Applications.{IsApplication}
use Rattle.laws_of_states.specs.EachStep.{EachStep}
use Rattle.laws_of_states.specs.Keeping.{Fact, IsScriptOf}

-- a law on a step, with the state before it
abbrev pub StepLaw : Type 1
StepLaw = Application → State → ScriptStep → Type 0

-- from a state with the fact, each step of a script meets the law
abbrev pub MeetsAlong : Fact → StepLaw → Type 0
MeetsAlong fact law = (app : Application) (s : State) (script : List Command) → IsApplication app → IsScriptOf app script → fact app s → EachStep (law app) s (history app s script)
