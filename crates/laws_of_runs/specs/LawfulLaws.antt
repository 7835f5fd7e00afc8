-- Laws: every step of a run is lawful: its commit, if it makes one, makes the tables after it, meets the laws on jobs and on services' rows, and is what its record, run in one go, makes.
use Rattle.std.specs.Prelude.{List, [], ◌∷◌}
use Rattle.abstract_monitor.specs.State.{Application, State}
use Rattle.abstract_monitor.specs.Commands.{ScriptStep}
use Rattle.laws_of_states.specs.Steps.{CommitsOnce, MakesItsTables}
use Rattle.laws_of_states.specs.EachStep.{EachStep}
use Rattle.laws_of_runs.specs.SerialLaws.{IsSerialStep}
use Rattle.laws_of_runs.specs.QueueLaws.{KeepsQueues, SendsAtPoints}
use Rattle.laws_of_runs.specs.Lawful.{IsLawful}

pub all_lawful : (app : Application) (s : State) (steps : List ScriptStep)
    → EachStep (CommitsOnce app) s steps → EachStep (MakesItsTables app) s steps → EachStep (KeepsQueues app) s steps → EachStep (IsSerialStep app) s steps → EachStep (SendsAtPoints app) s steps
    → IsLawful app s steps
all_lawful app s [] once tables queues serial messages = tt
all_lawful app s (d ∷ ds) once tables queues serial messages = (
  record { once = once.0; tables = tables.0; queues = queues.0; serial = serial.0; messages = messages.0 },
  all_lawful app d.after ds once.1 tables.1 queues.1 serial.1 messages.1,
)
