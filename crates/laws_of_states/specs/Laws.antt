-- What a step keeps: from a state with both kinds of facts each turn and each command comes to a consistent one, and so does a start.
use Rattle.std.specs.Prelude.{ℕ}
use Rattle.kdcs_types.specs.Tables.{TableRows, IsSortedTables}
use Rattle.application_types.specs.Statements.{IsWithin}
use Rattle.abstract_monitor.specs.declared.command.Command.{Command}
use Rattle.abstract_monitor.specs.Commands.{started, command_of}
use Rattle.abstract_monitor.specs.State.{Application, State}
use Rattle.abstract_monitor.specs.Turns.{turn_of}
use Rattle.laws_of_states.specs.Applications.{IsApplication}
use Rattle.abstract_monitor.specs.CommandsOf.{IsCommandOf}
use Rattle.laws_of_states.specs.Facts.{IsConsistent, IsSoundState}
use Rattle.laws_of_states.specs.Keeping.{Leads, HasFacts, HoldsAlong}
use Rattle.laws_of_states.specs.Suits.{Suits}

abbrev pub TurnsStayConsistent : Type 0
TurnsStayConsistent =
    (app : Application) (s : State) (task : ℕ) → IsApplication app → IsWithin 1 app.generation.limits.tasks task → HasFacts app s → IsConsistent app (turn_of app s task).after

abbrev pub CommandsStayConsistent : Type 0
CommandsStayConsistent =
    (app : Application) (s : State) (c : Command) → IsApplication app → IsCommandOf app.generation c → HasFacts app s → IsConsistent app (command_of app s c).after

abbrev pub StartsAreConsistent : Type 0
StartsAreConsistent = (app : Application) (t : TableRows) → IsApplication app → IsSortedTables t → Suits app.generation t → IsConsistent app (started app t)

-- where each step and each start makes tables and transactions sound, each has both kinds of facts
abbrev pub SoundStepsKeepFacts : Type 0
SoundStepsKeepFacts = Leads HasFacts (λ app s. IsSoundState app s) → Leads HasFacts HasFacts

-- and then so has each state of a script
abbrev pub FactsHoldAlong : Type 0
FactsHoldAlong = Leads HasFacts HasFacts → HoldsAlong HasFacts
