-- A serial run: makers that change the durable tables one after another, with no services and no states between them.
use Rattle.std.specs.Prelude.{◌≡◌, ℕ, ◌+◌, ◌≤◌, List, [], ◌∷◌, ◌++◌, filter_map, IfSome, Contains}
use Rattle.kdcs_types.specs.declared.key.Target.TheVariants.{Lterm}
use Rattle.kdcs_types.specs.declared.service.Job.{Job}
use Rattle.kdcs_types.specs.Tables.{TableRows, IsSortedTables}
use Rattle.abstract_monitor.specs.declared.command.Command.{Command}
use Rattle.abstract_monitor.specs.Commands.{ScriptStep, Maker, ByTick, ByShow, ByTransaction, shown_tables, started, state_after, command_of, turned_step}
use Rattle.abstract_monitor.specs.Endings.{durable}
use Rattle.abstract_monitor.specs.State.{Application, State}
use Rattle.abstract_monitor.specs.Trace.{history}
use Rattle.abstract_monitor.specs.Turns.{turn_of}
use Rattle.laws_of_states.specs.Applications.{IsApplication}
use Rattle.laws_of_states.specs.Commits.{IsAtomicCommit}
use Rattle.laws_of_states.specs.Keeping.{IsScriptOf}
use Rattle.laws_of_states.specs.Suits.{Suits}
use Rattle.laws_of_runs.specs.SerialLaws.{HasReplays}

-- KDCOUT and PRINT show a due job of the LTERM
pub record Shows (before after : TableRows) (lterm : List ℕ) : Type 0 where
  pub job : Job
  pub there : Contains before.jobs job
  pub target : job.value.to ≡ Lterm lterm
  pub due : job.value.due ≤ before.clock
  pub shown : after ≡ shown_tables before lterm job

-- what a maker makes of durable tables: a transaction runs its record in one go
abbrev pub Makes : Application → (before after : TableRows) → Maker → Type 0
Makes app before after (ByTick ticks) = after ≡ record before { clock = before.clock + ticks }
Makes app before after (ByShow lterm) = Shows before after lterm
Makes app before after (ByTransaction kept) = IsAtomicCommit app before after kept

-- the makers, one after another, make the last tables of the first
abbrev pub MakeInTurn : Application → (before after : TableRows) → List Maker → Type 0
MakeInTurn app before after [] = after ≡ before
MakeInTurn app before after (maker ∷ makers) = (between : TableRows) × (Makes app before between maker × MakeInTurn app between after makers)

-- what made the commits of a history, in order
abbrev pub makers_of : List ScriptStep → List Maker
makers_of steps = filter_map (λ (d : ScriptStep). d.by) steps

-- ---- the laws

-- the commit of a step is what its maker makes
abbrev pub MakesItsCommit : Application → State → ScriptStep → Type 0
MakesItsCommit app s d = IfSome d.by (Makes app (durable app.generation s.tables) (durable app.generation d.after.tables))

abbrev pub TurnsMakeTheirCommits : Type 0
TurnsMakeTheirCommits = (app : Application) (s : State) (task : ℕ) → HasReplays app s → MakesItsCommit app s (turned_step (turn_of app s task))

abbrev pub CommandsMakeTheirCommits : Type 0
CommandsMakeTheirCommits = (app : Application) (s : State) (c : Command) → HasReplays app s → MakesItsCommit app s (command_of app s c)

-- serial equivalence: the durable tables that a script leaves, however its services interleave, are those that the makers of its commits make one after another
abbrev pub ScriptsAreSerialRuns : Type 0
ScriptsAreSerialRuns =
    (app : Application) (t : TableRows) (script : List Command) → IsApplication app → IsScriptOf app script → IsSortedTables t → Suits app.generation t
    → (let steps = history app (started app t) script in
    MakeInTurn app (durable app.generation t) (durable app.generation (state_after (started app t) steps).tables) (makers_of steps))

-- and so are those that the first steps of it leave: a stop after any step leaves a serial run too
abbrev pub StopsLeaveSerialRuns : Type 0
StopsLeaveSerialRuns =
    (app : Application) (t : TableRows) (script : List Command) → IsApplication app → IsScriptOf app script → IsSortedTables t → Suits app.generation t
    → (first rest : List ScriptStep) → history app (started app t) script ≡ first ++ rest
    → MakeInTurn app (durable app.generation t) (durable app.generation (state_after (started app t) first).tables) (makers_of first)
