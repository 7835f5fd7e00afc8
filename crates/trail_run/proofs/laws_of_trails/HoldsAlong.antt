-- The entries of every script from tables that suit hold, one after another.
use Rattle.std.specs.Prelude.{◌≡◌, refl, List, [], ◌∷◌, Option, Some, None}
use Rattle.std.proofs.Common.{ap, ◌∙◌, subst}
use Rattle.std.specs.List.{cons_option}
use Rattle.kdcs_types.specs.Tables.{TableRows, IsSortedTables}
use Rattle.abstract_monitor.specs.declared.command.Command.{Command}
use Rattle.abstract_monitor.specs.Commands.{ScriptStep, command_of, started, state_after, turned_step}
use Rattle.abstract_monitor.specs.Endings.{durable}
use Rattle.abstract_monitor.specs.State.{Application, State}
use Rattle.abstract_monitor.specs.Trace.{history}
use Rattle.abstract_monitor.specs.Turns.{turn_of}
use Rattle.laws_of_states.specs.Applications.{IsApplication}
use Rattle.laws_of_states.specs.EachStep.{EachStep}
use Rattle.laws_of_states.specs.Keeping.{IsScriptOf, Leads}
use Rattle.laws_of_states.specs.Steps.{TurnsCommitOnce, CommandsCommitOnce}
use Rattle.laws_of_states.specs.Suits.{Suits}
use Rattle.laws_of_states.specs.TablesStayLaws.{started_tables}
use Rattle.laws_of_states.specs.AlongLaws.{EachMeets, meets_along}
use Rattle.laws_of_runs.specs.SerialLaws.{StepsKeepReplays}
use Rattle.laws_of_runs.specs.SerialRuns.{TurnsMakeTheirCommits, CommandsMakeTheirCommits}
use Rattle.laws_of_runs.specs.QueueLaws.{TurnsDoSo, CommandsDoSo}
use Rattle.laws_of_states.specs.EndsLaws.{durable_same}
use Rattle.audit_trail.specs.declared.entry.TrailEntry.{TrailEntry}
use Rattle.trail_run.specs.Entries.{entries_in, entry_in}
use Rattle.trail_run.specs.HoldsFacts.{HasRecords, HoldsBetween, HoldsInStep}
use Rattle.trail_run.specs.InTurn.{AllHold, HoldInTurn}
use Rattle.trail_run.proofs.laws_of_trails.HoldsCommands.{steps_keep_records}
use Rattle.trail_run.proofs.laws_of_trails.HoldsEntries.{step_holds}

-- ---- steps one after another

-- an entry, if there is one, and those after it
in_turn : (app : Application) (before between after : TableRows) (entry : Option TrailEntry) (rest : List TrailEntry) → HoldsBetween app before between entry → HoldInTurn app between rest after
    → HoldInTurn app before (cons_option entry rest) after
in_turn app before between after None rest same hold = subst (λ (t : TableRows). HoldInTurn app t rest after) same hold
in_turn app before between after (Some entry) rest here hold = (between, (here, hold))

steps_hold : (app : Application) (s : State) (steps : List ScriptStep) → EachStep (HoldsInStep app) s steps
    → HoldInTurn app (durable app.generation s.tables) (entries_in steps) (durable app.generation (state_after s steps).tables)
unfolding state_after
steps_hold app s [] each = refl
steps_hold app s (d ∷ ds) each =
    in_turn app (durable app.generation s.tables) (durable app.generation d.after.tables) (durable app.generation (state_after d.after ds).tables) (entry_in d) (entries_in ds) each.0
    (steps_hold app d.after ds each.1)

-- ---- laws that it stands on

-- what each turn and each command does
pub record StepLaws : Type 0 where
  pub keep : StepsKeepReplays
  pub turns_once : TurnsCommitOnce
  pub commands_once : CommandsCommitOnce
  pub turns_do : TurnsDoSo
  pub commands_do : CommandsDoSo
  pub turns_make : TurnsMakeTheirCommits
  pub commands_make : CommandsMakeTheirCommits

module _ (laws : StepLaws) where
  keeps : Leads HasRecords HasRecords
  keeps = steps_keep_records laws.keep

  each : EachMeets HasRecords HoldsInStep
  each = record {
    turns = λ app s task is_app within h.
        step_holds app s h (turned_step (turn_of app s task)) (keeps.turns app s task is_app within h).0.0
        (laws.turns_once app s task) (laws.turns_do app s task) (laws.turns_make app s task h.0);
    commands = λ app s c is_app fits h.
        step_holds app s h (command_of app s c) (keeps.commands app s c is_app fits h).0.0
        (laws.commands_once app s c) (laws.commands_do app s c) (laws.commands_make app s c h.0);
  }

  pub entries_hold : (app : Application) (t : TableRows) (script : List Command) → IsApplication app → IsScriptOf app script → IsSortedTables t → Suits app.generation t
      → AllHold app t (entries_in (history app (started app t) script))
  entries_hold app t script application fits order suits =
      let steps = history app (started app t) script in
      let hold = steps_hold app (started app t) steps (meets_along HasRecords keeps HoldsInStep each app (started app t) script application fits (keeps.starts app t application order suits)) in
      let start : durable app.generation (started app t).tables ≡ t = ap (durable app.generation) (started_tables app t) ∙ durable_same app.generation t suits in
      (durable app.generation (state_after (started app t) steps).tables, subst (λ (u : TableRows). HoldInTurn app u (entries_in steps) (durable app.generation (state_after (started app t) steps).tables)) start hold)
