-- Steps one after another.
use Rattle.std.specs.Prelude.{◌≡◌, refl, ℕ, zero, suc, ◌==◌, Bool, true, false, List, [], ◌∷◌, All}
use Rattle.std.proofs.Common.{ap, ◌∙◌}
use Rattle.std.proofs.lemmas.List.Elements.{All-head, All-tail}
use Rattle.kdcs_types.specs.Tables.{IsSortedTables}
use Rattle.abstract_monitor.specs.State.{Application, State}
use Rattle.abstract_monitor.specs.Endings.{durable}
use Rattle.abstract_monitor.specs.Turns.{turn_of}
use Rattle.abstract_monitor.specs.declared.command.Command.{Command}
use Rattle.abstract_monitor.specs.declared.command.Command.TheVariants.{Input, Tick, Run, Turn, Drop, Print, PrintLast, Restart}
use Rattle.abstract_monitor.specs.Commands.{ScriptStep, rotated, next_task, in_a_row, steps_of, state_after, acts_of}
use Rattle.abstract_monitor.specs.Trace.{history, tables_after}
use Rattle.laws_of_states.specs.Keeping.{HasFacts}
use Rattle.laws_of_states.specs.Steps.{CommitsOnce, MakesItsTables, TurnsCommitOnce, CommandsCommitOnce, StepsMakeTheirTables}
use Rattle.laws_of_states.specs.EachStep.{EachStep}
use Rattle.laws_of_states.specs.EachStepLaws.{each_both}
use Rattle.laws_of_runs.specs.ListsLaws.{tables_both}

module _ (turns : TurnsCommitOnce) (commands : CommandsCommitOnce) (app : Application) where
  rotated_once : (n : ℕ) (ended : Bool) (s : State) (task row : ℕ) → EachStep (CommitsOnce app) s (rotated app n ended s task row)
  unfolding rotated
  rotated_once zero ended s task row = tt
  rotated_once (suc n) true s task row = tt
  rotated_once (suc n) false s task row =
      let turned = turn_of app s task in
      let more = in_a_row turned.moved row in
      (turns app s task, rotated_once n (more == app.generation.limits.tasks) turned.after (next_task app task) more)

  steps_once : (s : State) (c : Command) → EachStep (CommitsOnce app) s (steps_of app s c)
  unfolding steps_of
  steps_once s (Run n) = rotated_once n false s 1 0
  steps_once s (Input pterm text) = (commands app s (Input pterm text), tt)
  steps_once s (Tick ticks) = (commands app s (Tick ticks), tt)
  steps_once s (Turn task) = (commands app s (Turn task), tt)
  steps_once s (Drop pterm) = (commands app s (Drop pterm), tt)
  steps_once s (Print pterm) = (commands app s (Print pterm), tt)
  steps_once s (PrintLast pterm) = (commands app s (PrintLast pterm), tt)
  steps_once s Restart = (commands app s Restart, tt)

  pub history_once : (s : State) (script : List Command) → EachStep (CommitsOnce app) s (history app s script)
  unfolding history
  history_once s [] = tt
  history_once s (c ∷ cs) = each_both (CommitsOnce app) s (steps_of app s c) _ (steps_once s c) (history_once (state_after s (steps_of app s c)) cs)

-- ---- tables

module _ (makes : StepsMakeTheirTables) (app : Application) where
  abbrev Facts : ScriptStep → Type 0
  Facts d = HasFacts app d.after

  pub each_makes : (s : State) (steps : List ScriptStep) → IsSortedTables s.tables → EachStep (CommitsOnce app) s steps → All Facts steps → EachStep (MakesItsTables app) s steps
  each_makes s [] sorted once facts = tt
  each_makes s (d ∷ ds) sorted once facts =
      let here = All-head Facts d ds facts in (makes app s d sorted here.1.order once.0, each_makes d.after ds here.1.order once.1 (All-tail Facts d ds facts))

-- what each step makes, all of them make together
pub tables_made : (app : Application) (s : State) (steps : List ScriptStep) → EachStep (MakesItsTables app) s steps
    → tables_after (durable app.generation s.tables) (acts_of steps) ≡ durable app.generation (state_after s steps).tables
unfolding state_after tables_after
tables_made app s [] made = refl
tables_made app s (d ∷ ds) made =
    tables_both (durable app.generation s.tables) d.acts (acts_of ds) ∙ ap (λ t. tables_after t (acts_of ds)) made.0 ∙ tables_made app d.after ds made.1
