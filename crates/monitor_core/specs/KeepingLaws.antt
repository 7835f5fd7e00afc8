-- Laws: the durable tables beside a core after a step of it.
use Rattle.std.specs.Prelude.{◌≡◌, ℕ, List, [], ◌∷◌}
use Rattle.std.proofs.Common.{inl, inr, sym, ap, subst, ◌∙◌}
use Rattle.kdcs_types.specs.declared.act.Act.{Act}
use Rattle.kdcs_types.specs.declared.act.Act.TheVariants.{Commit, Emit}
use Rattle.kdcs_types.specs.DifferenceLaws.{difference_changes}
use Rattle.kdcs_types.specs.Tables.{IsSortedTables, TableRows}
use Rattle.abstract_monitor.specs.Commands.{ScriptStep, started}
use Rattle.abstract_monitor.specs.Endings.{durable}
use Rattle.abstract_monitor.specs.State.{Application, State}
use Rattle.abstract_monitor.specs.Trace.{tables_after}
use Rattle.laws_of_states.specs.DurableLaws.{durable_again, durable_sorted}
use Rattle.laws_of_states.specs.TablesStayLaws.{started_tables}
use Rattle.laws_of_states.specs.Steps.{AreLines, CommitsOnce, StepsMakeTheirTables}
use Rattle.monitor_core.specs.CoreSteps.{durable_of}
use Rattle.abstract_monitor.specs.Turns.{Turned, turn_of}
use Rattle.service_ends.specs.declared.turned.Turned.{Turned as Did}
use Rattle.service_ends.specs.Ending.{turned_to}
use Rattle.monitor_core.specs.CoreValue.{CoreValue, OneStep}
use Rattle.monitor_core.specs.Keeping.{AreKept}
use Rattle.monitor_core.specs.Sinks.{DidTurn}

lines_are_kept : (acts : List Act) → AreLines acts → AreKept acts
lines_are_kept [] h = tt
lines_are_kept (Emit line ∷ acts) h = lines_are_kept acts h
lines_are_kept (Commit changes ∷ acts) h = absurd h

pub step_is_kept : (app : Application) (s : State) (d : ScriptStep) → IsSortedTables d.after.tables → CommitsOnce app s d → AreKept d.acts
step_is_kept app s d sorted (inl none) = lines_are_kept d.acts none.lines
step_is_kept app s d sorted (inr one) =
    subst AreKept (sym one.acts) (difference_changes (durable app.generation s.tables) (durable app.generation d.after.tables) (durable_sorted app.generation d.after.tables sorted), lines_are_kept one.rest one.lines)

module _ (make : StepsMakeTheirTables) (c d : CoreValue) (step : ScriptStep) (before : IsSortedTables c.state.tables) (after : IsSortedTables d.state.tables) (app : d.application ≡ c.application) (state : d.state ≡ step.after) (once : CommitsOnce c.application c.state step) (acts : List Act) (are : acts ≡ step.acts) where
  sorted : IsSortedTables step.after.tables
  sorted = subst (λ (s : State). IsSortedTables s.tables) state after

  pub acts_are_kept : AreKept acts
  acts_are_kept = subst AreKept (sym are) (step_is_kept c.application c.state step sorted once)

  -- the tables beside it are those after its commit
  pub durable_after : (t u : TableRows) → t ≡ durable_of c → u ≡ tables_after t acts → u ≡ durable_of d
  durable_after t u beside is =
      is
      ∙ (λ i. tables_after (beside i) (are i))
      ∙ make c.application c.state step before sorted once
      ∙ sym (λ i. durable (app i).generation (state i).tables)

-- what a turn came to, and whether it moved something
pub did_turn : (c : CoreValue) (task : ℕ) (d : CoreValue) (did : Did) → turned_to d.state did ≡ turn_of c.application c.state task → OneStep c d → DidTurn c task d did.moved
did_turn c task d did exact one = record { moved_is = ap (λ (t : Turned). t.moved) exact; state = ap (λ (t : Turned). t.after) exact; steps = one.steps }

-- a core that started again has the durable tables that it started from
pub durable_started : (c d : CoreValue) (t : TableRows) → t ≡ durable_of c → d.application ≡ c.application → d.state ≡ started d.application t → t ≡ durable_of d
durable_started c d t beside app state =
    beside
    ∙ sym (durable_again c.application.generation c.state.tables)
    ∙ ap (durable c.application.generation) (sym (started_tables c.application (durable_of c)))
    ∙ sym ((λ i. durable (app i).generation (state i).tables) ∙ (λ i. durable c.application.generation (started (app i) (beside i)).tables))
