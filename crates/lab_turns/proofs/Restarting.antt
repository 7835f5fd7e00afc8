-- A start, and a restart from the durable tables.
use Rattle.std.proofs.Common.{◌≡◌, [], ◌∷◌, refl, sym, ap, subst, ◌∙◌}
use Rattle.kdcs_types.specs.declared.act.Act.TheVariants.{Emit}
use Rattle.kdcs_types.specs.Tables.{TableRows}
use Rattle.abstract_monitor.specs.declared.command.Command.TheVariants.{Restart}
use Rattle.abstract_monitor.specs.Commands.{command_of, started}
use Rattle.abstract_monitor.specs.Endings.{durable}
use Rattle.abstract_monitor.specs.Lines.{restart_line}
use Rattle.abstract_monitor.specs.State.{Application, State}
use Rattle.laws_of_states.specs.Applications.{IsApplication}
use Rattle.laws_of_states.specs.Keeping.{HasFacts}
use Rattle.laws_of_states.specs.Suits.{Suits}
use Rattle.laws_of_states.specs.TablesStayLaws.{started_tables}
use Rattle.laws_of_states.specs.EndsLaws.{durable_same}
use Rattle.monitor_core.specs.CoreSteps.{durable_of}
use Rattle.monitor_core.specs.CoreValue.{CoreValue}
use Rattle.lab_turns.specs.Running.{IsBeside}

-- a core that started from tables that suit has them as its durable ones
pub starts_beside : (app : Application) (t u : TableRows) (c : CoreValue) → Suits app.generation t → IsApplication c.application → HasFacts c.application c.state → c.application ≡ app → c.state ≡ started c.application t → u ≡ t → IsBeside c u
starts_beside app t u c suits application facts is at same = record {
  application = application;
  facts = facts;
  durable =
      same
      ∙ sym
      (ap (λ (s : State). durable c.application.generation s.tables) at
      ∙ ap (durable c.application.generation) (started_tables c.application t)
      ∙ durable_same c.application.generation t (subst (λ (a : Application). Suits a.generation t) (sym is) suits));
}

pub state_again : (c : CoreValue) → started c.application (durable_of c) ≡ (command_of c.application c.state Restart).after
unfolding command_of
state_again c = refl

pub acts_again : (c : CoreValue) → Emit restart_line ∷ [] ≡ (command_of c.application c.state Restart).acts
unfolding command_of
acts_again c = refl
