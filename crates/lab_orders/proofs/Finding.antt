-- What the code of a search finds.
use Rattle.std.specs.Prelude.{true}
use Rattle.std.proofs.Common.{◌≡◌, List, [], refl, sym, ap, subst, ◌∙◌}
use Rattle.application_types.specs.Generation.{Generated}
use Rattle.kdcs_types.specs.Tables.{TableRows}
use Rattle.application_types.specs.Fitted.{FittedUnits, IsFit}
use Rattle.abstract_monitor.specs.declared.command.Command.{Command}
use Rattle.abstract_monitor.specs.Commands.{started}
use Rattle.abstract_monitor.specs.State.{Application, State}
use Rattle.abstract_monitor.specs.Endings.{durable}
use Rattle.laws_of_runs.specs.Applied.{applied}
use Rattle.laws_of_runs.specs.Replays.{AllReplay}
use Rattle.laws_of_states.specs.Keeping.{HasFacts, IsScriptOf}
use Rattle.laws_of_states.specs.Suits.{Suits}
use Rattle.laws_of_states.specs.TablesStayLaws.{started_tables}
use Rattle.laws_of_states.specs.EndsLaws.{durable_same}
use Rattle.monitor_core.specs.CoreValue.{CoreValue}
use Rattle.lab_orders.specs.declared.path.Path.{Path}
use Rattle.lab_orders.specs.declared.performed.Found.{Found}
use Rattle.lab_orders.specs.Finding.{CanStart, IsFound}
use Rattle.lab_orders.specs.Walking.{Begun, HasNoSigns, IsBeside}

-- ---- the application that comes back is the same

module _ (app : Application) (t : TableRows) (cs : List Command) (g : Generated) (units : FittedUnits) (can : CanStart app t cs g units) where
  pub start_again : CanStart (applied g units) t cs g units
  start_again = subst (λ (a : Application). CanStart a t cs g units) (sym can.application) can

  pub start_next : (h : Generated) (others : FittedUnits) → CanStart (applied g units) t cs h others → CanStart app t cs h others
  start_next h others next = subst (λ (a : Application). CanStart a t cs h others) can.application next

  -- and so is that of a core
  pub start_from : (c : CoreValue) → c.application ≡ app → (h : Generated) (others : FittedUnits) → c.application ≡ applied h others → IsFit h others → CanStart (applied h others) t cs h others
  start_from c same h others is fit =
      let here : app ≡ applied h others = sym same ∙ is in
      record {
        fit = fit;
        application = refl;
        suits = subst (λ (a : Application). Suits a.generation t) here can.suits;
        names = subst (λ (a : Application). IsScriptOf a cs) here can.names;
        tries = can.tries;
      }

  pub start_still : (c : CoreValue) → c.application ≡ app → (h : Generated) (others : FittedUnits) → c.application ≡ applied h others → IsFit h others → CanStart app t cs h others
  start_still c same h others is fit = record { fit = fit; application = sym is ∙ same; suits = can.suits; names = can.names; tries = can.tries }

  pub found_next : (found : Found) → IsFound (applied g units) t cs found → IsFound app t cs found
  found_next found is = subst (λ (a : Application). IsFound a t cs found) can.application is

-- ---- a start

-- a core that started from tables that suit is beside them
start_beside : (c : CoreValue) (p : Path) (t : TableRows) → HasFacts c.application c.state → AllReplay c.application c.state → c.state ≡ started c.application t → Suits c.application.generation t → p.durable ≡ t → IsBeside c p
start_beside c p t facts replays state suits same = record {
  facts = facts;
  replays = replays;
  durable =
      same
      ∙ sym (durable_same c.application.generation t suits)
      ∙ ap (durable c.application.generation) (sym (ap (λ (s : State). s.tables) state ∙ started_tables c.application t));
}

pub begun : (g : Generated) (units : FittedUnits) (t : TableRows) (c : CoreValue) (p : Path) → c.application ≡ applied g units → c.state ≡ started c.application t → HasFacts c.application c.state → AllReplay c.application c.state → c.steps ≡ 0
    → Suits g t → p.turns ≡ [] → p.sent ≡ [] → HasNoSigns p.signs → p.serial ≡ true → p.durable ≡ t → Begun (applied g units) t c p
begun g units t c p same state facts replays steps suits turns sent signs serial durable_is = record {
  application = same;
  state = state ∙ ap (λ (a : Application). started a t) same;
  beside = start_beside c p t facts replays state (subst (λ (a : Application). Suits a.generation t) (sym same) suits) durable_is;
  turns = turns;
  sent = sent;
  signs = signs;
  serial = serial;
  steps = steps;
}
