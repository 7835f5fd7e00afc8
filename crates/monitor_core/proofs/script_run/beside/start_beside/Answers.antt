use Rattle.std.proofs.Common.{◌≡◌, ap, subst, sym, ◌∙◌}
use Rattle.abstract_monitor.specs.Commands.{started}
use Rattle.abstract_monitor.specs.State.{Application}
use Rattle.application_types.specs.Generation.{Generated}
use Rattle.kdcs_types.specs.Tables.{TableRows}
use Rattle.laws_of_states.specs.Suits.{Suits}
use Rattle.monitor_core.specs.KeepingLaws.{durable_started}
use Rattle.monitor_core.specs.ResultsLaws.{if_both}
use Rattle.monitor_core.proofs.script_run.beside.start_beside.Goals as goal

suits_still : (g h : Generated) (t u : TableRows) → Suits g t → g ≡ h → u ≡ t → Suits h u
suits_still g h t u suits generation tables = subst (λ (x : Generated). Suits x u) generation (subst (Suits g) (sym tables) suits)

pub start-requires-clause-suits : goal.start-requires-clause-suits
start-requires-clause-suits c = suits_still _ _ _ _ c.tables-before.ensures.suits (ap (λ (x : Application). x.generation) c.into_application-generation.ensures.application) (c.in_ok-clone.ensures.cases ∙ c.requires.durable)

pub returns-clause-state : goal.returns-clause-state
returns-clause-state c =
    if_both _ _ _ c.start.result (λ d app state. state ∙ (λ i. started ((app ∙ sym c.into_application-generation.ensures.application) i) ((c.in_ok-clone.ensures.cases ∙ c.requires.durable) i))) c.start.ensures.application c.start.ensures.state

pub returns-clause-durable : goal.returns-clause-durable
returns-clause-durable c =
    if_both _ _ _ c.start.result (λ d app state. durable_started c.args.core d c.args.durable.now c.requires.durable (app ∙ sym c.into_application-generation.ensures.application) (state ∙ ap (started d.application) c.in_ok-clone.ensures.cases)) c.start.ensures.application c.start.ensures.state
