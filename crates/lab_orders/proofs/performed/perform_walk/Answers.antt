use Rattle.std.proofs.Common.{arith, refl, sym, ap, subst, ◌∙◌, List, ℕ}
use Rattle.std.specs.Prelude.{true}
use Rattle.abstract_monitor.specs.Commands.{started}
use Rattle.abstract_monitor.specs.Listing.{listing}
use Rattle.abstract_monitor.specs.State.{Application}
use Rattle.lab_walks.specs.Outcomes.{by_name}
use Rattle.laws_of_runs.specs.Applied.{applied}
use Rattle.laws_of_states.specs.Keeping.{IsScriptOf}
use Rattle.lab_orders.specs.Performing.{AreTasks, PerformedAll}
use Rattle.lab_orders.proofs.Ended.{found_is}
use Rattle.lab_orders.proofs.Finding.{start_still}
use Rattle.lab_orders.proofs.Performing.{left_work, walk_tasks}
use Rattle.lab_orders.proofs.performed.perform_walk.Goals as goal

pub perform_all-requires-clause-names : goal.perform_all-requires-clause-names
perform_all-requires-clause-names c = subst (λ (a : Application). IsScriptOf a c.args.commands.now) (sym c.in_ok-core.ensures.application) c.requires.start.names

pub perform_all-requires-clause-tasks : goal.perform_all-requires-clause-tasks
perform_all-requires-clause-tasks c =
    let app = applied c.args.generation c.args.units in
    subst (λ (x : Application × List ℕ). AreTasks x.0 x.1) (λ i. (sym c.in_ok-core.ensures.application i, sym c.as_slice.ensures i)) (walk_tasks app c.args.commands.now (started app c.args.tables.now) c.args.turns c.requires.walk)

pub perform_all-requires-clause-steps : goal.perform_all-requires-clause-steps
perform_all-requires-clause-steps c = omega (arith, c.requires.start.tries, c.in_ok-core.ensures.steps)

pub returns-then-not-is_over-clause-again : goal.returns-then-not-is_over-clause-again
returns-then-not-is_over-clause-again c =
    let left = subst (PerformedAll c.args.asks c.in_ok-core.core c.in_ok-core.path c.args.commands.now c.as_slice.result.now c.in_ok-core-2.core c.perform_all.new.path) c.if-not-is_over.true c.in_ok-core-2.ensures.performed in
    start_still (applied c.args.generation c.args.units) c.args.tables.now c.args.commands.now c.args.generation c.args.units c.requires.start c.in_ok-core-2.core (left.application ∙ c.in_ok-core.ensures.application) c.into_application-generation.result.0 c.into_application-generation.result.1 c.into_application-generation.ensures.application c.into_application-generation.ensures.fit

pub returns-then-not-is_over-clause-performed : goal.returns-then-not-is_over-clause-performed
returns-then-not-is_over-clause-performed c =
    let app = applied c.args.generation c.args.units in
    let left = subst (PerformedAll c.args.asks c.in_ok-core.core c.in_ok-core.path c.args.commands.now c.as_slice.result.now c.in_ok-core-2.core c.perform_all.new.path) c.if-not-is_over.true c.in_ok-core-2.ensures.performed in
    (refl, left.asked, left_work app c.args.tables.now c.args.commands.now c.in_ok-core.core c.in_ok-core.path c.in_ok-core.ensures c.args.asks c.as_slice.result.now c.in_ok-core-2.core left c.args.turns c.as_slice.ensures)

pub stands_still-requires-clause-facts : goal.stands_still-requires-clause-facts
stands_still-requires-clause-facts c =
    let script = subst (PerformedAll c.args.asks c.in_ok-core.core c.in_ok-core.path c.args.commands.now c.as_slice.result.now c.in_ok-core-2.core c.perform_all.new.path) c.if-not-is_over.false c.in_ok-core-2.ensures.performed in
    script.beside.facts

pub stands_still-requires-clause-steps : goal.stands_still-requires-clause-steps
stands_still-requires-clause-steps c = omega (arith, c.requires.start.tries, c.in_ok-core.ensures.steps, c.in_ok-core-2.ensures.steps)

pub returns-clause-again : goal.returns-clause-again
returns-clause-again c =
    let script = subst (PerformedAll c.args.asks c.in_ok-core.core c.in_ok-core.path c.args.commands.now c.as_slice.result.now c.in_ok-core-2.core c.perform_all.new.path) c.if-not-is_over.false c.in_ok-core-2.ensures.performed in
    start_still (applied c.args.generation c.args.units) c.args.tables.now c.args.commands.now c.args.generation c.args.units c.requires.start c.in_ok-core-2.core (script.application ∙ c.in_ok-core.ensures.application) c.in_ok-generation.generation c.in_ok-generation.units c.in_ok-generation.ensures.application c.in_ok-generation.ensures.fit

pub returns-clause-performed : goal.returns-clause-performed
returns-clause-performed c =
    let app = applied c.args.generation c.args.units in
    let script = subst (PerformedAll c.args.asks c.in_ok-core.core c.in_ok-core.path c.args.commands.now c.as_slice.result.now c.in_ok-core-2.core c.perform_all.new.path) c.if-not-is_over.false c.in_ok-core-2.ensures.performed in (
      refl,
      found_is app c.args.tables.now c.args.commands.now c.in_ok-core.core c.in_ok-core.path c.in_ok-core.ensures c.args.asks c.args.turns c.in_ok-core-2.core c.perform_all.new.path
          (subst (λ (w : List ℕ). PerformedAll c.args.asks c.in_ok-core.core c.in_ok-core.path c.args.commands.now w c.in_ok-core-2.core c.perform_all.new.path true) c.as_slice.ensures script)
          c.requires.known c.requires.walk _ refl refl (c.in_ok-lines.ensures ∙ ap by_name c.as_slice-2.ensures) (c.in_ok-tables.ensures ∙ ap listing c.tables.ensures.value) refl refl refl c.in_ok-generation.ensures.stands refl refl,
    )
