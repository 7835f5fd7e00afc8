use Rattle.std.proofs.Common.{arith, subst, sym, ◌∙◌}
use Rattle.abstract_monitor.specs.State.{Application}
use Rattle.laws_of_runs.specs.Applied.{applied}
use Rattle.laws_of_states.specs.Keeping.{IsScriptOf}
use Rattle.std.proofs.lemmas.Result.{IfOk-weaker}
use Rattle.abstract_monitor.specs.Commands.{started}
use Rattle.lab_walks.specs.Walks.{IsWalk}
use Rattle.lab_orders.specs.Finding.{CanStart, IsFound}
use Rattle.lab_orders.proofs.Finding.{start_from}
use Rattle.lab_orders.proofs.Found.{drawn_is}
use Rattle.lab_orders.proofs.draw.drawn_order.Goals as goal

pub drawn_walk-requires-clause-names : goal.drawn_walk-requires-clause-names
drawn_walk-requires-clause-names c = subst (λ (a : Application). IsScriptOf a c.args.commands.now) (sym c.in_ok-core.ensures.application) c.requires.names

pub drawn_walk-requires-clause-steps : goal.drawn_walk-requires-clause-steps
drawn_walk-requires-clause-steps c = omega (arith, c.requires.tries, c.in_ok-core.ensures.steps)

pub found_of-requires-clause-start : goal.found_of-requires-clause-start
found_of-requires-clause-start c =
    start_from (applied c.args.generation c.args.units) c.args.tables.now c.args.commands.now c.args.generation c.args.units c.requires c.in_ok-core-2.core (c.in_ok-core-2.ensures.application ∙ c.in_ok-core.ensures.application) c.into_application-generation.result.0 c.into_application-generation.result.1 c.into_application-generation.ensures.application c.into_application-generation.ensures.fit

pub found_of-requires-clause-walk : goal.found_of-requires-clause-walk
found_of-requires-clause-walk c =
    let app = applied c.args.generation c.args.units in
    subst (λ (a : Application). IsWalk a c.args.commands.now (started a c.args.tables.now) c.drawn_walk.new.path.turns) (sym (c.in_ok-core-2.ensures.application ∙ c.in_ok-core.ensures.application) ∙ c.into_application-generation.ensures.application)
    (drawn_is app c.args.tables.now c.args.commands.now c.in_ok-core.core c.in_ok-core.path c.in_ok-core.ensures c.in_ok-core-2.core c.drawn_walk.new.path c.in_ok-core-2.ensures)

pub returns-clause-again : goal.returns-clause-again
returns-clause-again c =
    IfOk-weaker c.found_of.result _ _
    (λ n h. subst (λ (a : Application). CanStart a c.args.tables.now c.args.commands.now n.0 n.1) (sym c.into_application-generation.ensures.application ∙ c.in_ok-core-2.ensures.application ∙ c.in_ok-core.ensures.application) h)
    c.found_of.ensures.again

pub returns-clause-order : goal.returns-clause-order
returns-clause-order c =
    IfOk-weaker c.found_of.result _ _
    (λ n h. subst (λ (a : Application). IsFound a c.args.tables.now c.args.commands.now n.2) (sym c.into_application-generation.ensures.application ∙ c.in_ok-core-2.ensures.application ∙ c.in_ok-core.ensures.application) h)
    c.found_of.ensures.found
